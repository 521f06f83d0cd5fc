use Rattle.std.proofs.Common.{◌↔◌, IsTrue, subst}
use Rattle.cspf_model.specs.Targets.{Owns}
use Rattle.cspf_db.proofs.table.Table.owns.Goals as goal

pub returns-in-Some : goal.returns-in-Some
returns-in-Some c = subst (λ r. IsTrue c.owns_within.result ↔ Owns c.args.self.now c.args.prefix r) c.in-Some.ensures.some c.owns_within.ensures
