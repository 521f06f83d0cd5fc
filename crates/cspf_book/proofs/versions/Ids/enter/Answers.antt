use Rattle.std.proofs.Common.{Some, cond, ap, ◌∙◌}
use Rattle.cspf_book.specs.ById.{entered}
use Rattle.cspf_book.proofs.ById.{same_test}
use Rattle.cspf_book.proofs.versions.Ids.enter.Goals as goal

pub returns-clause-ok : goal.returns-clause-ok
returns-clause-ok c = record {
  at = λ other. c.in_ok-insert.ensures.updates.0 other ∙ ap (λ b. cond b (Some c.args.version) (entered c.args.self.now other)) (same_test c.args.id other);
}
