use Rattle.std.proofs.Common.{sym, subst, ◌∙◌}
use Rattle.std.proofs.Common.{length}
use Rattle.cspf_model.specs.Admissible.{MayLeave}
use Rattle.cspf_disjoint.proofs.ways.may_come_next.Goals as goal

pub returns : goal.returns
returns c = λ yes.
    let from = c.begins_at.ensures.0 c.if-not-begins_at.false in
    record {
      admissible = record { link = c.requires.link; usable = c.admissible.ensures.0 yes };
      joined = from ∙ c.requires.at;
      leaves = subst (λ r. MayLeave c.args.table.now r (length c.args.walk.now)) (sym from) (c.may_go_on.ensures.0 c.if-not-may_go_on.false);
    }
