use Rattle.std.proofs.Common.{inl, inr, sym, subst, ◌∙◌}
use Rattle.cspf_model.specs.Database.{HasTransit}
use Rattle.cspf_disjoint.proofs.excess.may_be_used.Goals as goal

pub returns-then-may_be_left : goal.returns-then-may_be_left
returns-then-may_be_left c = (
  λ yes. record {
    admissible = record { link = c.requires.link; usable = c.admissible.ensures.0 yes };
    leaves = elim (c.may_be_left.ensures.0 c.if-may_be_left.true) [
      | inl transit ↦ inr (subst (HasTransit c.args.table.now) c.requires.from.is transit)
      | inr head ↦ inl (sym c.requires.from.is ∙ head)
    ];
  },
  λ used. c.admissible.ensures.1 used.admissible.usable,
)
