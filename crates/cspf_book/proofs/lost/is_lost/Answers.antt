use Rattle.std.proofs.Common.{inl, inr, not, sym, ap, subst, ◌∙◌}
use Rattle.std.proofs.lemmas.Bool.{false≢true}
use Rattle.cspf_book.proofs.UntouchedRoutes.{IsApart, untouched_admits}
use Rattle.cspf_book.proofs.lost.is_lost.Goals as goal
use Rattle.cspf_book.proofs.lost.is_lost.Goals.{then-has_no_affinities+then-not-may_affect-2, then-has_no_affinities+else-not-may_affect-2, else-has_no_affinities}

pub returns-then-not-may_affect : goal.returns-then-not-may_affect
returns-then-not-may_affect c = (
  λ yes. absurd (false≢true yes),
  λ lost.
      absurd (lost.broken
      (untouched_admits c.args.base.now c.args.changes.now c.args.touched.now c.requires.touched c.args.placement.now c.within_limits.ensures.keyed (inl c.requires.groups)
      (subst (IsApart c.args.touched.now) c.requires.bits (c.may_affect.ensures c.if-not-may_affect.true)) lost.admitted)),
)

pub returns-else-not-is_kept : goal.returns-else-not-is_kept
returns-else-not-is_kept c = (
  λ yes. absurd (false≢true (sym (ap not c.if-not-is_kept.false) ∙ yes)),
  λ lost. absurd (lost.broken (elim c.if-has_no_affinities.branch [
    | then-has_no_affinities+then-not-may_affect-2 w ↦
        untouched_admits c.args.base.now c.args.changes.now c.args.moved.now c.requires.moved c.args.placement.now c.within_limits.ensures.keyed
        (inr (c.has_no_affinities.ensures w.if-has_no_affinities.true))
        (subst (IsApart c.args.moved.now) c.requires.bits (w.may_affect-then-has_no_affinities.ensures w.if-not-may_affect-2.true)) lost.admitted
    | then-has_no_affinities+else-not-may_affect-2 w ↦ (w.still_admits.ensures lost.admitted).0 (sym w.is_kept-is ∙ c.if-not-is_kept.false)
    | else-has_no_affinities w ↦ (w.still_admits-is_kept.ensures lost.admitted).0 (sym w.is_kept-is ∙ c.if-not-is_kept.false)
  ])),
)
