use Rattle.std.proofs.Common.{sym, ◌∙◌}
use Rattle.std.proofs.lemmas.Bool.{false≢true}
use Rattle.cspf_disjoint.proofs.pair.best_pair.Goals as goal

pub returns-then-not-has_router-2 : goal.returns-then-not-has_router-2
returns-then-not-has_router-2 c = (
  c.has_router.ensures.0 c.if-not-has_router.false,
  λ known. false≢true (sym c.if-not-has_router-2.true ∙ c.has_router-2.ensures.1 known),
)

pub checked-requires : goal.checked-requires
checked-requires c = record {
  ends = record { from = c.has_router.ensures.0 c.if-not-has_router.false; to = c.has_router-2.ensures.0 c.if-not-has_router-2.false };
}
