use Rattle.cspf_except.proofs.best.answer_from_known.Goals as goal

pub answer_between_known-requires : goal.answer_between_known-requires
answer_between_known-requires c = record { from = c.requires; to = c.has_router.ensures.0 c.if-has_router.true }
