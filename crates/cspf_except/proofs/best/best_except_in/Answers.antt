use Rattle.cspf_except.proofs.best.best_except_in.Goals as goal

pub answer_from_known-requires : goal.answer_from_known-requires
answer_from_known-requires c = c.has_router.ensures.0 c.if-has_router.true
