use Rattle.cspf_meet.proofs.by_bounds.best_by_bounds.Goals as goal

pub answer-requires-clause-ends : goal.answer-requires-clause-ends
answer-requires-clause-ends g c = record {
  from = c.listed.ensures.known c.args.request.now.from c.in-Some-Some.from (record { within = c.in-Some-Some.ensures.bound; is = c.in-Some-Some.ensures.some });
  to = c.listed.ensures.known c.args.request.now.to c.in-Some-Some.to (record { within = c.in-Some-Some.ensures'.bound; is = c.in-Some-Some.ensures'.some });
}
