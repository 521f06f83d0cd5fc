use Rattle.cspf_meet.proofs.search.best_from_both_ends.Goals as goal

pub returns-in_default-place_of : goal.returns-in_default-place_of
returns-in_default-place_of c = (
  c.listed.ensures.known c.args.request.now.from c.in-Some.from (record { within = c.in-Some.ensures.bound; is = c.in-Some.ensures.some }),
  c.in_default-place_of.ensures.none,
)

pub answer-requires-clause-ends : goal.answer-requires-clause-ends
answer-requires-clause-ends c = record {
  from = c.listed.ensures.known c.args.request.now.from c.in-Some.from (record { within = c.in-Some.ensures.bound; is = c.in-Some.ensures.some });
  to = c.listed.ensures.known c.args.request.now.to c.in-Some-place_of.to (record { within = c.in-Some-place_of.ensures.bound; is = c.in-Some-place_of.ensures.some });
}
