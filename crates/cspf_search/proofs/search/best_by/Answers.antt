use Rattle.cspf_search.proofs.search.best_by.Goals as goal

pub returns-in_default-place_of : goal.returns-in_default-place_of
returns-in_default-place_of c = (
  c.listed.ensures.known c.args.request.now.from c.in-Some.from (record { within = c.in-Some.ensures.bound; is = c.in-Some.ensures.some }),
  c.in_default-place_of.ensures.none,
)

pub searched-requires-clause-known : goal.searched-requires-clause-known
searched-requires-clause-known c = c.listed.ensures.known c.args.request.now.from c.in-Some.from (record { within = c.in-Some.ensures.bound; is = c.in-Some.ensures.some })

pub answer-requires-clause-ends : goal.answer-requires-clause-ends
answer-requires-clause-ends c = record {
  from = c.listed.ensures.known c.args.request.now.from c.in-Some.from (record { within = c.in-Some.ensures.bound; is = c.in-Some.ensures.some });
  to = c.listed.ensures.known c.args.request.now.to c.in-Some-place_of.to (record { within = c.in-Some-place_of.ensures.bound; is = c.in-Some-place_of.ensures.some });
}

pub answer-requires-clause-searched : goal.answer-requires-clause-searched
answer-requires-clause-searched c = rw c.deref-3.ensures.value c.in_ok-nodes.ensures
