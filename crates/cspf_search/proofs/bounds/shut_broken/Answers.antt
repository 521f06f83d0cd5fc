use Rattle.std.proofs.Common.{◌∙◌, inl, inr, arith}
use Rattle.cspf_search.proofs.Broken.{broken_bounds}
use Rattle.cspf_graph.proofs.RoleLists.{head_alone}
use Rattle.cspf_search.proofs.bounds.shut_broken.Goals as goal

pub first_broken-requires-clause-head : goal.first_broken-requires-clause-head
first_broken-requires-clause-head c = head_alone c.args.query.table.now c.args.query.request.now c.requires.query.listed c.args.from c.requires.from

pub starts_of-requires-clause-head : goal.starts_of-requires-clause-head
starts_of-requires-clause-head c = head_alone c.args.query.table.now c.args.query.request.now c.requires.query.listed c.args.from c.requires.from

pub returns-clause-found : goal.returns-clause-found
returns-clause-found c _ =
    let shut = c.shut.ensures in
    let shut_at = c.shut_at.ensures in
    broken_bounds c.args.query.table.now c.args.query.request.now c.requires.query.listed c.in-Some.leg_index c.in-Some.ensures c.starts_of.result.now c.starts_of.ensures
    c.shut_at.new.bounds (c.shut_at.auto.bounds ∙ c.shut.auto.bounds ∙ c.requires.many)
    (λ i low. elim (shut_at.others i) [ inl kept ↦ kept ∙ shut.before i low | inr at ↦ absurd (omega (arith, low, at.2)) ])
    shut_at.shut
    (λ i high. elim (shut_at.others i) [ inl kept ↦ inl (kept ∙ shut.others i high ∙ c.requires.zeros i) | inr at ↦ inr at ])
