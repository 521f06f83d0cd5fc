use Rattle.std.proofs.Common.{◌≡◌, ◌+◌, ◌*◌, inl, ℕ, set, ap, subst, arith, heap_items, Contains}
use Rattle.std.specs.declared.cmp.Reverse.{Reverse}
use Rattle.cspf_meet.specs.Labels.{rank_at}
use Rattle.cspf_meet.proofs.Waiting.{begun, key_there}
use Rattle.cspf_meet.proofs.guided.Guided.begin.Goals as goal

pub returns-clause-waits : goal.returns-clause-waits
returns-clause-waits c bounds same =
    let first = (begun c.in_ok-from_elem.field-0.items c.from.result c.args.place (c.in_ok-from_elem.ensures.items_if_clones_equal (λ y same. same)) c.from.ensures c.requires.within).0 in
    let number : c.args.bound * 1024 + c.from-2.result ≡ (rank_at (set c.in_ok-from_elem.field-0.items c.from.result 0) c.args.place + bounds c.args.place) * 1024 + c.args.place = omega (arith, first, same, c.from-2.ensures) in
    let is = ap (λ (n : ℕ). let key : Reverse ℕ = record { 0 = n } in key) number in
    inl (subst (Contains (heap_items c.push.new.self)) is (key_there _ _ _ c.in_ok-push.ensures.permutation))

pub returns-clause-others : goal.returns-clause-others
returns-clause-others c = (begun c.in_ok-from_elem.field-0.items c.from.result c.args.place (c.in_ok-from_elem.ensures.items_if_clones_equal (λ y same. same)) c.from.ensures c.requires.within).1

pub returns-clause-small : goal.returns-clause-small
returns-clause-small c = (begun c.in_ok-from_elem.field-0.items c.from.result c.args.place (c.in_ok-from_elem.ensures.items_if_clones_equal (λ y same. same)) c.from.ensures c.requires.within).2
