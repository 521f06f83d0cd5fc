use Rattle.std.proofs.Common.{◌≡◌, ◌≤◌, ◌+◌, ◌*◌, ◌<◌, inl, inr, ℕ, length, set, refl, sym, ap, subst, arith, heap_items, Contains}
use Rattle.std.specs.declared.cmp.Reverse.{Reverse}
use Rattle.std.proofs.lemmas.List.{get_or-set_same}
use Rattle.std.proofs.lemmas.List.Elements.{Contains-append_left, Contains-push}
use Rattle.cspf_meet.specs.Labels.{IsWaiting, waiting_key, rank_at}
use Rattle.cspf_meet.proofs.Waiting.{falls_at, key_there, keys_there}
use Rattle.cspf_meet.proofs.labels.Labels.lower.Goals as goal

pub returns-in_ok-push-clause-falls : goal.returns-in_ok-push-clause-falls
returns-in_ok-push-clause-falls c =
    let ranks = c.args.self.now.ranks.items in
    let at = c.from.result in
    let within : c.from.result < length c.args.self.now.ranks.items = omega (arith, c.from.ensures, c.requires.within, c.args.self.now.many) in
    let less : c.args.rank ≤ rank_at c.args.self.now.ranks.items c.from.result = omega (arith, c.requires.less, ap (rank_at c.args.self.now.ranks.items) c.from.ensures) in
    let same : rank_at (set c.args.self.now.ranks.items c.from.result c.args.rank) c.from.result ≡ c.args.rank = get_or-set_same ranks at c.args.rank 0 within in
    let number : c.args.rank * 1024 + c.from-then-soon.result ≡ rank_at (set c.args.self.now.ranks.items c.from.result c.args.rank) c.from.result * 1024 + c.from.result = omega (arith, same, c.from.ensures, c.from-then-soon.ensures) in
    let is = ap (λ (n : ℕ). let key : Reverse ℕ = record { 0 = n } in key) number in
    let moved = c.in_ok-push.ensures.permutation in
    falls_at ranks (set ranks at c.args.rank) (IsWaiting c.args.self.now) _ at c.args.rank within refl less
    (inl (subst (Contains (heap_items c.push.new.self)) is (key_there _ _ _ moved)))
    (λ v ne kept before. elim before [
      | inl key ↦ inl (subst (λ r. Contains (heap_items c.push.new.self) (waiting_key r v)) (sym kept) (keys_there _ _ _ moved _ key))
      | inr skipped ↦ inr skipped
    ])

pub returns-in_ok-push-2-clause-falls : goal.returns-in_ok-push-2-clause-falls
returns-in_ok-push-2-clause-falls c =
    let ranks = c.args.self.now.ranks.items in
    let at = c.from.result in
    let within : c.from.result < length c.args.self.now.ranks.items = omega (arith, c.from.ensures, c.requires.within, c.args.self.now.many) in
    let less : c.args.rank ≤ rank_at c.args.self.now.ranks.items c.from.result = omega (arith, c.requires.less, ap (rank_at c.args.self.now.ranks.items) c.from.ensures) in
    let items = c.in_ok-push-2.ensures.items in
    falls_at ranks (set ranks at c.args.rank) (IsWaiting c.args.self.now) _ at c.args.rank within refl less
    (inr (rw items (subst (Contains _) (sym c.from.ensures) (Contains-push c.args.self.now.skipped.items c.args.place))))
    (λ v ne kept before. elim before [
      | inl key ↦ inl (subst (λ r. Contains (heap_items c.args.self.now.heap) (waiting_key r v)) (sym kept) key)
      | inr skipped ↦ inr (rw items (Contains-append_left c.args.self.now.skipped.items _ v skipped))
    ])
