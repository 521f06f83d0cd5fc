use Rattle.std.proofs.Common.{◌≡◌, ◌⊎◌, inl, inr, ◌<◌, ◌/◌, ◌%◌, ℕ, ◌+◌, heap_items, subst, ◌∙◌}
use Rattle.std.specs.declared.cmp.Reverse.{Reverse}
use Rattle.std.proofs.lemmas.List.Elements.{All-weaker}
use Rattle.cspf_meet.specs.Bounds.{head_bound}
use Rattle.cspf_meet.specs.Corridors.{IsToDo}
use Rattle.cspf_meet.specs.Labels.{rank_at}
use Rattle.cspf_meet.proofs.Corridors.{corridor_begun}
use Rattle.cspf_meet.proofs.corridor.Corridor.begin.Goals as goal

pub returns-clause-waits : goal.returns-clause-waits
returns-clause-waits c d q looked =
    let head = c.args.head in
    let near : c.add_places.new.self.near ≡ c.args.back.ranks = c.add_places.ensures.near ∙ c.add_keys.ensures.near in
    let keys = rw c.as_slice.ensures.value at c.in_ok-add_keys.ensures.added in
    let places = rw c.deref.ensures.value at c.in_ok-add_places.ensures.added in
    corridor_begun d q head c.args.back c.add_places.new.self near
    (All-weaker (λ (key : Reverse ℕ). (c.args.head.most < key.0 / 1024 + head_bound c.args.head (key.0 % 1024)) ⊎ IsToDo c.add_keys.new.self (key.0 % 1024))
    (λ (key : Reverse ℕ). (c.args.head.most < key.0 / 1024 + head_bound c.args.head (key.0 % 1024)) ⊎ IsToDo c.add_places.new.self (key.0 % 1024))
    (λ key h. elim h [ inl far ↦ inl far | inr waits ↦ inr (c.in_ok-add_places.ensures.kept _ waits) ]) (heap_items c.args.back.heap) keys)
    (All-weaker (λ (place : ℕ). (c.args.head.most < rank_at c.add_keys.new.self.near.items place + head_bound c.args.head place) ⊎ IsToDo c.add_places.new.self place)
    (λ (place : ℕ). (c.args.head.most < rank_at c.args.back.ranks.items place + head_bound c.args.head place) ⊎ IsToDo c.add_places.new.self place)
    (λ place h. elim h [ inl far ↦ inl (subst (λ rs. c.args.head.most < rank_at rs.items place + head_bound c.args.head place) c.add_keys.ensures.near far) | inr waits ↦ inr waits ]) c.args.back.skipped.items places)
    looked
