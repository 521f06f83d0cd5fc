-- Lemmas on the corridor.
use Rattle.std.proofs.Common.{◌≡◌, ◌⊎◌, inl, inr, ℕ, ◌+◌, ◌*◌, ◌/◌, ◌%◌, ◌<◌, List, [], ◌∷◌, heap_items, sym, ap, subst, arith, rules}
use Rattle.std.specs.List.{All, Contains}
use Rattle.std.specs.declared.cmp.Reverse.{Reverse}
use Rattle.std.proofs.lemmas.List.Elements.{All-contains, Contains-append_cases}
use Rattle.cspf_model.specs.declared.request.Request.{Request}
use Rattle.cspf_model.specs.Database.{Database}
use Rattle.cspf_meet.specs.declared.bounds.HeadBounds.{HeadBounds}
use Rattle.cspf_meet.specs.declared.corridor.Corridor.{Corridor}
use Rattle.cspf_meet.specs.declared.labels.Labels.{Labels}
use Rattle.cspf_meet.specs.Bounds.{head_bound}
use Rattle.cspf_meet.specs.Corridors.{AreNarrowed, NoneNeedsLook, IsCorridor, NeedsNoLook, IsToDo}
use Rattle.cspf_meet.specs.Labels.{waiting_key, rank_at}
use Rattle.cspf_meet.specs.Looks.{AreLookedAt, AreStepsPassed, LeadsBack}
use Rattle.cspf_meet.proofs.Waiting.{key_place, key_rank}

only : (x y : ℕ) → Contains (x ∷ []) y → x ≡ y
only x y h = search rules

nothing : (v : ℕ) → Contains [] v → ⊥
nothing v has = omega (arith, has.1)

-- The first of the routers that wait is the given one, or it waits among the others.
pub first_or_left : (place : ℕ) (left all : List ℕ) → all ≡ place ∷ left → (v : ℕ) → Contains all v → (v ≡ place) ⊎ Contains left v
first_or_left place left all is v has =
    elim (Contains-append_cases (place ∷ []) left v (rw is at has)) [
      | inl here ↦ inl (sym (only place v here))
      | inr there ↦ inr there
    ]

module _ (d : Database) (q : Request) (head : HeadBounds) where
  -- What the search from the tail-end has found holds in the corridor.
  narrowed_of : (ranks : List ℕ) (rank v : ℕ) → AreStepsPassed (LeadsBack d q) ranks head.most rank v → AreNarrowed d q head ranks rank v
  narrowed_of ranks rank v passed u step leads =
      elim (passed u step leads) [
        | inl known ↦ inl known.low
        | inr beyond ↦ inr (omega (arith, beyond.high))
      ]

  -- At the end of the search from the tail-end, each router needs no look in the corridor, or waits.
  pub corridor_begun : (back : Labels) (corridor : Corridor) → corridor.near ≡ back.ranks
      → All (λ (key : Reverse ℕ). (head.most < key.0 / 1024 + head_bound head (key.0 % 1024)) ⊎ IsToDo corridor (key.0 % 1024)) (heap_items back.heap)
      → All (λ place. (head.most < rank_at back.ranks.items place + head_bound head place) ⊎ IsToDo corridor place) back.skipped.items
      → AreLookedAt (LeadsBack d q) back head.most → IsCorridor d q head corridor
  corridor_begun back corridor near keys places looked v low =
      let same : rank_at corridor.near.items v ≡ rank_at back.ranks.items v = ap (λ rs. rank_at rs.items v) near in
      let far : head.most < rank_at back.ranks.items v + head_bound head v → NeedsNoLook d q head corridor.near.items v = λ high. inr (subst (λ r. head.most < r + head_bound head v) (sym same) high) in
      elim (looked v low) [
        | inl passed ↦ inl (inl (rw near (narrowed_of back.ranks.items (rank_at back.ranks.items v) v passed)))
        | inr (inl key) ↦
            let place = key_place (rank_at back.ranks.items v) v low in
            let rank = key_rank (rank_at back.ranks.items v) v low in
            elim (All-contains (λ (k : Reverse ℕ). (head.most < k.0 / 1024 + head_bound head (k.0 % 1024)) ⊎ IsToDo corridor (k.0 % 1024)) (heap_items back.heap) (waiting_key (rank_at back.ranks.items v) v) keys key) [
              | inl high ↦ inl (far (subst (λ p. head.most < rank_at back.ranks.items v + head_bound head p) place (subst (λ r. head.most < r + head_bound head ((rank_at back.ranks.items v * 1024 + v) % 1024)) rank high)))
              | inr waits ↦ inr (subst (IsToDo corridor) place waits)
            ]
        | inr (inr skipped) ↦ elim (All-contains (λ place. (head.most < rank_at back.ranks.items place + head_bound head place) ⊎ IsToDo corridor place) back.skipped.items v places skipped) [
          | inl high ↦ inl (far high)
          | inr waits ↦ inr waits
        ]
      ]

  -- If no router waits, each router needs no look.
  pub all_past : (corridor : Corridor) → corridor.todo.items ≡ [] → IsCorridor d q head corridor → NoneNeedsLook d q head corridor.near.items
  all_past corridor none before v low =
      elim (before v low) [
        | inl past ↦ past
        | inr waits ↦ absurd (nothing v (rw none at waits))
      ]
