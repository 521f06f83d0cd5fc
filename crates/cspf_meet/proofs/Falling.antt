-- Lemmas on ranks that fall while a search looks at links.
use Rattle.std.proofs.Common.{◌≡◌, ◌≢◌, ◌⊎◌, inl, inr, ℕ, ◌+◌, ◌<◌, ◌≤◌, List, [], ◌∷◌, ◌++◌, length, take, slice_index_or, refl, sym, ap, subst, ◌∙◌, arith}
use Rattle.std.specs.List.{All}
use Rattle.std.proofs.lemmas.List.{take_more}
use Rattle.std.proofs.lemmas.List.Elements.{All-push, All-weaker}
use Rattle.cspf_model.specs.declared.request.Request.{Request}
use Rattle.cspf_model.specs.Database.{Database}
use Rattle.cspf_graph.proofs.RouterIndexes.{same_or_not}
use Rattle.cspf_meet.specs.declared.bounds.HeadBounds.{HeadBounds}
use Rattle.cspf_meet.specs.declared.corridor.Corridor.{Corridor}
use Rattle.cspf_meet.specs.declared.labels.Labels.{Labels}
use Rattle.cspf_meet.specs.Bounds.{head_bound}
use Rattle.cspf_meet.specs.Corridors.{AreNarrowed, CorridorFalls, IsCorridor, NeedsNoLook, IsToDo}
use Rattle.cspf_meet.specs.Labels.{RanksFall, IsNextWaiting, IsWaiting, LabelsFall, rank_at}
use Rattle.cspf_meet.specs.Looks.{AreLookedAt, AreStepsPassed, IsStepPassed}

pub falls_on : (a b c : List ℕ) (A B C : ℕ → Type 0) → RanksFall a b A B → RanksFall b c B C → RanksFall a c A C
falls_on a b c A B C first next = record {
  lower = λ v. omega (arith, first.lower v, next.lower v);
  kept = λ v.
      elim (next.kept v) [
        | inl waits ↦ inl waits
        | inr same ↦ elim (first.kept v) [
          | inl waits ↦ inl (same.1 waits)
          | inr before ↦ inr (same.0 ∙ before.0, λ w. same.1 (before.1 w))
        ]
      ];
}

pub falls_none : (a : List ℕ) (A B : ℕ → Type 0) → ((v : ℕ) → A v → B v) → RanksFall a a A B
falls_none a A B kept = record { lower = λ v. omega arith; kept = λ v. inr (refl, kept v) }

-- A step stays passed after ranks have fallen.
pub passed_still : (old new most least rank step : ℕ) → new ≤ old → least ≤ most → IsStepPassed old most rank step → IsStepPassed new least rank step
passed_still old new most least rank step lower less passed =
    elim passed [
      | inl h ↦ inl (record { low = omega (arith, h.low, lower); some = λ far. omega (arith, h.some far, lower) })
      | inr h ↦ inr (record { high = omega (arith, h.high, less); met = omega (arith, h.met, less) })
    ]

module _ (Steps : ℕ → ℕ → ℕ → Type 0) where
  -- `AreStepsPassed` still holds after ranks have fallen.
  pub passed_on : (old new : List ℕ) (most least rank v : ℕ) → ((w : ℕ) → rank_at new w ≤ rank_at old w) → least ≤ most → AreStepsPassed Steps old most rank v → AreStepsPassed Steps new least rank v
  passed_on old new most least rank v lower less before w step leads = passed_still (rank_at old w) (rank_at new w) most least rank step (lower w) less (before w step leads)

  -- After the search has looked at one more router, `AreLookedAt` still holds.
  pub looked_on : (old mid new : Labels) (place rank most least : ℕ) → mid.ranks ≡ old.ranks → IsNextWaiting old mid place rank → LabelsFall mid new → least ≤ most
      → AreStepsPassed Steps new.ranks.items least rank place → AreLookedAt Steps old most → AreLookedAt Steps new least
  looked_on old mid new place rank most least ranks next falls less passed before v low =
      let kept : (w : ℕ) → rank_at mid.ranks.items w ≡ rank_at old.ranks.items w = λ w. ap (λ rs. rank_at rs.items w) ranks in
      elim (falls.kept v) [
        | inl waits ↦ inr waits
        | inr same ↦
            let is : rank_at new.ranks.items v ≡ rank_at old.ranks.items v = same.0 ∙ kept v in
            elim (before v low) [
              | inl looked ↦ inl (subst (λ r. AreStepsPassed Steps new.ranks.items least r v) (sym is)
                  (passed_on old.ranks.items new.ranks.items most least (rank_at old.ranks.items v) v (λ w. omega (arith, falls.lower w, kept w)) less looked))
              | inr waits ↦ elim (next.left v low waits) [
                | inl here ↦
                    let there : rank ≡ rank_at new.ranks.items v = sym next.same ∙ ap (rank_at old.ranks.items) (sym here) ∙ sym is in
                    inl (subst (λ r. AreStepsPassed Steps new.ranks.items least r v) there (subst (AreStepsPassed Steps new.ranks.items least rank) (sym here) passed))
                | inr still ↦ inr (same.1 still)
              ]
            ]
      ]

  -- If no key of the heap counts, `AreLookedAt` still holds after the heap is emptied.
  pub looked_same : (old new : Labels) (most : ℕ) → new.ranks ≡ old.ranks → ((v : ℕ) → v < 1024 → IsWaiting old v → IsWaiting new v) → AreLookedAt Steps old most → AreLookedAt Steps new most
  looked_same old new most ranks kept before v low =
      elim (before v low) [
        | inl looked ↦ inl (rw ranks looked)
        | inr waits ↦ inr (kept v low waits)
      ]

  -- Before any router is looked at, `AreLookedAt` holds.
  pub looked_begun : (labels : Labels) (place most : ℕ) → IsWaiting labels place → ((v : ℕ) → v < 1024 → v ≢ place → rank_at labels.ranks.items v ≡ 9007199254740992)
      → ((v : ℕ) → rank_at labels.ranks.items v ≤ 9007199254740992) → AreLookedAt Steps labels most
  looked_begun labels place most waits others small v low =
      elim (same_or_not v place) [
        | inl here ↦ inr (subst (IsWaiting labels) (sym here) waits)
        | inr ne ↦ inl (λ w step leads. inl (record { low = omega (arith, small w, others v low ne); some = λ far. omega (arith, far, others v low ne) }))
      ]

  pub looked_less : (labels : Labels) (most least : ℕ) → least ≤ most → AreLookedAt Steps labels most → AreLookedAt Steps labels least
  looked_less labels most least less before v low =
      elim (before v low) [
        | inl looked ↦ inl (passed_on labels.ranks.items labels.ranks.items most least (rank_at labels.ranks.items v) v (λ w. omega arith) less looked)
        | inr waits ↦ inr waits
      ]

module _ (d : Database) (q : Request) (head : HeadBounds) where
  pub narrowed_on : (old new : List ℕ) (rank v : ℕ) → ((w : ℕ) → rank_at new w ≤ rank_at old w) → AreNarrowed d q head old rank v → AreNarrowed d q head new rank v
  narrowed_on old new rank v lower before u step leads =
      elim (before u step leads) [
        | inl h ↦ inl (omega (arith, h, lower u))
        | inr h ↦ inr h
      ]

  past_on : (old new : List ℕ) (v : ℕ) → ((w : ℕ) → rank_at new w ≤ rank_at old w) → rank_at new v ≡ rank_at old v → NeedsNoLook d q head old v → NeedsNoLook d q head new v
  past_on old new v lower same past =
      elim past [
        | inl looked ↦ inl (subst (λ r. AreNarrowed d q head new r v) (sym same) (narrowed_on old new (rank_at old v) v lower looked))
        | inr beyond ↦ inr (subst (λ r. head.most < r + head_bound head v) (sym same) beyond)
      ]

  -- After the search has looked at one more router of the corridor, `IsCorridor` still holds.
  pub corridor_on : (old mid new : Corridor) (place : ℕ) → mid.near ≡ old.near → ((v : ℕ) → IsToDo old v → (v ≡ place) ⊎ IsToDo mid v) → CorridorFalls mid new
      → (rank_at new.near.items place ≡ rank_at old.near.items place → NeedsNoLook d q head new.near.items place)
      → IsCorridor d q head old → IsCorridor d q head new
  corridor_on old mid new place near left falls passed before v low =
      let kept : (w : ℕ) → rank_at mid.near.items w ≡ rank_at old.near.items w = λ w. ap (λ rs. rank_at rs.items w) near in
      elim (falls.kept v) [
        | inl waits ↦ inr waits
        | inr same ↦
            let is : rank_at new.near.items v ≡ rank_at old.near.items v = same.0 ∙ kept v in
            elim (before v low) [
              | inl past ↦ inl (past_on old.near.items new.near.items v (λ w. omega (arith, falls.lower w, kept w)) is past)
              | inr waits ↦ elim (left v waits) [
                | inl here ↦ inl (subst (NeedsNoLook d q head new.near.items) (sym here) (passed (subst (λ w. rank_at new.near.items w ≡ rank_at old.near.items w) here is)))
                | inr still ↦ inr (same.1 still)
              ]
            ]
      ]

-- What holds of the first elements of a list, and of the next one, holds of one element more.
pub one_more : {A : Type 0} (P Q : A → Type 0) (xs : List A) (k : ℕ) (x : A) → k < length xs → x ≡ slice_index_or xs k x → ((y : A) → P y → Q y) → All P (take k xs) → Q x → All Q (take (k + 1) xs)
one_more {A} P Q xs k x within is weaker all here =
    let more : take (k + 1) xs ≡ take k xs ++ (x ∷ []) = take_more xs k x within ∙ ap (λ (y : A). take k xs ++ (y ∷ [])) (sym is) in
    rw more (All-push Q (take k xs) x (All-weaker P Q weaker (take k xs) all) here)
