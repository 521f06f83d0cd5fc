-- Lemmas on the search from the head-end that lower bounds guide.
use Rattle.std.proofs.Common.{◌≡◌, ◌≢◌, ◌⊎◌, inl, inr, ℕ, ◌+◌, ◌-◌, ◌*◌, ◌<◌, ◌≤◌, max, min, List, ◌∷◌, length, set, heap_items, sym, ap, subst, ◌∙◌, arith}
use Rattle.std.specs.List.{Contains}
use Rattle.std.specs.List.Sorted.{IsPermutation}
use Rattle.std.specs.declared.cmp.Reverse.{Reverse}
use Rattle.std.proofs.lemmas.Bool.{cases_lt}
use Rattle.std.proofs.lemmas.List.{get_or-set_same}
use Rattle.cspf_model.specs.declared.request.Request.{Request}
use Rattle.cspf_model.specs.Database.{Database}
use Rattle.cspf_graph.specs.Lists.{AreListed, IsIndexOf}
use Rattle.cspf_graph.proofs.RouterIndexes.{one_place, same_or_not}
use Rattle.cspf_meet.specs.declared.bounds.HeadBounds.{HeadBounds}
use Rattle.cspf_meet.specs.declared.guided.Guided.{Guided}
use Rattle.cspf_meet.specs.Bounds.{head_bound}
use Rattle.cspf_meet.specs.Corridors.{NoneNeedsLook}
use Rattle.cspf_meet.specs.Guided.{AreGuided, AreStepsGuided, GuidedFalls, IsGuidedWaiting, IsStepGuided, guided_key}
use Rattle.cspf_meet.specs.Labels.{rank_at}
use Rattle.cspf_meet.proofs.Falling.{falls_on}
use Rattle.cspf_meet.proofs.Waiting.{falls_at, key_there, keys_there}
use Rattle.cspf_walk.specs.Ways.{IsRankBound, Leads}

-- The key is among the keys of a heap, or it is the next.
abbrev pub IsKeyIn : List (Reverse ℕ) → ℕ → ℕ → Type 0
IsKeyIn keys next k = Contains keys (record { 0 = k }) ⊎ ((next ≡ k) × (next < 18446744073709551615))

-- If the lesser of two keys becomes the next and the greater one is put into the heap, both wait,
-- and so do all keys that waited.
pub keys_kept : (old new : List (Reverse ℕ)) (before next key later : ℕ) → later ≡ max key before → next ≡ min key before → key < 18446744073709551615
    → IsPermutation (record { 0 = later } ∷ old) new → (k : ℕ) → (k ≡ key) ⊎ IsKeyIn old before k → IsKeyIn new next k
keys_kept old new before next key later greater lesser small moved k (inr (inl there)) = inl (keys_there (record { 0 = later }) old new moved (record { 0 = k }) there)
keys_kept old new before next key later greater lesser small moved k (inl here) =
    elim (cases_lt key before) [
      | inl less ↦ inr (omega (arith, less, lesser, here), omega (arith, less, lesser, small))
      | inr no_less ↦
          let number : later ≡ k = omega (arith, no_less, greater, here) in
          inl (subst (Contains new) (ap (λ (n : ℕ). let x : Reverse ℕ = record { 0 = n } in x) number) (key_there (record { 0 = later }) old new moved))
    ]
keys_kept old new before next key later greater lesser small moved k (inr (inr was)) =
    elim (cases_lt key before) [
      | inl less ↦
          let number : later ≡ k = omega (arith, less, greater, was.0) in
          inl (subst (Contains new) (ap (λ (n : ℕ). let x : Reverse ℕ = record { 0 = n } in x) number) (key_there (record { 0 = later }) old new moved))
      | inr no_less ↦ inr (omega (arith, no_less, lesser, was.0), omega (arith, no_less, lesser, was.1))
    ]

-- The labels fall if one rank is lowered, the key of its router waits afterwards, and so do all keys
-- that waited.
pub lowered : (bounds : ℕ → ℕ) (old new : Guided) (at rank key : ℕ) → at < length old.ranks.items → new.ranks.items ≡ set old.ranks.items at rank → rank ≤ rank_at old.ranks.items at
    → key ≡ (rank + bounds at) * 1024 + at → ((k : ℕ) → (k ≡ key) ⊎ IsKeyIn (heap_items old.heap) old.next k → IsKeyIn (heap_items new.heap) new.next k) → new.most ≤ old.most → GuidedFalls bounds old new
lowered bounds old new at rank key within is less same kept most =
    let there : rank_at new.ranks.items at ≡ rank = ap (λ rs. rank_at rs at) is ∙ get_or-set_same old.ranks.items at rank 0 within in
    record {
      ranks = falls_at old.ranks.items new.ranks.items (IsGuidedWaiting bounds old) (IsGuidedWaiting bounds new) at rank within is less
          (kept (guided_key bounds new at) (inl (omega (arith, same, there))))
          (λ v ne keeps before. subst (λ r. IsKeyIn (heap_items new.heap) new.next ((r + bounds v) * 1024 + v)) (sym keeps) (kept (guided_key bounds old v) (inr before)));
      most = most;
    }

-- The labels have fallen from the first to the last.
pub guided_falls_on : (bounds : ℕ → ℕ) (old mid new : Guided) → GuidedFalls bounds old mid → GuidedFalls bounds mid new → GuidedFalls bounds old new
guided_falls_on bounds old mid new first next = record {
  ranks = falls_on old.ranks.items mid.ranks.items new.ranks.items (IsGuidedWaiting bounds old) (IsGuidedWaiting bounds mid) (IsGuidedWaiting bounds new) first.ranks next.ranks;
  most = omega (arith, first.most, next.most);
}

-- A step stays passed after the labels have fallen.
pub step_on : (bounds : ℕ → ℕ) (old new : Guided) → GuidedFalls bounds old new → (rank w step : ℕ) → IsStepGuided bounds old.ranks.items old.most rank w step → IsStepGuided bounds new.ranks.items new.most rank w step
step_on bounds old new falls rank w step (inl h) = inl (omega (arith, h, falls.ranks.lower w))
step_on bounds old new falls rank w step (inr h) = inr (omega (arith, h, falls.most))

module _ (d : Database) (q : Request) (bounds : ℕ → ℕ) where
  -- Steps stay passed after the labels have fallen.
  steps_on : (old new : List ℕ) (most least rank v : ℕ) → ((w : ℕ) → rank_at new w ≤ rank_at old w) → least ≤ most → AreStepsGuided d q bounds old most rank v → AreStepsGuided d q bounds new least rank v
  steps_on old new most least rank v lower less before w step leads =
      elim (before w step leads) [
        | inl h ↦ inl (omega (arith, h, lower w))
        | inr h ↦ inr (omega (arith, h, less))
      ]

  -- After the search has looked at one more router, `AreGuided` still holds.
  pub guided_on : (old mid new : Guided) (place rank : ℕ) → mid.ranks ≡ old.ranks → mid.most ≡ old.most
      → ((v : ℕ) → v < 1024 → IsGuidedWaiting bounds old v → (v ≡ place) ⊎ IsGuidedWaiting bounds mid v) → rank_at old.ranks.items place ≡ rank
      → GuidedFalls bounds mid new → AreStepsGuided d q bounds new.ranks.items new.most rank place → AreGuided d q bounds old → AreGuided d q bounds new
  guided_on old mid new place rank ranks most left here falls passed before v low =
      let kept : (w : ℕ) → rank_at mid.ranks.items w ≡ rank_at old.ranks.items w = λ w. ap (λ rs. rank_at rs.items w) ranks in
      elim (falls.ranks.kept v) [
        | inl waits ↦ inr waits
        | inr same ↦
            let is : rank_at new.ranks.items v ≡ rank_at old.ranks.items v = same.0 ∙ kept v in
            elim (before v low) [
              | inl looked ↦ inl (subst (λ r. AreStepsGuided d q bounds new.ranks.items new.most r v) (sym is)
                  (steps_on old.ranks.items new.ranks.items old.most new.most (rank_at old.ranks.items v) v (λ w. omega (arith, falls.ranks.lower w, kept w)) (omega (arith, falls.most, most)) looked))
              | inr waits ↦ elim (left v low waits) [
                | inl at ↦
                    let there : rank ≡ rank_at new.ranks.items v = sym here ∙ ap (rank_at old.ranks.items) (sym at) ∙ sym is in
                    inl (subst (λ r. AreStepsGuided d q bounds new.ranks.items new.most r v) there (subst (AreStepsGuided d q bounds new.ranks.items new.most rank) (sym at) passed))
                | inr still ↦ inr (same.1 still)
              ]
            ]
      ]

  -- If each way over a router has a greater rank than `most`, each step from there is passed.
  pub far_passed : IsRankBound d q bounds → (ranks : List ℕ) (most rank v : ℕ) → most < rank + bounds v → AreStepsGuided d q bounds ranks most rank v
  far_passed is ranks most rank v far w step leads = inr (omega (arith, far, is.links v w step leads))

  -- After a key is taken from those that wait, `AreGuided` still holds if each router whose key this
  -- is needs no look.
  pub guided_left : (old new : Guided) → new.ranks ≡ old.ranks → new.most ≡ old.most
      → ((v : ℕ) → v < 1024 → IsGuidedWaiting bounds old v → AreStepsGuided d q bounds old.ranks.items old.most (rank_at old.ranks.items v) v ⊎ IsGuidedWaiting bounds new v)
      → AreGuided d q bounds old → AreGuided d q bounds new
  guided_left old new ranks most left before v low =
      let on : AreStepsGuided d q bounds old.ranks.items old.most (rank_at old.ranks.items v) v → AreStepsGuided d q bounds new.ranks.items new.most (rank_at new.ranks.items v) v = λ passed. rw (ranks, most) passed in
      elim (before v low) [
        | inl passed ↦ inl (on passed)
        | inr waits ↦ elim (left v low waits) [
          | inl passed ↦ inl (on passed)
          | inr still ↦ inr still
        ]
      ]

  -- Before any router is looked at, `AreGuided` holds.
  pub guided_begun : (guided : Guided) (place : ℕ) → IsGuidedWaiting bounds guided place → ((v : ℕ) → v < 1024 → v ≢ place → rank_at guided.ranks.items v ≡ 9007199254740992)
      → ((v : ℕ) → rank_at guided.ranks.items v ≤ 9007199254740992) → AreGuided d q bounds guided
  guided_begun guided place waits others small v low =
      elim (same_or_not v place) [
        | inl here ↦ inr (subst (IsGuidedWaiting bounds guided) (sym here) waits)
        | inr ne ↦ inl (λ w step leads. inl (omega (arith, small w, others v low ne)))
      ]

  -- The greater of two bounds is a lower bound of the rank of a way to the tail-end: the bound that
  -- guides the search, and the bound that follows from the search and from the corridor.
  module _ (listed : AreListed d) (is : IsRankBound d q bounds) where
    -- Over a link that a route may use, the bound from the head-end rises by at most the link's step,
    -- or each way over the link has a greater rank than `most`.
    heads_guided : (guided : Guided) (head : HeadBounds) → head.ahead.now ≡ guided.ranks.items → head.edge ≡ guided.most → AreGuided d q bounds guided
        → ((v : ℕ) → v < 1024 → IsGuidedWaiting bounds guided v → guided.most < rank_at guided.ranks.items v + bounds v)
        → (u w step : ℕ) → Leads d q u w step → (head_bound head w ≤ head_bound head u + step) ⊎ (guided.most < head_bound head u + step + bounds w)
    heads_guided guided head same edge are far u w step leads =
        let low : u < 1024 = omega (arith, leads.from.within, listed.few) in
        let here : rank_at head.ahead.now u ≡ rank_at guided.ranks.items u = ap (λ rs. rank_at rs u) same in
        let there : rank_at head.ahead.now w ≡ rank_at guided.ranks.items w = ap (λ rs. rank_at rs w) same in
        let passed : AreStepsGuided d q bounds guided.ranks.items guided.most (rank_at guided.ranks.items u) u = elim (are u low) [ inl looked ↦ looked | inr waits ↦ far_passed is guided.ranks.items guided.most (rank_at guided.ranks.items u) u (far u low waits) ] in
        elim (passed w step leads) [
          | inl h ↦ inl (omega (arith, h, here, there))
          | inr h ↦ elim (cases_lt guided.most (rank_at guided.ranks.items u)) [
            | inl beyond ↦ inl (omega (arith, beyond, here, there, edge))
            | inr within ↦ inr (omega (arith, h, within, here, edge))
          ]
        ]

    pub bound_guided : (guided : Guided) (head : HeadBounds) (near : List ℕ) → head.ahead.now ≡ guided.ranks.items → head.edge ≡ guided.most → head.most ≡ guided.most → AreGuided d q bounds guided
        → ((v : ℕ) → v < 1024 → IsGuidedWaiting bounds guided v → guided.most < rank_at guided.ranks.items v + bounds v)
        → NoneNeedsLook d q head near → (to : ℕ) → IsIndexOf d q.to to → rank_at near to ≡ 0
        → IsRankBound d q (λ v. max (bounds v) (min (rank_at near v) ((head.most + 1) - head_bound head v)))
    bound_guided guided head near same edge most are far past to end zero = record {
      links = λ u w step leads.
          let low : w < 1024 = omega (arith, leads.to.within, listed.few) in
          let guides = is.links u w step leads in
          elim (heads_guided guided head same edge are far u w step leads) [
            | inl up ↦ elim (past w low) [
              | inl looked ↦ elim (looked u step leads) [
                | inl h ↦ omega (arith, h, up, guides)
                | inr h ↦ omega (arith, h, up, guides)
              ]
              | inr beyond ↦ omega (arith, beyond, up, guides)
            ]
            | inr cut ↦ omega (arith, cut, most, guides)
          ];
      end = λ place at.
          let here : place ≡ to = one_place d listed q.to place to at end in
          let none = is.end place at in
          rw here (omega (arith, zero, subst (λ p. bounds p ≡ 0) here none));
    }
