-- Lemmas on the keys that are popped from a heap.
use Rattle.std.proofs.Common.{◌≡◌, ◌⊎◌, inl, inr, ℕ, ◌+◌, ◌<◌, ◌≤◌, false, List, [], ◌∷◌, ◌++◌, length, take, slice_index_or, refl, sym, ap, subst, arith, rules}
use Rattle.std.proofs.lemmas.Grind.{common_steps}
use Rattle.std.specs.List.{All, Contains}
use Rattle.std.specs.List.Sorted.{IsPermutation}
use Rattle.std.specs.BinaryHeap.{IsHeap, IsUpperBound, PopsGreatest, lt_by_cmp}
use Rattle.std.specs.Ordering.{nat_cmp, ordering_then, is_lt}
use Rattle.std.proofs.lemmas.List.{get_or_default, take_more}
use Rattle.std.proofs.lemmas.List.Elements.{All-contains, All-from_recursion, All-tail, Contains-append_cases, Contains-append_right, Contains-push_cases}
use Rattle.std.proofs.lemmas.List.Sorted.{All-permutation, Contains-permutation, IsPermutation-sym}
use Rattle.cspf_model.specs.declared.link.Link.{Link}
use Rattle.cspf_model.specs.declared.request.Request.{Request}
use Rattle.cspf_model.specs.Database.{Database}
use Rattle.cspf_search.specs.declared.arena.Node.{Node}
use Rattle.cspf_search.specs.declared.goal.Goal.{Goal}
use Rattle.cspf_search.specs.declared.labels.Label.{Label}
use Rattle.cspf_search.specs.States.{State}
use Rattle.cspf_search.specs.Frontier.{AreLabels, HeapKey, heap_key_cmp, no_label, label_at, lift, IsKey, IsLive, IsOpenOf, IsUpTo, IsLeast}

no_less : (k rank j i : ℕ) → is_lt (ordering_then (nat_cmp k rank) (nat_cmp j i)) ≡ false → (rank < k) ⊎ ((rank ≡ k) × (i ≤ j))
no_less k rank j i h = search rules

-- If the key `x` is the first one that the heap gives, no key of the list has a smaller first part
-- than `x`, nor the same first part and a smaller index.
pub keys_up_to : (x : HeapKey) (xs : List HeapKey) → IsUpperBound heap_key_cmp x xs → (y : HeapKey) → Contains xs y → IsUpTo x.0.0 x.0.1 y
keys_up_to x xs upper y at =
    no_less y.0.0 x.0.0 y.0.1 x.0.1 (All-contains (λ z. lt_by_cmp heap_key_cmp x z ≡ false) xs y (All-from_recursion (λ z. lt_by_cmp heap_key_cmp x z ≡ false) xs upper) at)

only : (x y : HeapKey) → Contains (x ∷ []) y → x ≡ y
only x y h1 = search rules

-- After a key is popped from a heap, each key that was in the heap is the popped key or is still in
-- the heap.
pub others_left : (x : HeapKey) (old new : List HeapKey) → IsPermutation old (x ∷ new) → (y : HeapKey) → Contains old y → (x ≡ y) ⊎ Contains new y
others_left x old new moved y at =
    elim (Contains-append_cases (x ∷ []) new y (Contains-permutation old (x ∷ new) y moved at)) [
      | inl here ↦ inl (only x y here)
      | inr there ↦ inr there
    ]

-- A popped key was in the heap before.
pub was_there : (x : HeapKey) (old new : List HeapKey) → IsPermutation old (x ∷ new) → Contains old x
was_there x old new moved = Contains-permutation (x ∷ new) old x (IsPermutation-sym old (x ∷ new) moved) (0, omega arith, refl)

-- If the index `i` is below the length of the list of labels, the rank that is read there doesn't
-- depend on the default label `e`. A label holds the best walk found so far to a state, and a
-- walk's rank packs its cost and its number of links into one number.
pub rank_read : (labels : List Label) (i : ℕ) (e : Label) → i < length labels → (slice_index_or labels i e).rank ≡ (label_at labels i).rank
rank_read labels i e h = ap (λ (l : Label). l.rank) (get_or_default labels i e no_label h)

-- Lemmas on which keys of the heap are live after one key is popped. A key is live if the present
-- label of its state gives this key, and the state isn't in a closed leg. A state is a router in a
-- leg, and a label holds the best walk found so far to a state.
module _ (d : Database) (q : Request) (goal : Goal) (labels : List Label) (old heap new : List HeapKey) (x : HeapKey)
    (live : (key : HeapKey) → Contains old key → IsLive goal labels key → Contains heap key) (keyed : All (IsKey d q goal) heap) (moved : IsPermutation heap (x ∷ new)) where
  pub keyed_left : All (IsKey d q goal) new
  keyed_left = All-tail (IsKey d q goal) x new (All-permutation (IsKey d q goal) heap (x ∷ new) moved keyed)

  pub popped_key : IsKey d q goal x
  popped_key = All-contains (IsKey d q goal) heap x keyed (was_there x heap new moved)

  -- If the popped key isn't live, all live keys are still in the heap. A key isn't live if its
  -- state has another label now or is in a closed leg. A state is a router in a leg, and a label
  -- holds the best walk found so far to a state.
  pub live_left : (IsLive goal labels x → ⊥) → (key : HeapKey) → Contains old key → IsLive goal labels key → Contains new key
  live_left stale key at is =
      elim (others_left x heap new moved key (live key at is)) [
        | inl same ↦ absurd (stale (subst (IsLive goal labels) (sym same) is))
        | inr left ↦ left
      ]

  -- If the popped key is live, it is the least live key. A key is live if the present label of its
  -- state gives this key, and the state isn't in a closed leg. A state is a router in a leg, and a
  -- label holds the best walk found so far to a state.
  pub popped_least : IsHeap heap_key_cmp heap → PopsGreatest heap_key_cmp heap x new → goal.floor ≤ x.0.1 → (label_at labels x.0.1).rank + lift goal x.0.1 ≡ x.0.0
      → IsLeast d q goal labels old x.0.1 new
  popped_least ordered pops behind is =
      let out = pops ordered in
      record {
        index = popped_key.index;
        behind = behind;
        some = omega (arith, is, popped_key.some);
        most = omega (arith, is, popped_key.most);
        ordered = out.0;
        keyed = keyed_left;
        first = λ key at here. rw is (keys_up_to x heap out.1 key (live key at here));
        others = λ key at here.
            elim (others_left x heap new moved key (live key at here)) [
              | inl same ↦ inl (ap (λ (k : HeapKey). k.0.1) (sym same))
              | inr left ↦ inr left
            ];
      }

-- The key that stands in for a missing element when a list of keys is read past its last element.
abbrev pub blank : HeapKey
blank = record { 0 = (0, 0) }

-- Lemmas on the filter that drops the keys of closed legs, when it looks at one more key. The
-- filter keeps this key if the index of the key's state is at least the floor, the first index
-- after the states of the closed legs. A state is a router in a leg.
module _ (floor : ℕ) (items left : List HeapKey) (k : ℕ) (within : k < length items)
    (kept : (key : HeapKey) → Contains (take k items) key → floor ≤ key.0.1 → Contains left key) (none_else : (key : HeapKey) → Contains left key → Contains items key) where
  abbrev pub looked : HeapKey
  looked = slice_index_or items k blank

  cases : (key : HeapKey) → Contains (take (k + 1) items) key → Contains (take k items) key ⊎ (looked ≡ key)
  cases key has = let more : take (k + 1) items ≡ take k items ++ looked ∷ [] = take_more items k blank within in Contains-push_cases (take k items) looked key (rw more at has)

  -- If this key's index is below the floor, the filter drops it. Of the keys up to this one, all
  -- that have an index from the floor on are then kept. The floor is the first index after the
  -- states (routers in legs) of the closed legs.
  pub key_dropped : looked.0.1 < floor → (key : HeapKey) → Contains (take (k + 1) items) key → floor ≤ key.0.1 → Contains left key
  key_dropped low key has up = grind (arith, common_steps, cases)

  -- Lemmas for the case that the filter keeps this key.
  module _ (new : List HeapKey) (moved : IsPermutation (looked ∷ left) new) where
    pub key_kept : (key : HeapKey) → Contains (take (k + 1) items) key → floor ≤ key.0.1 → Contains new key
    key_kept key has up =
        Contains-permutation (looked ∷ left) new key moved (elim (cases key has) [
          | inl front ↦ Contains-append_right (looked ∷ []) left key (kept key front up)
          | inr is ↦ subst (Contains (looked ∷ left)) is (0, omega arith, refl)
        ])

    pub none_new : (key : HeapKey) → Contains new key → Contains items key
    none_new key has =
        elim (others_left looked new left (IsPermutation-sym (looked ∷ left) new moved) key has) [
          | inl is ↦ subst (Contains items) is (k, within, get_or_default items k looked blank within)
          | inr there ↦ none_else key there
        ]

-- After the keys of states in closed legs are dropped from the heap, the labels and the remaining
-- keys still meet `AreLabels`. A state is a router in a leg, and a label holds the best walk found
-- so far to a state.
pub labels_open : (d : Database) (q : Request) (nodes : List Node) (P : List Link → State → Type 0) (goal : Goal) (labels : List Label) (old new : List HeapKey)
    → AreLabels d q nodes P goal labels old → IsOpenOf goal.floor old new → AreLabels d q nodes P goal labels new
labels_open d q nodes P goal labels old new are left = record {
  small = are.small;
  bounds = are.bounds;
  whole = are.whole;
  many = are.many;
  each = are.each;
  ordered = left.ordered;
  keyed = λ k e low.
      let key = slice_index_or new k e in
      All-contains (IsKey d q goal) old key are.keyed (left.only key (k, low, get_or_default new k key e low));
  waiting = λ i ix behind some most. left.kept _ (are.waiting i ix behind some most) behind;
}
