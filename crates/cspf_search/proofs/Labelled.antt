-- The walk of each node (the record of a walk), the settled walk of each state (a router in a leg),
-- and how both change when one more node is appended.
use Rattle.std.proofs.Common.{◌≡◌, inl, inr, ℕ, ◌+◌, ◌<◌, Bool, true, false, not, Option, Some, None, option_map, position, List, [], ◌∷◌, ◌++◌, length, slice_index_or, refl, sym, ap, ◌∙◌, arith, rules}
use Rattle.std.specs.List.{position_or_len, AllPairs}
use Rattle.std.proofs.lemmas.Bool.{cases_lt, lt-ltb, not-true, not_from_true, not_from_false, eq-eqb, and_from}
use Rattle.std.proofs.lemmas.List.{get_or_append_left, get_or_push, length_push}
use Rattle.std.proofs.lemmas.List.Sums.{prefix_len_is, prefix_len_passes}
use Rattle.std.proofs.lemmas.List.Quantifiers.{position-Some, all_pairs_push}
use Rattle.cspf_model.specs.declared.link.Link.{Link}
use Rattle.cspf_search.specs.declared.arena.Node.{Node}
use Rattle.cspf_search.specs.States.{State}
use Rattle.cspf_search.specs.Arena.{walk_with, walk_at, walks_after, walks, walk_of, state_of, same_state, index_of, labels_of, IsRanked, IsRoot, HasLast, AreNodes, IsNext}
use Rattle.cspf_search.proofs.Settles.{Adds}

-- Lemmas on the walks of a list of nodes (records of walks), and on the walk of a node that is
-- appended.

walks_after-push : (done : List (List Link)) (nodes : List Node) (n : Node)
    → walks_after done (nodes ++ (n ∷ [])) ≡ walks_after done nodes ++ (walk_with (walk_at (walks_after done nodes) n.parent) n.by ∷ [])
walks_after-push done [] n = refl
walks_after-push done (m ∷ nodes) n = walks_after-push (done ++ (walk_with (walk_at done m.parent) m.by ∷ [])) nodes n

length-walks_after : (done : List (List Link)) (nodes : List Node) → length (walks_after done nodes) ≡ length done + length nodes
length-walks_after done [] = omega arith
length-walks_after done (m ∷ nodes) =
    let w = walk_with (walk_at done m.parent) m.by in
    omega (arith, length-walks_after (done ++ (w ∷ [])) nodes, length_push done w)

pub length-walks : (nodes : List Node) → length (walks nodes) ≡ length nodes
length-walks nodes = omega (arith, length-walks_after [] nodes)

module _ (nodes : List Node) (n : Node) where
  pub walk_at-old : (i : ℕ) → i < length nodes → walk_at (walks (nodes ++ (n ∷ []))) i ≡ walk_at (walks nodes) i
  walk_at-old i h =
      ap (λ ws. walk_at ws i) (walks_after-push [] nodes n)
      ∙ get_or_append_left (walks nodes) (walk_of nodes n ∷ []) [] i (omega (arith, length-walks nodes))

  pub walk_at-new : walk_at (walks (nodes ++ (n ∷ []))) (length nodes) ≡ walk_of nodes n
  walk_at-new =
      ap (λ ws. walk_at ws (length nodes)) (walks_after-push [] nodes n)
      ∙ get_or_push (walks nodes) (walk_of nodes n) [] (length nodes) (length-walks nodes)

  pub walk_of-old : (m : Node) → m.parent < length nodes → walk_of (nodes ++ (n ∷ [])) m ≡ walk_of nodes m
  walk_of-old m h = ap (λ w. walk_with w m.by) (walk_at-old m.parent h)

-- Lemmas on the index of the first node with a state. A state is a router in a leg, and a node is
-- the record of a walk.

pub position-None : {X : Type 0} (p : X → Bool) (xs : List X) (k : ℕ) (d : X) → position p xs ≡ None → k < length xs → p (slice_index_or xs k d) ≡ false
position-None p xs k d e h =
    elim (cases_lt (position_or_len p xs) (length xs)) [
      | inl lt ↦ let t = lt-ltb (position_or_len p xs) (length xs) lt in absurd (cc)
      | inr ge ↦ not-true _ (prefix_len_passes (λ x. not (p x)) xs k d (omega arith))
    ]

position-first : {X : Type 0} (p : X → Bool) (xs : List X) (n : ℕ) (d : X) → n < length xs → p (slice_index_or xs n d) ≡ true
    → ((k : ℕ) → k < n → p (slice_index_or xs k d) ≡ false) → position p xs ≡ Some n
position-first p xs n d h here before =
    let e : position_or_len p xs ≡ n =
    prefix_len_is (λ x. not (p x)) xs n d (omega arith) (λ k l. not_from_false _ (before k l)) (λ _. not_from_true _ here) in
    rw (e, lt-ltb n (length xs) h)

pub same_state-true : (s t : State) → same_state s t ≡ true → s ≡ t
same_state-true s t e = search rules

same_state-itself : (s : State) → same_state s s ≡ true
same_state-itself s = and_from _ _ (eq-eqb s.leg s.leg refl) (eq-eqb s.router s.router refl)

-- Lemmas on the settled walk of a state (a router in a leg).

-- The settled walk of a state is the walk of a node with this state. A state is a router in a leg,
-- and a node is the record of a walk.
pub label_from : (nodes : List Node) (s : State) (w : List Link) (d : Node) → labels_of nodes s ≡ Some w
    → (i : ℕ) × (i < length nodes) × (state_of (slice_index_or nodes i d) ≡ s) × (walk_at (walks nodes) i ≡ w)
label_from nodes s w d e = search (rules, position-Some, same_state-true)

-- If no two nodes have the same state, the index that is found for the state of the node at `i` is
-- `i`. A state is a router in a leg, and a node is the record of a walk.
pub index_at : (nodes : List Node) → AllPairs (λ m n. same_state (state_of m) (state_of n) ≡ false) nodes → (i : ℕ) (d : Node) → i < length nodes
    → index_of nodes (state_of (slice_index_or nodes i d)) ≡ Some i
index_at nodes apart i d h =
    position-first (λ n. same_state (state_of n) (state_of (slice_index_or nodes i d))) nodes i d h
    (same_state-itself (state_of (slice_index_or nodes i d))) (λ k l. apart k i d l h)

-- If no two nodes have the same state, the walk of a node is the settled walk of the node's state.
-- A state is a router in a leg, and a node is the record of a walk.
pub label_at : (nodes : List Node) → AllPairs (λ m n. same_state (state_of m) (state_of n) ≡ false) nodes → (i : ℕ) (d : Node) → i < length nodes
    → labels_of nodes (state_of (slice_index_or nodes i d)) ≡ Some (walk_at (walks nodes) i)
label_at nodes apart i d h = ap (option_map (λ i. walk_at (walks nodes) i)) (index_at nodes apart i d h)

-- If a state isn't settled, none of the settled nodes has this state. A state is a router in a leg,
-- and a node is the record of a walk.
pub open_index : (nodes : List Node) (s : State) → labels_of nodes s ≡ None → index_of nodes s ≡ None
open_index nodes s e = search rules

pub apart_push : (nodes : List Node) (n : Node) → AllPairs (λ m n. same_state (state_of m) (state_of n) ≡ false) nodes → labels_of nodes (state_of n) ≡ None
    → AllPairs (λ m n. same_state (state_of m) (state_of n) ≡ false) (nodes ++ (n ∷ []))
apart_push nodes n apart left =
    all_pairs_push (λ m n. same_state (state_of m) (state_of n) ≡ false) nodes n apart
    (λ k d h. position-None (λ m. same_state (state_of m) (state_of n)) nodes k d (open_index nodes (state_of n) left) h)

-- Lemmas on appending a node to a list of nodes, if no node of the list has settled the new node's
-- state. A state is a router in a leg, and a node is the record of a walk.

module _ (nodes : List Node) (n : Node) (are : AreNodes nodes) (next : IsNext nodes n) (left : labels_of nodes (state_of n) ≡ None) where
  at_old : (i : ℕ) (d : Node) → i < length nodes → slice_index_or (nodes ++ (n ∷ [])) i d ≡ slice_index_or nodes i d
  at_old i d h = get_or_append_left nodes (n ∷ []) d i h

  at_new : (i : ℕ) (d : Node) → i ≡ length nodes → slice_index_or (nodes ++ (n ∷ [])) i d ≡ n
  at_new i d e = get_or_push nodes n d i (sym e)

  -- If each old node (the record of a walk) and the new node have a property, each node of the
  -- longer list has this property.
  by_index : (P : ℕ → Node → Type 0) → ((i : ℕ) (d : Node) → i < length nodes → P i (slice_index_or nodes i d)) → P (length nodes) n
      → (i : ℕ) (d : Node) → i < length (nodes ++ (n ∷ [])) → P i (slice_index_or (nodes ++ (n ∷ [])) i d)
  by_index P old new i d h =
      elim (cases_lt i (length nodes)) [
        | inl lt ↦ rw (at_old i d lt) (old i d lt)
        | inr ge ↦
            let e : i ≡ length nodes = omega (arith, length_push nodes n) in
            rw (at_new i d e, e) new
      ]

  parent_within : (i : ℕ) (d : Node) → i < length nodes → (slice_index_or nodes i d).parent < length nodes
  parent_within i d h = search rules

  pub nodes_push : length nodes < 8192 → AreNodes (nodes ++ (n ∷ []))
  nodes_push room =
      let more = length_push nodes n in
      record {
        some = omega arith;
        most = omega arith;
        root = λ d. rw (at_old 0 d are.some) (are.root d);
        begun = walk_at-old nodes n 0 are.some ∙ are.begun;
        linked = by_index (λ i m. HasLast m) are.linked next.linked;
        back = λ i d low high. by_index (λ i m. 0 < i → m.parent < i) (λ i d h l. are.back i d l h) (λ l. next.parent) i d high low;
        grown =
            by_index (λ i m. walk_at (walks (nodes ++ (n ∷ []))) i ≡ walk_of (nodes ++ (n ∷ [])) m)
            (λ i d h. walk_at-old nodes n i h ∙ are.grown i d h ∙ sym (walk_of-old nodes n (slice_index_or nodes i d) (parent_within i d h)))
            (walk_at-new nodes n ∙ sym (walk_of-old nodes n n next.parent));
        ranked =
            by_index (λ i m. IsRanked m (walk_at (walks (nodes ++ (n ∷ []))) i) i)
            (λ i d h. rw (walk_at-old nodes n i h) (are.ranked i d h))
            (rw (walk_at-new nodes n) next.ranked);
        apart = apart_push nodes n are.apart left;
      }

  pub labels_push : Adds (labels_of nodes) (state_of n) (walk_of nodes n) (labels_of (nodes ++ (n ∷ [])))
  labels_push = record {
    keeps = λ s x is.
        let old = label_from nodes s x n is in
        let at = label_at (nodes ++ (n ∷ [])) (apart_push nodes n are.apart left) old.0 n (omega (arith, old.1, length_push nodes n)) in
        let same : state_of (slice_index_or (nodes ++ (n ∷ [])) old.0 n) ≡ s = ap state_of (at_old old.0 n old.1) ∙ old.2 in
        ap (labels_of (nodes ++ (n ∷ []))) (sym same) ∙ at ∙ ap Some (walk_at-old nodes n old.0 old.1 ∙ old.3);
    adds = λ s x is.
        let new = label_from (nodes ++ (n ∷ [])) s x n is in
        elim (cases_lt new.0 (length nodes)) [
          | inl lt ↦
              let same : state_of (slice_index_or nodes new.0 n) ≡ s = ap state_of (sym (at_old new.0 n lt)) ∙ new.2 in
              inl (ap (labels_of nodes) (sym same) ∙ label_at nodes are.apart new.0 n lt ∙ ap Some (sym (walk_at-old nodes n new.0 lt) ∙ new.3))
          | inr ge ↦
              let e : new.0 ≡ length nodes = omega (arith, new.1, length_push nodes n) in
              inr (sym new.2 ∙ ap state_of (at_new new.0 n e), sym new.3 ∙ ap (λ i. walk_at (walks (nodes ++ (n ∷ []))) i) e ∙ walk_at-new nodes n)
        ];
  }

started : (p : ℕ) (b : Option Link) → p ≡ 0 → b ≡ None → walk_with [] b ≡ walk_with (walk_at (walk_with [] b ∷ []) p) b
started p b first last = rw (first, last) refl

-- Lemmas on the list whose only node (the record of a walk) is the root.
module _ (n : Node) (root : IsRoot n) where
  only : (P : ℕ → Node → Type 0) → P 0 n → (i : ℕ) (d : Node) → i < 1 → P i (slice_index_or (n ∷ []) i d)
  only P here i d h = search rules

  pub nodes_root : n.leg ≡ 1 → n.rank ≡ 1 → AreNodes (n ∷ [])
  nodes_root leg rank = search rules
