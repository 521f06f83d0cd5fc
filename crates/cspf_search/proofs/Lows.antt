-- Lower bounds of the ranks of the walks that continue a node, and the nodes that a round skips
-- because of these bounds. A node is the record of a walk, and a walk's rank packs its cost and its
-- number of links into one number.
use Rattle.std.proofs.Common.{◌≡◌, ◌⊎◌, inl, inr, ℕ, ◌+◌, ◌*◌, ◌<◌, ◌≤◌, false, Option, Some, None, List, [], ◌∷◌, ◌++◌, length, set, sym, subst, ◌∙◌, arith, length-set, rules}
use Rattle.std.specs.Ordering.{nat_cmp, ordering_then, is_gt}
use Rattle.std.specs.declared.cmp.Ordering.{Ordering}
use Rattle.std.proofs.lemmas.Bool.{cases_lt}
use Rattle.std.proofs.lemmas.Bool.Decides.{nat_tests}
use Rattle.std.proofs.lemmas.List.{get_or_append_left, get_or_push, get_or-set_same, get_or-set_other, length_push}
use Rattle.cspf_model.specs.declared.link.Link.{Link}
use Rattle.cspf_model.specs.declared.request.Request.{Request}
use Rattle.cspf_model.specs.Database.{Database}
use Rattle.cspf_model.specs.Walks.{cost_of}
use Rattle.cspf_db.specs.Index.{links_of}
use Rattle.cspf_search.specs.declared.arena.Node.{Node}
use Rattle.cspf_search.specs.States.{State}
use Rattle.cspf_search.specs.Arena.{walk_of, walk_rank, AreNodes}
use Rattle.cspf_search.specs.Frontier.{no_rank}
use Rattle.cspf_search.specs.Rounds.{CrossesFrom, CrossesBelow, IsFirst, earlier_of}
use Rattle.cspf_search.specs.RoundSteps.{AreLows, IsLow, low_of}
use Rattle.cspf_graph.proofs.RouterIndexes.{same_or_not}
use Rattle.cspf_search.proofs.Few.{AreApart}
use Rattle.cspf_search.proofs.Firsts.{first_both, left_first}
use Rattle.cspf_search.proofs.Looked.{ranked_first}
use Rattle.cspf_search.proofs.Pushed.{from_old}
use Rattle.cspf_search.proofs.Ranks.{crossing_short, rank_is, rank_small, walk_short}

-- If a walk doesn't come after another walk in the order in which walks are settled, its rank isn't
-- greater. A walk's rank packs its cost and its number of links into one number.
ranks_up : (a b m n : ℕ) (o p : Ordering) → m < 16384 → is_gt (ordering_then (ordering_then (nat_cmp a b) (ordering_then (nat_cmp m n) o)) p) ≡ false
    → a * 16384 + m + 1 ≤ b * 16384 + n + 1
ranks_up a b m n o p low h = grind (arith, nat_tests)

module _ (d : Database) (q : Request) (nodes : List Node) (are : AreNodes nodes) (at : ℕ) (within : at < length nodes) where
  -- The rank of the first node that a node leads to is a lower bound of the ranks of all walks that
  -- continue this node. A node is the record of a walk, and a walk's rank packs its cost and its
  -- number of links into one number.
  pub low_found : (found : Option Node) → IsFirst nodes (CrossesFrom d q nodes (links_of d) at) found → IsLow d q nodes at (low_of found)
  low_found None none w t x = absurd (none w t x)
  low_found (Some n) first w t x =
      let next = first.next in
      let up =
      ranks_up (cost_of (walk_of nodes n)) (cost_of w) (length (walk_of nodes n)) (length w) (nat_cmp n.leg t.leg) _ (walk_short nodes are n next)
      (first.first w t x) in
      (omega (arith, rank_small nodes are n next), omega (arith, up, rank_is nodes are n next))

  below_left : (w : List Link) (t : State) → CrossesBelow d q nodes (links_of d) at w t → CrossesBelow d q nodes (links_of d) (at + 1) w t
  below_left w t x = (x.0, omega (arith, x.1), x.2)

  below_right : (w : List Link) (t : State) → CrossesFrom d q nodes (links_of d) at w t → CrossesBelow d q nodes (links_of d) (at + 1) w t
  below_right w t x = (at, omega arith, x)

  below_cases : (w : List Link) (t : State) → CrossesBelow d q nodes (links_of d) (at + 1) w t → CrossesBelow d q nodes (links_of d) at w t ⊎ CrossesFrom d q nodes (links_of d) at w t
  below_cases w t x =
      elim (cases_lt x.0 at) [
        | inl lt ↦ inl (x.0, lt, x.2)
        | inr ge ↦ let e : x.0 ≡ at = omega (arith, x.1) in inr (subst (λ k. CrossesFrom d q nodes (links_of d) k w t) e x.2)
      ]

  -- A round looks at the settled nodes one after the other. After it looks at this node, the best
  -- node so far is the earlier of two nodes: the previous best node, and the first node that this
  -- node leads to. A node is the record of a walk.
  pub found_kept : (best found : Option Node) → IsFirst nodes (CrossesBelow d q nodes (links_of d) at) best → IsFirst nodes (CrossesFrom d q nodes (links_of d) at) found
      → IsFirst nodes (CrossesBelow d q nodes (links_of d) (at + 1)) (earlier_of nodes best found)
  found_kept =
      first_both nodes (CrossesBelow d q nodes (links_of d) at) (CrossesFrom d q nodes (links_of d) at) (CrossesBelow d q nodes (links_of d) (at + 1)) below_left below_right below_cases

  -- If the lower bound of this node (the record of a walk) exceeds the rank of the best node so
  -- far, or no walk continues this node, the best node doesn't change.
  pub passed : (best : Option Node) (low : ℕ) → IsFirst nodes (CrossesBelow d q nodes (links_of d) at) best → IsLow d q nodes at low
      → (low ≡ no_rank) ⊎ (low_of best < low) → IsFirst nodes (CrossesBelow d q nodes (links_of d) (at + 1)) best
  passed None low first is (inl none) = λ w t x. elim (below_cases w t x) [ inl p ↦ first w t p | inr h ↦ let has = is w t h in absurd (omega (arith, none, has.0)) ]
  passed None low first is (inr less) = λ w t x. elim (below_cases w t x) [ inl p ↦ first w t p | inr h ↦ let has = is w t h in absurd (omega (arith, less, has.0)) ]
  passed (Some kept) low first is choice =
      left_first nodes (CrossesBelow d q nodes (links_of d) at) (CrossesFrom d q nodes (links_of d) at) (CrossesBelow d q nodes (links_of d) (at + 1)) below_left below_right below_cases kept first
      (λ w t h.
      let has = is w t h in
      let less : kept.rank < walk_rank w = elim choice [ inl none ↦ absurd (omega (arith, none, has.0)) | inr lt ↦ omega (arith, lt, has.1) ] in
      ranked_first nodes kept first.next w t.leg less (crossing_short d q nodes are (links_of d) at within w t h))

  pub lows_set : (lows : List ℕ) → AreLows d q nodes lows → (low : ℕ) → IsLow d q nodes at low → AreLows d q nodes (set lows at low)
  lows_set lows before low is = record {
    many = length-set lows at low ∙ before.many;
    each = λ i h.
        elim (same_or_not i at) [
          | inl same ↦ rw (same, get_or-set_same lows at low 0 (omega (arith, within, before.many))) is
          | inr ne ↦ rw (get_or-set_other lows at i low 0 ne) (before.each i h)
        ];
  }

-- For a node that is appended, the lower bound of the ranks of all walks that continue it is 0. A
-- node is the record of a walk, and a walk's rank packs its cost and its number of links into one
-- number.
pub lows_push : (d : Database) (q : Request) (nodes : List Node) (n : Node) → AreApart nodes → AreApart (nodes ++ (n ∷ [])) → (lows : List ℕ) → AreLows d q nodes lows
    → AreLows d q (nodes ++ (n ∷ [])) (lows ++ (0 ∷ []))
lows_push d q nodes n before apart lows are = record {
  many = omega (arith, length_push lows 0, length_push nodes n, are.many);
  each = λ i h.
      elim (cases_lt i (length nodes)) [
        | inl lt ↦ rw (get_or_append_left lows (0 ∷ []) 0 i (omega (arith, lt, are.many))) (λ w t x. are.each i lt w t (from_old nodes n before apart d q (links_of d) i lt w t x))
        | inr ge ↦
            let last : i ≡ length lows = omega (arith, ge, h, length_push nodes n, are.many) in
            rw (get_or_push lows 0 0 i (sym last)) (λ w t x. (omega arith, omega arith))
      ];
}

pub lows_root : (d : Database) (q : Request) (n : Node) → AreLows d q (n ∷ []) (0 ∷ [])
lows_root d q n = search rules
