-- The states that a node leads to by a link or by the step to the next leg, and the way back from a
-- node over its parents. A state is a router in a leg, and a node is the record of a walk.
use Rattle.std.proofs.Common.{◌≡◌, ℕ, ◌+◌, ◌*◌, ◌^◌, ◌<◌, ◌≤◌, Some, None, IsSome, List, [], ◌∷◌, ◌++◌, length, slice_get, slice_index_or, refl, sym, ap, subst, ◌∙◌, arith, rules}
use Rattle.std.specs.Ordering.{nat_cmp, ordering_then, is_gt}
use Rattle.std.specs.declared.cmp.Ordering.{Ordering}
use Rattle.std.proofs.lemmas.Cmp.{nat_list_cmp_total, tied_itself}
use Rattle.std.proofs.lemmas.List.{length_push}
use Rattle.std.proofs.lemmas.Option.{get_or_from_slice_get, same_Some}
use Rattle.cspf_model.specs.declared.link.Link.{Link}
use Rattle.cspf_model.specs.declared.request.Request.{Request}
use Rattle.cspf_model.specs.Database.{Database}
use Rattle.cspf_model.specs.Admissible.{IsUsable, MayLeave}
use Rattle.cspf_model.specs.Walks.{cost_of, locals_of}
use Rattle.cspf_search.specs.declared.arena.Node.{Node}
use Rattle.cspf_search.specs.States.{State}
use Rattle.cspf_graph.specs.Roles.{MayEnter, MayTurn}
use Rattle.cspf_search.specs.Settled.{state_cmp, locals_cmp}
use Rattle.cspf_search.specs.Arena.{walk_with, walk_at, walks, walk_of, walk_rank, index_of, IsRanked, HasLast, AreNodes, IsNext}
use Rattle.cspf_search.specs.Frontier.{node_by}
use Rattle.cspf_search.specs.Rounds.{CrossesBy, Turns, IsFirstOf}
use Rattle.cspf_search.proofs.Orders.{states_total, cost_of-push, locals_cmp-last, then_assoc}

module _ (nodes : List Node) (are : AreNodes nodes) where
  parent_at : (i : ℕ) (d : Node) → i < length nodes → (slice_index_or nodes i d).parent < length nodes
  parent_at i d h = search rules

module _ (d : Database) (q : Request) (nodes : List Node) (are : AreNodes nodes) (at : ℕ) (within : at < length nodes) (from : Node)
    (there : slice_get nodes at ≡ Some from) where
  is : from ≡ slice_index_or nodes at from
  is = sym (get_or_from_slice_get nodes at from from there)

  from_ranked : IsRanked from (walk_at (walks nodes) at) at
  from_ranked = subst (λ n. IsRanked n (walk_at (walks nodes) at) at) (sym is) (are.ranked at from within)

  from_grown : walk_at (walks nodes) at ≡ walk_of nodes from
  from_grown = are.grown at from within ∙ ap (walk_of nodes) (sym is)

  module _ (l : Link) (small : l.metric < 2 ^ 32) where
    pub by_next : IsNext nodes (node_by at from (Some l))
    by_next = record {
      parent = within;
      linked = λ _. refl;
      ranked = record {
        rank = omega (arith, from_ranked.rank, cost_of-push (walk_at (walks nodes) at) l, length_push (walk_at (walks nodes) at) l);
        few = omega (arith, from_ranked.few, length_push (walk_at (walks nodes) at) l);
        small = omega (arith, from_ranked.small, cost_of-push (walk_at (walks nodes) at) l, length_push (walk_at (walks nodes) at) l);
      };
    }

    -- By a usable link `l` to a state that isn't settled, exactly one walk continues the node: the
    -- node's walk followed by `l`. The node's walk may leave its router. A state is a router in a
    -- leg, and a node is the record of a walk.
    pub by_first : l.from ≡ from.router → IsUsable d q l → MayLeave d l.from (length (walk_at (walks nodes) at)) → MayEnter d q from.leg l.to → index_of nodes (record { leg = from.leg; router = l.to }) ≡ None
        → IsFirstOf nodes (CrossesBy d q nodes at l) (node_by at from (Some l))
    by_first runs usable leaves enters left =
        let me : ℕ × List Link = (from.leg, walk_at (walks nodes) at ++ (l ∷ [])) in
        record {
          next = by_next;
          passes = record { node = from; there = there; runs = runs; usable = usable; leaves = leaves; enters = enters; walk = refl; state = refl; still_open = left };
          first = λ w t x.
              let same : from ≡ x.node = same_Some from x.node (sym there ∙ x.there) in
              let whole : (t.leg, w) ≡ me = λ i. ((ap (λ (s : State). s.leg) x.state ∙ ap (λ (n : Node). n.leg) (sym same)) i, x.walk i) in
              ap (λ y. is_gt (state_cmp me y)) whole ∙ ap is_gt (tied_itself states_total me);
        }

  pub turned_next : IsNext nodes (node_by at from None)
  turned_next = record {
    parent = subst (λ (n : Node). n.parent < length nodes) (sym is) (parent_at nodes are at from within);
    linked = subst HasLast (sym is) (are.linked at from within);
    ranked = record {
      rank = from_ranked.rank ∙ ap walk_rank from_grown;
      few = omega (arith, from_ranked.few, ap (λ (w : List Link). length w) from_grown);
      small = subst (λ w. cost_of w ≤ length w * 2 ^ 32) from_grown from_ranked.small;
    };
  }

  -- If a route may go on to the next leg at the node's router, and the node's state in the next leg
  -- isn't settled, exactly one walk continues the node by this step. A state is a router in a leg,
  -- and a node is the record of a walk.
  pub turned_first : from.leg ≤ length q.hops → MayTurn d q from.leg from.router → index_of nodes (record { leg = from.leg + 1; router = from.router }) ≡ None
      → IsFirstOf nodes (Turns d q nodes at) (node_by at from None)
  turned_first low target left =
      let me : ℕ × List Link = (from.leg + 1, walk_of nodes from) in
      record {
        next = turned_next;
        passes = record { node = from; there = there; within = low; target = target; walk = sym from_grown; state = refl; still_open = left };
        first = λ w t x.
            let same : from ≡ x.node = same_Some from x.node (sym there ∙ x.there) in
            let whole : (t.leg, w) ≡ me =
            λ i. ((ap (λ (s : State). s.leg) x.state ∙ ap (λ (n : Node). n.leg + 1) (sym same)) i, (x.walk ∙ from_grown) i) in
            ap (λ y. is_gt (state_cmp me y)) whole ∙ ap is_gt (tied_itself states_total me);
      }

-- The node `n` (the record of a walk) lies on the way back from another node over its parents. The
-- walk of that other node has `count` links, and the way back has passed the last `passed` of them.
pub record IsBehind (nodes : List Node) (n : Node) (passed : ℕ) (count : ℕ) : Type 0 where
  pub parent : n.parent < length nodes
  pub left : length (walk_of nodes n) + passed ≡ count
  pub linked : passed < count → IsSome n.by

module _ (nodes : List Node) (are : AreNodes nodes) (n m : Node) (within : n.parent < length nodes) (is : m ≡ slice_index_or nodes n.parent m) (l : Link)
    (by : n.by ≡ Some l) where
  -- The walk of a node (the record of a walk) is its parent's walk, continued by the node's link.
  pub walk_back : walk_of nodes n ≡ walk_of nodes m ++ (l ∷ [])
  walk_back =
      ap (walk_with (walk_at (walks nodes) n.parent)) by ∙ ap (λ w. w ++ (l ∷ [])) (are.grown n.parent m within ∙ ap (walk_of nodes) (sym is))

  parent_within : m.parent < length nodes
  parent_within = subst (λ (n : Node). n.parent < length nodes) (sym is) (parent_at nodes are n.parent m within)

  parent_linked : 0 < length (walk_of nodes m) → IsSome m.by
  parent_linked h = search rules

  pub behind_more : (passed count : ℕ) → IsBehind nodes n passed count → IsBehind nodes m (passed + 1) count
  behind_more passed count behind =
      let left : length (walk_of nodes m) + (passed + 1) ≡ count =
      omega (arith, behind.left, ap (λ (w : List Link). length w) walk_back, length_push (walk_of nodes m) l) in
      record {
        parent = parent_within;
        left = left;
        linked = λ h. parent_linked (omega arith);
      }

-- Two walks of the same length are compared by their local addresses as follows: first the walks
-- without their last links, then the last links.
pub locals_more : (v w v' w' : List Link) (l k : Link) (found goal : Ordering) → v ≡ v' ++ (l ∷ []) → w ≡ w' ++ (k ∷ []) → length v' ≡ length w'
    → ordering_then (locals_cmp v w) found ≡ goal → ordering_then (locals_cmp v' w') (ordering_then (nat_cmp l.local k.local) found) ≡ goal
locals_more v w v' w' l k found goal ev ew e h = search (rules, locals_cmp-last, then_assoc)

-- If two walks continue the same node (the record of a walk) by one link each, the local addresses
-- of these two links decide the comparison. If these addresses are equal, the result `found` for
-- the later links decides.
pub locals_of_one : (nodes : List Node) (x y : Node) (l k : Link) (found goal : Ordering) → x.by ≡ Some l → y.by ≡ Some k → x.parent ≡ y.parent
    → ordering_then (locals_cmp (walk_of nodes x) (walk_of nodes y)) found ≡ goal → ordering_then (nat_cmp l.local k.local) found ≡ goal
locals_of_one nodes x y l k found goal by_x by_y one h =
    let front = walk_at (walks nodes) x.parent in
    let is_x : walk_of nodes x ≡ walk_at (walks nodes) x.parent ++ (l ∷ []) = ap (walk_with (walk_at (walks nodes) x.parent)) by_x in
    let is_y : walk_of nodes y ≡ walk_at (walks nodes) x.parent ++ (k ∷ []) =
    ap (walk_with (walk_at (walks nodes) y.parent)) by_y ∙ ap (λ i. walk_at (walks nodes) i ++ (k ∷ [])) (sym one) in
    let all = locals_more (walk_of nodes x) (walk_of nodes y) front front l k found goal is_x is_y refl h in
    ap (λ o. ordering_then o (ordering_then (nat_cmp l.local k.local) found)) (sym (tied_itself nat_list_cmp_total (locals_of front))) ∙ all

-- The walk that continues a node (the record of a walk) by a link has one link more than the node's
-- walk.
pub one_more : (nodes : List Node) → AreNodes nodes → (x : Node) (i : ℕ) → i < length nodes → x ≡ slice_index_or nodes i x → (v : List Link) (l : Link)
    → v ≡ walk_at (walks nodes) i ++ (l ∷ []) → length v ≡ length (walk_of nodes x) + 1
one_more nodes are x i within is v l ev = search (rules, is, length_push)

-- Two walks of the same length each continue a node (the record of a walk) by a link. Their local
-- addresses are compared in two steps: first the walks of the nodes, then the two links.
pub locals_by : (nodes : List Node) → AreNodes nodes → (x y : Node) (i j : ℕ) → i < length nodes → j < length nodes → x ≡ slice_index_or nodes i x
    → y ≡ slice_index_or nodes j y → (v w : List Link) (l k : Link) → v ≡ walk_at (walks nodes) i ++ (l ∷ []) → w ≡ walk_at (walks nodes) j ++ (k ∷ [])
    → length v ≡ length w → locals_cmp v w ≡ ordering_then (locals_cmp (walk_of nodes x) (walk_of nodes y)) (nat_cmp l.local k.local)
locals_by nodes are x y i j hi hj h4 h5 v w l k ev ew e = search (rules, length_push, locals_cmp-last)

-- If two walks continue the same node (the record of a walk) by a link each, the local addresses of
-- these two links decide the comparison.
pub locals_by_one : (nodes : List Node) (i j : ℕ) → i ≡ j → (v w : List Link) (l k : Link) → v ≡ walk_at (walks nodes) i ++ (l ∷ []) → w ≡ walk_at (walks nodes) j ++ (k ∷ [])
    → locals_cmp v w ≡ nat_cmp l.local k.local
locals_by_one nodes i j one v w l k ev ew =
    let front = walk_at (walks nodes) i in
    let from_one : w ≡ front ++ (k ∷ []) = ew ∙ ap (λ n. walk_at (walks nodes) n ++ (k ∷ [])) (sym one) in
    (λ t. locals_cmp (ev t) (from_one t)) ∙ locals_cmp-last front front l k refl
    ∙ ap (λ o. ordering_then o (nat_cmp l.local k.local)) (tied_itself nat_list_cmp_total (locals_of front))
