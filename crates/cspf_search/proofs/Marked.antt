-- How the forward stars of the nodes and the marks of settled states change when one more node is
-- appended. A forward star has the links from one router. A state is a router in a leg, and a node
-- is the record of a walk.
use Rattle.std.proofs.Common.{◌≡◌, inl, inr, ℕ, ◌+◌, ◌*◌, ◌<◌, ◌≤◌, Bool, true, false, is_some, Some, None, List, [], ◌∷◌, ◌++◌, length, set, replicate, slice_index_or, refl, sym, ap, ◌∙◌, arith, length-set, rules}
use Rattle.std.proofs.lemmas.Bool.{cases_lt}
use Rattle.std.proofs.lemmas.List.{get_or_append_left, get_or_push, length_push, get_or-set_same, get_or-set_other, get_or-replicate, length-replicate}
use Rattle.cspf_model.specs.declared.request.Request.{Request}
use Rattle.cspf_model.specs.Database.{Database, AreLinksOf, IsRouterOf}
use Rattle.cspf_db.specs.Index.{links_of}
use Rattle.cspf_search.specs.declared.arena.Node.{Node}
use Rattle.cspf_search.specs.declared.forward_star.ForwardStar.{ForwardStar}
use Rattle.cspf_search.specs.States.{State, Reaches}
use Rattle.cspf_search.specs.Settled.{AreSettled}
use Rattle.cspf_search.specs.Arena.{walk_at, walks, state_of, index_of, labels_of, AreNodes, IsInLeg}
use Rattle.cspf_search.specs.Rounds.{CrossesBelow, IsFirstOf}
use Rattle.cspf_search.specs.Frontier.{state_at, nowhere}
use Rattle.cspf_graph.specs.Roles.{IsStateIndex}
use Rattle.cspf_graph.specs.Lists.{AreListed}
use Rattle.cspf_search.specs.ForwardStars.{IsForwardStar, AreForwardStars, AreStateMarks}
use Rattle.cspf_search.proofs.Labelled.{label_at}
use Rattle.cspf_search.proofs.Few.{HasFewRouters, AreApart}
use Rattle.cspf_search.proofs.Grown.{reached_router, nodes_in_legs, settled_more}
use Rattle.cspf_search.proofs.Pushed.{index_old, index_new, open_new}
use Rattle.cspf_graph.proofs.RouterIndexes.{same_or_not}
use Rattle.cspf_search.proofs.Ranks.{state_apart}

-- Lemmas on an empty list of nodes: it has no forward stars, and no state is marked as settled. A
-- state is a router in a leg, and a node is the record of a walk.

pub no_stars : (d : Database) → AreForwardStars d [] []
no_stars d = record { many = refl; each = λ i e h. absurd (omega arith) }

pub no_marks : (d : Database) (q : Request) (count : ℕ) → count ≡ (length q.hops + 1) * 1024 → AreStateMarks d q [] (replicate count false)
no_marks d q count many = search (rules, get_or-replicate, length-replicate)

-- The forward star of a node has the index of the node's state (a router in a leg). This index is
-- the index of a state of the request.
pub star_index : (d : Database) (q : Request) (n : Node) (star : ForwardStar) → IsInLeg q n → IsForwardStar d (state_of n) star → IsStateIndex d q star.state
star_index d q n star leg is = search rules

pub stars_push : (d : Database) (nodes : List Node) (stars : List ForwardStar) → AreForwardStars d nodes stars → (n : Node) (star : ForwardStar) → IsForwardStar d (state_of n) star
    → AreForwardStars d (nodes ++ (n ∷ [])) (stars ++ (star ∷ []))
stars_push d nodes stars are n star is = record {
  many = omega (arith, length_push nodes n, length_push stars star, are.many);
  each = λ i e h.
      elim (cases_lt i (length nodes)) [
        | inl lt ↦
            rw (get_or_append_left nodes (n ∷ []) nowhere i lt, get_or_append_left stars (star ∷ []) e i (omega (arith, lt, are.many))) (are.each i e lt)
        | inr ge ↦
            let last : i ≡ length nodes = omega (arith, h, length_push nodes n) in
            rw (get_or_push nodes n nowhere i (sym last), get_or_push stars star e i (omega (arith, last, are.many))) is
      ];
}

module _ (d : Database) (q : Request) (listed : AreListed d) (nodes : List Node) (n : Node) (before : AreApart nodes) (apart : AreApart (nodes ++ (n ∷ []))) where
  still : (t : State) → (t ≡ state_of n → ⊥) → is_some (index_of nodes t) ≡ is_some (index_of (nodes ++ (n ∷ [])) t)
  still t ne =
      elim (index_of nodes t) as (λ o. index_of nodes t ≡ o → is_some o ≡ is_some (index_of (nodes ++ (n ∷ [])) t)) [
        | Some i ↦ λ e. sym (ap is_some (index_old nodes n before apart t i e))
        | None ↦ λ e. sym (ap is_some (open_new nodes n before apart t ne e))
      ] refl

  pub marks_push : (marks : List Bool) → AreStateMarks d q nodes marks → (star : ForwardStar) → IsForwardStar d (state_of n) star → IsInLeg q n
      → AreStateMarks d q (nodes ++ (n ∷ [])) (set marks star.state true)
  marks_push marks are star is leg =
      let index = star_index d q n star leg is in
      let within : star.state < length marks = omega (arith, are.many, index.low) in
      record {
        many = length-set marks star.state true ∙ are.many;
        each = λ i e ix.
            elim (same_or_not i star.state) [
              | inl same ↦
                  let here : slice_index_or (set marks star.state true) i e ≡ true = rw same (get_or-set_same marks star.state true e within) in
                  here
                  ∙ sym (ap is_some
                  (ap (λ k. index_of (nodes ++ (n ∷ [])) (state_at d k)) same ∙ ap (index_of (nodes ++ (n ∷ []))) (sym is.state) ∙ index_new nodes n before apart))
              | inr ne ↦
                  get_or-set_other marks star.state i true e ne ∙ are.each i e ix
                  ∙ still (state_at d i) (λ same. ne (state_apart d q listed i star.state ix index (same ∙ is.state)))
            ];
      }

-- Lemmas on the first of the nodes that the settled nodes lead to, by a link or by a step to the
-- next leg, and on the state of that first node. A state is a router in a leg, and a node is the
-- record of a walk.
module _ (d : Database) (q : Request) (links : AreLinksOf d (links_of d)) (from : IsRouterOf d q.from) (few : HasFewRouters d) (most : length q.hops + 1 ≤ 8)
    (nodes : List Node) (are : AreNodes nodes) (settled : AreSettled d q (labels_of nodes)) (n : Node)
    (first : IsFirstOf nodes (CrossesBelow d q nodes (links_of d) (length nodes)) n) where
  pub after : AreNodes (nodes ++ (n ∷ [])) × AreSettled d q (labels_of (nodes ++ (n ∷ []))) × (length nodes + 1 ≤ (length q.hops + 1) * 1024)
  after = settled_more d q (links_of d) links from few most nodes are settled n first

  within : length nodes < length (nodes ++ (n ∷ []))
  within = omega (arith, length_push nodes n)

  last : slice_index_or (nodes ++ (n ∷ [])) (length nodes) n ≡ n
  last = get_or_push nodes n n (length nodes) refl

  reached : Reaches d q (walk_at (walks (nodes ++ (n ∷ []))) (length nodes)) (state_of n)
  reached =
      after.1.reached (state_of n) _
      (ap (labels_of (nodes ++ (n ∷ []))) (sym (ap state_of last)) ∙ label_at (nodes ++ (n ∷ [])) after.0.apart (length nodes) n within)

  pub new_router : IsRouterOf d n.router
  new_router = reached_router d q from _ (state_of n) reached

  pub new_leg : IsInLeg q n
  new_leg = rw last at (nodes_in_legs d q (nodes ++ (n ∷ [])) after.0.apart after.1 (length nodes) n within)
