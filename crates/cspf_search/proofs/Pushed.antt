-- How the labels change, and the walks that continue nodes, when one more node is appended. A node
-- is the record of a walk, and a label holds the best walk found so far to a state.
use Rattle.std.proofs.Common.{◌≡◌, ◌≢◌, inl, inr, ℕ, ◌+◌, ◌<◌, Some, None, List, [], ◌∷◌, ◌++◌, length, set, slice_get, slice_index_or, refl, sym, ap, subst, ◌∙◌, arith, rules}
use Rattle.std.proofs.lemmas.Bool.{cases_lt}
use Rattle.std.proofs.lemmas.List.{get_or_append_left, get_or_push, length_push, get_or-set_other}
use Rattle.std.proofs.lemmas.List.Quantifiers.{position-Some}
use Rattle.std.proofs.lemmas.Option.{slice_get-get_or}
use Rattle.cspf_model.specs.declared.link.Link.{Link}
use Rattle.cspf_model.specs.declared.request.Request.{Request}
use Rattle.cspf_model.specs.Database.{Database}
use Rattle.cspf_model.specs.Admissible.{MayLeave}
use Rattle.cspf_db.specs.Index.{links_of}
use Rattle.cspf_search.specs.declared.arena.Node.{Node}
use Rattle.cspf_search.specs.declared.goal.Goal.{Goal}
use Rattle.cspf_search.specs.declared.labels.Label.{Label}
use Rattle.cspf_search.specs.States.{State}
use Rattle.cspf_search.specs.Settled.{IsNoLater}
use Rattle.cspf_search.specs.Arena.{walk_of, state_of, same_state, index_of, IsNext}
use Rattle.cspf_search.specs.Rounds.{CrossesFrom, CrossesBelow}
use Rattle.cspf_search.specs.Frontier.{state_at, nowhere, node_of, IsLabel, is_settled, is_reached, is_unreached, HeapKey, key_at, label_at, lift, no_label, AreLabels, IsLeast}
use Rattle.cspf_graph.specs.Lists.{AreListed}
use Rattle.cspf_search.proofs.Labelled.{walk_at-old, walk_of-old, same_state-true, index_at}
use Rattle.cspf_search.proofs.Few.{AreApart}
use Rattle.cspf_search.proofs.Offered.{labels_set}
use Rattle.cspf_search.proofs.Ranks.{state_apart}

module _ (nodes : List Node) (n : Node) (before : AreApart nodes) (apart : AreApart (nodes ++ (n ∷ []))) where
  get_old : (i : ℕ) → i < length nodes → slice_get (nodes ++ (n ∷ [])) i ≡ slice_get nodes i
  get_old i h =
      slice_get-get_or (nodes ++ (n ∷ [])) i nowhere (omega (arith, length_push nodes n)) ∙ ap Some (get_or_append_left nodes (n ∷ []) nowhere i h)
      ∙ sym (slice_get-get_or nodes i nowhere h)

  -- If one of the nodes has a state, the index of this node is still found for the state after
  -- another node is appended. A state is a router in a leg, and a node is the record of a walk.
  pub index_old : (t : State) (i : ℕ) → index_of nodes t ≡ Some i → index_of (nodes ++ (n ∷ [])) t ≡ Some i
  index_old t i e =
      let found = position-Some (λ m. same_state (state_of m) t) nodes i nowhere e in
      let old = get_or_append_left nodes (n ∷ []) nowhere i found.0 in
      let same : state_of (slice_index_or (nodes ++ (n ∷ [])) i nowhere) ≡ t = ap state_of old ∙ same_state-true (state_of (slice_index_or nodes i nowhere)) t found.1 in
      ap (index_of (nodes ++ (n ∷ []))) (sym same) ∙ index_at (nodes ++ (n ∷ [])) apart i nowhere (omega (arith, found.0, length_push nodes n))

  pub index_new : index_of (nodes ++ (n ∷ [])) (state_of n) ≡ Some (length nodes)
  index_new =
      let same : state_of (slice_index_or (nodes ++ (n ∷ [])) (length nodes) nowhere) ≡ state_of n = ap state_of (get_or_push nodes n nowhere (length nodes) refl) in
      ap (index_of (nodes ++ (n ∷ []))) (sym same) ∙ index_at (nodes ++ (n ∷ [])) apart (length nodes) nowhere (omega (arith, length_push nodes n))

  pub open_old : (t : State) → index_of (nodes ++ (n ∷ [])) t ≡ None → index_of nodes t ≡ None
  open_old t left = search (rules, index_old)

  pub open_new : (t : State) → t ≢ state_of n → index_of nodes t ≡ None → index_of (nodes ++ (n ∷ [])) t ≡ None
  open_new t ne left =
      elim (index_of (nodes ++ (n ∷ [])) t) as (λ o. index_of (nodes ++ (n ∷ [])) t ≡ o → o ≡ None) [
        | Some i ↦ λ e.
            let found = position-Some (λ m. same_state (state_of m) t) (nodes ++ (n ∷ [])) i nowhere e in
            let at = same_state-true (state_of (slice_index_or (nodes ++ (n ∷ [])) i nowhere)) t found.1 in
            elim (cases_lt i (length nodes)) [
              | inl lt ↦
                  let there : state_of (slice_index_or nodes i nowhere) ≡ t = ap state_of (sym (get_or_append_left nodes (n ∷ []) nowhere i lt)) ∙ at in
                  let old = ap (index_of nodes) (sym there) ∙ index_at nodes before i nowhere lt in
                  absurd (cc)
              | inr ge ↦
                  let last : i ≡ length nodes = omega (arith, found.0, length_push nodes n) in
                  absurd (ne (sym at ∙ ap state_of (get_or_push nodes n nowhere i (sym last))))
            ]
        | None ↦ λ e. refl
      ] refl

  module _ (d : Database) (q : Request) (links : List Link) where
    pub from_old : (at : ℕ) → at < length nodes → (w : List Link) (t : State) → CrossesFrom d q (nodes ++ (n ∷ [])) links at w t → CrossesFrom d q nodes links at w t
    from_old at h w t (inl turn) = inl (record {
      node = turn.node;
      there = sym (get_old at h) ∙ turn.there;
      within = turn.within;
      target = turn.target;
      walk = turn.walk ∙ walk_at-old nodes n at h;
      state = turn.state;
      still_open = open_old t turn.still_open;
    })
    from_old at h w t (inr by) = inr (
      by.0,
      by.1,
      record {
        node = by.2.node;
        there = sym (get_old at h) ∙ by.2.there;
        runs = by.2.runs;
        usable = by.2.usable;
        leaves = subst (λ v. MayLeave d by.0.from (length v)) (walk_at-old nodes n at h) by.2.leaves;
        enters = by.2.enters;
        walk = by.2.walk ∙ ap (λ v. v ++ (by.0 ∷ [])) (walk_at-old nodes n at h);
        state = by.2.state;
        still_open = open_old t by.2.still_open;
      },
    )

    from_new : (at : ℕ) → at < length nodes → (w : List Link) (t : State) → t ≢ state_of n → CrossesFrom d q nodes links at w t → CrossesFrom d q (nodes ++ (n ∷ [])) links at w t
    from_new at h w t ne (inl turn) = inl (record {
      node = turn.node;
      there = get_old at h ∙ turn.there;
      within = turn.within;
      target = turn.target;
      walk = turn.walk ∙ sym (walk_at-old nodes n at h);
      state = turn.state;
      still_open = open_new t ne turn.still_open;
    })
    from_new at h w t ne (inr by) = inr (
      by.0,
      by.1,
      record {
        node = by.2.node;
        there = get_old at h ∙ by.2.there;
        runs = by.2.runs;
        usable = by.2.usable;
        leaves = subst (λ v. MayLeave d by.0.from (length v)) (sym (walk_at-old nodes n at h)) by.2.leaves;
        enters = by.2.enters;
        walk = by.2.walk ∙ ap (λ v. v ++ (by.0 ∷ [])) (sym (walk_at-old nodes n at h));
        state = by.2.state;
        still_open = open_new t ne by.2.still_open;
      },
    )

    below_old : (w : List Link) (t : State) → CrossesBelow d q (nodes ++ (n ∷ [])) links (length nodes) w t → CrossesBelow d q nodes links (length nodes) w t
    below_old w t x = (x.0, x.1, from_old x.0 x.1 w t x.2)

    below_new : (w : List Link) (t : State) → t ≢ state_of n → CrossesBelow d q nodes links (length nodes) w t → CrossesBelow d q (nodes ++ (n ∷ [])) links (length nodes) w t
    below_new w t ne x = (x.0, x.1, from_new x.0 x.1 w t ne x.2)

    -- If one of the nodes has a state, no walk of `CrossesBelow` leads to this state, because these
    -- walks lead only to states without a node. A state is a router in a leg, and a node is the
    -- record of a walk.
    below_settled : (i : ℕ) (w : List Link) (t : State) → index_of (nodes ++ (n ∷ [])) t ≡ Some i → CrossesBelow d q (nodes ++ (n ∷ [])) links (length nodes) w t → ⊥
    below_settled i w t e x = elim x.2 [ inl turn ↦ let left = turn.still_open in cc | inr by ↦ let left = by.2.still_open in cc ]

  node_old : (d : Database) (label : Label) → label.parent < length nodes → node_of d (nodes ++ (n ∷ [])) label ≡ node_of d nodes label
  node_old d label h = rw (get_or_append_left nodes (n ∷ []) nowhere label.parent h) refl

  next_old : (m : Node) → IsNext nodes m → IsNext (nodes ++ (n ∷ [])) m
  next_old m next = search (rules, length_push, walk_of-old)

  module _ (d : Database) (q : Request) where
    -- After a node is appended, the labels of all states other than this node's state still meet
    -- `IsLabel`. A state is a router in a leg, and a node is the record of a walk. A label holds
    -- the best walk found so far to a state.
    label_old : (cap ahead : ℕ) (t : State) → t ≢ state_of n → (label : Label) → IsLabel d nodes (CrossesBelow d q nodes (links_of d) (length nodes)) cap ahead t label
        → IsLabel d (nodes ++ (n ∷ [])) (CrossesBelow d q (nodes ++ (n ∷ [])) (links_of d) (length nodes)) cap ahead t label
    label_old cap ahead t ne label (is_settled k none e) = is_settled k none (index_old t k e)
    label_old cap ahead t ne label (is_reached left r) =
        let same = node_old d label r.parent in
        let walk : walk_of (nodes ++ (n ∷ [])) (node_of d (nodes ++ (n ∷ [])) label) ≡ walk_of nodes (node_of d nodes label) =
        ap (walk_of (nodes ++ (n ∷ []))) same ∙ walk_of-old nodes n (node_of d nodes label) r.next.parent in
        is_reached (open_new t ne left) (record {
          place = r.place;
          parent = omega (arith, r.parent, length_push nodes n);
          rank = r.rank ∙ ap (λ (n : Node). n.rank) (sym same);
          state = ap state_of same ∙ r.state;
          next = subst (IsNext (nodes ++ (n ∷ []))) (sym same) (next_old (node_of d nodes label) r.next);
          passes =
              subst (λ v. CrossesBelow d q (nodes ++ (n ∷ [])) (links_of d) (length nodes) v t) (sym walk)
              (below_new d q (links_of d) (walk_of nodes (node_of d nodes label)) t ne r.passes);
          first = λ w p.
              elim (r.first w (below_old d q (links_of d) w t p)) [
                | inl late ↦ inl (subst (λ v. IsNoLater v w) (sym walk) late)
                | inr beyond ↦ inr beyond
              ];
        })
    label_old cap ahead t ne label (is_unreached left none first) = is_unreached (open_new t ne left) none (λ w p. first w (below_old d q (links_of d) w t p))

    -- The waiting state with the least key is settled: its node is appended, and its label gets the
    -- rank 0. Then the labels of all states still meet `AreLabels`, unless this state is the goal.
    -- A state is a router in a leg, and a node is the record of a walk. A label holds the best walk
    -- found so far to a state, and a walk's rank packs its cost and its number of links into one
    -- number.
    pub labels_settle : AreListed d → (goal : Goal) (labels : List Label) (keys : List HeapKey)
        → AreLabels d q nodes (CrossesBelow d q nodes (links_of d) (length nodes)) goal labels keys → (i : ℕ) (left : List HeapKey) → IsLeast d q goal labels keys i left
        → state_of n ≡ state_at d i → goal.at ≢ i → (label : Label) → label.rank ≡ 0
        → AreLabels d q (nodes ++ (n ∷ [])) (CrossesBelow d q (nodes ++ (n ∷ [])) (links_of d) (length nodes)) goal (set labels i label) left
    labels_settle listed goal labels keys are i left least state off label none =
        let cap_there : label_at (set labels i label) goal.at ≡ label_at labels goal.at = get_or-set_other labels i goal.at label no_label off in
        labels_set d q nodes (nodes ++ (n ∷ [])) (CrossesBelow d q nodes (links_of d) (length nodes)) (CrossesBelow d q (nodes ++ (n ∷ [])) (links_of d) (length nodes)) goal labels keys left are i
        least.index label (is_settled (length nodes) none (ap (index_of (nodes ++ (n ∷ []))) (sym state) ∙ index_new))
        (λ j jx behind ne.
        rw cap_there
        (label_old (label_at labels goal.at).rank (lift goal j) (state_at d j) (λ e. ne (state_apart d q listed j i jx least.index (e ∙ state))) (label_at labels j) (are.each j jx behind)))
        least.ordered least.keyed (λ some. absurd (omega (arith, some, none)))
        (λ j behind ne was.
        elim (least.others (key_at ((label_at labels j).rank + lift goal j) j) was (record { behind = behind; same = refl })) [
          | inl same ↦ absurd (ne same)
          | inr stays ↦ stays
        ])
