-- After a label is offered to a state, the labels of all states still meet `AreLabels`. A label
-- holds the best walk found so far to a state, which is a router in a leg.
use Rattle.std.proofs.Common.{◌≡◌, ◌≢◌, ◌⊎◌, inl, inr, ℕ, ◌+◌, ◌^◌, ◌<◌, ◌≤◌, List, [], ◌∷◌, None, length, set, refl, sym, ap, subst, ◌∙◌, arith, length-set, rules}
use Rattle.std.specs.BinaryHeap.{IsHeap}
use Rattle.std.specs.List.{All, Contains}
use Rattle.std.specs.Ordering.{is_gt}
use Rattle.std.proofs.lemmas.Cmp.{upto, tied_itself}
use Rattle.std.proofs.lemmas.List.{get_or-set_same, get_or-set_other}
use Rattle.std.proofs.lemmas.List.Elements.{All-cons, Contains-append_right}
use Rattle.std.proofs.lemmas.List.Sorted.{All-permutation, Contains-permutation}
use Rattle.cspf_model.specs.declared.link.Link.{Link}
use Rattle.cspf_model.specs.declared.request.Request.{Request}
use Rattle.cspf_model.specs.Database.{Database}
use Rattle.cspf_search.specs.declared.arena.Node.{Node}
use Rattle.cspf_search.specs.declared.goal.Goal.{Goal}
use Rattle.cspf_search.specs.declared.labels.Label.{Label}
use Rattle.cspf_search.specs.States.{State}
use Rattle.cspf_search.specs.Settled.{IsNoLater}
use Rattle.cspf_search.specs.Arena.{walk_of, walk_rank, state_of, index_of, AreNodes, IsNext}
use Rattle.cspf_search.specs.Frontier.{state_at, node_of, no_rank, lift, IsBeyond, IsReached, IsLabel, is_settled, is_reached, is_unreached, HeapKey, key_at, label_at, heap_key_cmp, no_label, IsKey, AreLabels, IsOffer, AreTied, HasKey, StaysAt, GoesTo}
use Rattle.cspf_graph.specs.Roles.{IsStateIndex}
use Rattle.cspf_graph.specs.Lists.{AreListed}
use Rattle.cspf_search.proofs.Orders.{walks_total}
use Rattle.cspf_graph.proofs.RouterIndexes.{same_or_not}
use Rattle.cspf_search.proofs.Ranks.{before_by_rank, before_by_locals, locals_turned, rank_is, walk_short, rank_small, lift_small, beyond_lower, state_apart}

lowered : {A : Type 0} (cap lower ahead : ℕ) (w : List Link) → lower ≤ cap → A ⊎ IsBeyond cap ahead w → A ⊎ IsBeyond lower ahead w
lowered cap lower ahead w h h2 = search rules

no_later_itself : (w : List Link) → IsNoLater w w
no_later_itself w = ap is_gt (tied_itself walks_total w)

-- Each walk that meets the condition `P` also meets the condition `R`. A label that meets
-- `IsReached` for `P` also meets it for `R`, if its walk precedes all other walks that meet `R`.
-- Walks that can't begin the best route don't count here. A label holds the best walk found so far
-- to a state.
reached_on : (d : Database) (nodes : List Node) (P R : List Link → State → Type 0) (cap lower ahead : ℕ) (t : State) (label : Label) → IsReached d nodes P cap ahead t label
    → ((w : List Link) (t : State) → P w t → R w t) → ((w : List Link) → R w t → IsNoLater (walk_of nodes (node_of d nodes label)) w ⊎ IsBeyond lower ahead w)
    → IsReached d nodes R lower ahead t label
reached_on d nodes P R cap lower ahead t label r up first = search rules

-- After the label of one state is replaced, the labels meet `AreLabels` if each of them meets
-- `IsLabel`, and the heap has the keys that `AreLabels` requires. A state is a router in a leg, and
-- a label holds the best walk found so far to a state.
pub labels_set : (d : Database) (q : Request) (old nodes : List Node) (P R : List Link → State → Type 0) (goal : Goal) (labels : List Label) (old_keys keys : List HeapKey)
    → AreLabels d q old P goal labels old_keys → (i : ℕ) → IsStateIndex d q i → (label : Label)
    → IsLabel d nodes R (label_at (set labels i label) goal.at).rank (lift goal i) (state_at d i) label
    → ((j : ℕ) → IsStateIndex d q j → goal.floor ≤ j → j ≢ i → IsLabel d nodes R (label_at (set labels i label) goal.at).rank (lift goal j) (state_at d j) (label_at labels j))
    → IsHeap heap_key_cmp keys → All (IsKey d q goal) keys → (0 < label.rank → Contains keys (key_at (label.rank + lift goal i) i))
    → ((j : ℕ) → goal.floor ≤ j → j ≢ i → Contains old_keys (key_at ((label_at labels j).rank + lift goal j) j) → Contains keys (key_at ((label_at labels j).rank + lift goal j) j))
    → AreLabels d q nodes R goal (set labels i label) keys
labels_set d q old nodes P R goal labels old_keys keys are i index label is others ordered keyed waits still =
    let here : label_at (set labels i label) i ≡ label = get_or-set_same labels i label _ (omega (arith, are.many, index.low)) in
    let there : (j : ℕ) → j ≢ i → label_at (set labels i label) j ≡ label_at labels j = λ j ne. get_or-set_other labels i j label _ ne in
    record {
      small = are.small;
      bounds = are.bounds;
      whole = are.whole;
      many = length-set labels i label ∙ are.many;
      each = λ j jx behind.
          elim (same_or_not j i) [
            | inl same ↦ rw (same, here) is
            | inr ne ↦ rw (there j ne) (others j jx behind ne)
          ];
      ordered = ordered;
      keyed = keyed;
      waiting = λ j jx behind some most.
          elim (same_or_not j i) [
            | inl same ↦ rw (same, here) (waits (omega (arith, some, ap (λ (l : Label). l.rank) (ap (label_at (set labels i label)) same ∙ here))))
            | inr ne ↦
                let e = there j ne in
                let rank = ap (λ (l : Label). l.rank) e in
                rw e (still j behind ne (are.waiting j jx behind (omega (arith, rank, some)) (omega (arith, rank, most))))
          ];
    }

-- The walk `x` can't change the label of its state. Either `x` doesn't precede the walk of this
-- label, or the rank of `x` plus the state's lift exceeds `cap`, the rank of a known walk to the
-- tail-end. The lift of a state (a router in a leg) is its bound times `COST_WEIGHT`. A label holds
-- the best walk found so far to a state, and a walk's rank packs its cost and its number of links
-- into one number.
abbrev pub IsLost : Database → List Node → (List Link → State → Type 0) → ℕ → ℕ → State → Label → List Link → Type 0
IsLost d nodes P cap ahead t label x =
    IsBeyond cap ahead x ⊎ ((label.rank ≢ no_rank) × (IsReached d nodes P cap ahead t label → IsNoLater (walk_of nodes (node_of d nodes label)) x))

-- The label `label` holds the walk `x`, which doesn't come after the walk of the label `old` in the
-- order of walks. A label holds the best walk found so far to a state.
pub record IsBetter (d : Database) (nodes : List Node) (P : List Link → State → Type 0) (cap ahead : ℕ) (t : State) (old label : Label) (x : List Link) : Type 0 where
  pub offer : IsOffer d nodes label
  pub rank : label.rank ≡ (node_of d nodes label).rank
  pub state : state_of (node_of d nodes label) ≡ t
  pub walk : walk_of nodes (node_of d nodes label) ≡ x
  pub no_more : label.rank ≤ old.rank
  pub first : IsReached d nodes P cap ahead t old → IsNoLater x (walk_of nodes (node_of d nodes old))

module _ (d : Database) (q : Request) (nodes : List Node) (are : AreNodes nodes) (listed : AreListed d) (P Q R : List Link → State → Type 0)
    (from_left : (w : List Link) (t : State) → P w t → R w t) (from_right : (w : List Link) (t : State) → Q w t → R w t)
    (cases : (w : List Link) (t : State) → R w t → P w t ⊎ Q w t) (goal : Goal) (labels : List Label) (keys : List HeapKey)
    (before : AreLabels d q nodes P goal labels keys) (i : ℕ) (index : IsStateIndex d q i) (open_leg : goal.floor ≤ i) (x : List Link)
    (only : (w : List Link) (t : State) → Q w t → (t ≡ state_at d i) × (w ≡ x)) where
  abbrev cap : ℕ
  cap = (label_at labels goal.at).rank

  -- The offered walk `x` leads to the state with the index `i`, so the label of each other state
  -- still meets `IsLabel`. A state is a router in a leg, and a label holds the best walk found so
  -- far to a state.
  other : (j : ℕ) → IsStateIndex d q j → j ≢ i → (lower : ℕ) → lower ≤ cap → (label : Label) → IsLabel d nodes P cap (lift goal j) (state_at d j) label
      → IsLabel d nodes R lower (lift goal j) (state_at d j) label
  other j jx ne lower h label (is_settled k none e) = is_settled k none e
  other j jx ne lower h label (is_reached left r) =
      is_reached left (reached_on d nodes P R cap lower (lift goal j) (state_at d j) label r from_left (λ w p.
      elim (cases w (state_at d j) p) [
        | inl old ↦ lowered cap lower (lift goal j) w h (r.first w old)
        | inr new ↦ absurd (ne (state_apart d q listed j i jx index (only w (state_at d j) new).0))
      ]))
  other j jx ne lower h label (is_unreached left none first) = is_unreached left none (λ w p.
      elim (cases w (state_at d j) p) [
        | inl old ↦ beyond_lower cap lower (lift goal j) w h (first w old)
        | inr new ↦ absurd (ne (state_apart d q listed j i jx index (only w (state_at d j) new).0))
      ])

  stays : (label : Label) → IsLabel d nodes P cap (lift goal i) (state_at d i) label → (Q x (state_at d i) → IsLost d nodes P cap (lift goal i) (state_at d i) label x)
      → IsLabel d nodes R cap (lift goal i) (state_at d i) label
  stays label (is_settled k none e) lost = is_settled k none e
  stays label (is_reached left r) lost =
      is_reached left (reached_on d nodes P R cap cap (lift goal i) (state_at d i) label r from_left (λ w p.
      elim (cases w (state_at d i) p) [
        | inl old ↦ r.first w old
        | inr new ↦
            let same = (only w (state_at d i) new).1 in
            elim (lost (subst (λ v. Q v (state_at d i)) same new)) [
              | inl beyond ↦ inr (subst (IsBeyond cap (lift goal i)) (sym same) beyond)
              | inr late ↦ inl (subst (IsNoLater (walk_of nodes (node_of d nodes label))) (sym same) (late.1 r))
            ]
      ]))
  stays label (is_unreached left none first) lost = is_unreached left none (λ w p.
      elim (cases w (state_at d i) p) [
        | inl old ↦ first w old
        | inr new ↦
            let same = (only w (state_at d i) new).1 in
            elim (lost (subst (λ v. Q v (state_at d i)) same new)) [
              | inl beyond ↦ subst (IsBeyond cap (lift goal i)) (sym same) beyond
              | inr late ↦ absurd (late.0 none)
            ]
      ])

  -- If the walk `x` can't change the label of the state at the index `i`, the labels still meet
  -- `AreLabels` after `x` is added to the walks that count. A state is a router in a leg, and a
  -- label holds the best walk found so far to a state.
  pub labels_stay : (Q x (state_at d i) → IsLost d nodes P cap (lift goal i) (state_at d i) (label_at labels i) x) → AreLabels d q nodes R goal labels keys
  labels_stay lost = record {
    small = before.small;
    bounds = before.bounds;
    whole = before.whole;
    many = before.many;
    each = λ j jx behind.
        elim (same_or_not j i) [
          | inl same ↦ rw same (stays (label_at labels i) (before.each i index open_leg) lost)
          | inr ne ↦ other j jx ne cap (omega arith) (label_at labels j) (before.each j jx behind)
        ];
    ordered = before.ordered;
    keyed = before.keyed;
    waiting = before.waiting;
  }

  becomes : (old label : Label) (lower : ℕ) → IsBetter d nodes P cap (lift goal i) (state_at d i) old label x → Q x (state_at d i) → index_of nodes (state_at d i) ≡ None
      → ((w : List Link) → P w (state_at d i) → IsNoLater x w ⊎ IsBeyond lower (lift goal i) w) → IsLabel d nodes R lower (lift goal i) (state_at d i) label
  becomes old label lower better passes left first = search (rules, no_later_itself)

  gets : (old label : Label) (lower : ℕ) → lower ≤ cap → IsLabel d nodes P cap (lift goal i) (state_at d i) old → IsBetter d nodes P cap (lift goal i) (state_at d i) old label x → Q x (state_at d i)
      → IsLabel d nodes R lower (lift goal i) (state_at d i) label
  gets old label lower h (is_settled k none e) better passes = absurd (omega (arith, better.rank, better.no_more))
  gets old label lower h (is_reached left r) better passes =
      becomes old label lower better passes left (λ w was.
      elim (r.first w was) [
        | inl late ↦ inl (upto walks_total x (walk_of nodes (node_of d nodes old)) w (better.first r) late)
        | inr beyond ↦ inr (beyond_lower cap lower (lift goal i) w h beyond)
      ])
  gets old label lower h (is_unreached left none first) better passes =
      becomes old label lower better passes left (λ w was. inr (beyond_lower cap lower (lift goal i) w h (first w was)))

  -- If a better label replaces the old one, and the new heap has all old keys and the key of the
  -- better label, the labels still meet `AreLabels`. A label holds the best walk found so far to a
  -- state.
  labels_over : (label : Label) (new_keys : List HeapKey) → IsBetter d nodes P cap (lift goal i) (state_at d i) (label_at labels i) label x → Q x (state_at d i)
      → IsHeap heap_key_cmp new_keys → All (IsKey d q goal) new_keys → (0 < label.rank → Contains new_keys (key_at (label.rank + lift goal i) i))
      → ((key : HeapKey) → Contains keys key → Contains new_keys key) → AreLabels d q nodes R goal (set labels i label) new_keys
  labels_over label new_keys better passes ordered keyed waits kept =
      let within : i < length labels = omega (arith, before.many, index.low) in
      let here : label_at (set labels i label) i ≡ label = get_or-set_same labels i label _ within in
      let lower : (label_at (set labels i label) goal.at).rank ≤ cap =
      elim (same_or_not goal.at i) [
        | inl same ↦ rw (same, here) better.no_more
        | inr ne ↦ let e = ap (λ (l : Label). l.rank) (get_or-set_other labels i goal.at label no_label ne) in omega (arith, e)
      ] in
      labels_set d q nodes nodes P R goal labels keys new_keys before i index label
      (gets (label_at labels i) label (label_at (set labels i label) goal.at).rank lower (before.each i index open_leg) better passes)
      (λ j jx behind ne. other j jx ne (label_at (set labels i label) goal.at).rank lower (label_at labels j) (before.each j jx behind))
      ordered keyed waits (λ j behind ne was. kept (key_at ((label_at labels j).rank + lift goal j) j) was)

  -- If a better label replaces the old label of a state, and the heap has the key of the better
  -- label, the labels still meet `AreLabels`. A state is a router in a leg, and a label holds the
  -- best walk found so far to a state.
  pub labels_change : (label : Label) (key : ℕ) (new_keys : List HeapKey) → key ≡ label.rank + lift goal i → IsBetter d nodes P cap (lift goal i) (state_at d i) (label_at labels i) label x → Q x (state_at d i)
      → HasKey label.rank (label_at labels i).rank (key_at key i) keys new_keys → AreLabels d q nodes R goal (set labels i label) new_keys
  labels_change label key new_keys is_key better passes (inl tie) =
      let most = rank_small nodes are (node_of d nodes label) better.offer.next in
      rw tie.1 (labels_over label keys better passes before.ordered before.keyed
      (λ some. rw tie.0 (before.waiting i index open_leg (omega (arith, some, tie.0)) (omega (arith, tie.0, better.rank, most)))) (λ key has. has))
  labels_change label key new_keys is_key better passes (inr gains) =
      let key_most = rank_small nodes are (node_of d nodes label) better.offer.next in
      labels_over label new_keys better passes (gains.kept before.ordered)
      (All-permutation (IsKey d q goal) (key_at key i ∷ keys) new_keys gains.moved
      (All-cons (IsKey d q goal) (key_at key i) keys
      (record {
        some = omega (arith, is_key, better.rank);
        most = omega (arith, is_key, better.rank, key_most, lift_small goal i (before.small i));
        index = index;
      })
      before.keyed))
      (λ some. rw (← is_key) (Contains-permutation (key_at key i ∷ keys) new_keys (key_at key i) gains.moved (0, omega arith, refl)))
      (λ k was. Contains-permutation (key_at key i ∷ keys) new_keys k gains.moved (Contains-append_right (key_at key i ∷ []) keys k was))

  -- After a label is offered to a state, the labels still meet `AreLabels`, whether the state keeps
  -- its old label or gets the offered one. A state is a router in a leg, and a label holds the best
  -- walk found so far to a state.
  pub labels_offered : (label : Label) (key : ℕ) (new : List Label) (new_keys : List HeapKey) → key ≡ label.rank + lift goal i → IsOffer d nodes label → label.rank ≡ (node_of d nodes label).rank
      → state_of (node_of d nodes label) ≡ state_at d i → walk_of nodes (node_of d nodes label) ≡ x → label.rank ≤ (label_at labels i).rank → Q x (state_at d i)
      → StaysAt d nodes i label labels new keys new_keys ⊎ GoesTo d nodes i label key labels new keys new_keys → AreLabels d q nodes R goal new new_keys
  labels_offered label key new new_keys is_key offer rank state walk le passes (inl stay) =
      rw (stay.labels, stay.keys) (labels_stay (λ _. inr (
        λ e. let small = rank_small nodes are (node_of d nodes label) offer.next in absurd (omega (arith, stay.tie, rank)),
        λ r.
            let old = node_of d nodes (label_at labels i) in
            subst (IsNoLater (walk_of nodes old)) walk
            (before_by_locals (walk_of nodes old) (walk_of nodes (node_of d nodes label))
            (omega (arith, rank_is nodes are old r.next, rank_is nodes are (node_of d nodes label) offer.next, r.rank, rank, stay.tie))
            (walk_short nodes are old r.next) (walk_short nodes are (node_of d nodes label) offer.next) stay.first),
      )))
  labels_offered label key new new_keys is_key offer rank state walk le passes (inr go) =
      rw go.labels (labels_change label key new_keys is_key (record {
        offer = offer;
        rank = rank;
        state = state;
        walk = walk;
        no_more = le;
        first = λ r.
            let old = node_of d nodes (label_at labels i) in
            let ranks : walk_rank (walk_of nodes (node_of d nodes label)) ≤ walk_rank (walk_of nodes old) =
            omega (arith, rank_is nodes are old r.next, rank_is nodes are (node_of d nodes label) offer.next, r.rank, rank) in
            subst (λ v. IsNoLater v (walk_of nodes old)) walk
            (elim (same_or_not label.rank (label_at labels i).rank) [
              | inl tie ↦
                  before_by_locals (walk_of nodes (node_of d nodes label)) (walk_of nodes old)
                  (omega (arith, rank_is nodes are old r.next, rank_is nodes are (node_of d nodes label) offer.next, r.rank, rank, tie))
                  (walk_short nodes are (node_of d nodes label) offer.next) (walk_short nodes are old r.next)
                  (locals_turned (walk_of nodes old) (walk_of nodes (node_of d nodes label)) (go.first tie))
              | inr less ↦
                  before_by_rank (walk_of nodes (node_of d nodes label)) (walk_of nodes old)
                  (omega (arith, rank_is nodes are old r.next, rank_is nodes are (node_of d nodes label) offer.next, r.rank, rank, less))
                  (walk_short nodes are old r.next)
            ]);
      }) passes go.keys)

-- A walk can't change the label of its state if this label has a lower rank than the walk. It can't
-- change the label either if the walk's rank plus the state's lift exceeds `cap`, the rank in the
-- goal's label. The lift of a state (a router in a leg) is its bound times `COST_WEIGHT`. A label
-- holds the best walk found so far to a state, and a walk's rank packs its cost and its number of
-- links into one number.
pub lost_by_rank : (d : Database) (nodes : List Node) → AreNodes nodes → (P : List Link → State → Type 0) (cap ahead : ℕ) (t : State) (label : Label) (n : Node)
    → IsNext nodes n → ahead < 2 ^ 46 → (label.rank < n.rank) ⊎ (cap < n.rank + ahead) → IsLost d nodes P cap ahead t label (walk_of nodes n)
lost_by_rank d nodes are P cap ahead t label n next low h4 = search rules

-- If an offered label has the same rank as the present label of a state, the walks of both labels
-- have the same rank too. A state is a router in a leg, and a label holds the best walk found so
-- far to a state. A walk's rank packs its cost and its number of links into one number.
pub tied_label : (d : Database) (nodes : List Node) → AreNodes nodes → (P : List Link → State → Type 0) (cap ahead : ℕ) (t : State) (old label : Label) → IsLabel d nodes P cap ahead t old
    → IsOffer d nodes label → label.rank ≡ (node_of d nodes label).rank → label.rank ≡ old.rank → AreTied d nodes old label
tied_label d nodes are P cap ahead t old label h2 offer rank tie = search rules

label_same : (d : Database) (nodes : List Node) (P R : List Link → State → Type 0) → ((w : List Link) (t : State) → P w t → R w t)
    → ((w : List Link) (t : State) → R w t → P w t) → (cap ahead : ℕ) (t : State) (label : Label) → IsLabel d nodes P cap ahead t label → IsLabel d nodes R cap ahead t label
label_same d nodes P R up down most ahead t label (is_settled k none e) = is_settled k none e
label_same d nodes P R up down most ahead t label (is_reached left r) = is_reached left (reached_on d nodes P R most most ahead t label r up (λ w p. r.first w (down w t p)))
label_same d nodes P R up down most ahead t label (is_unreached left none first) = is_unreached left none (λ w p. first w (down w t p))

-- If the same walks meet the conditions `P` and `R`, labels that meet `AreLabels` for `P` also meet
-- it for `R`. A label holds the best walk found so far to a state.
pub labels_same : (d : Database) (q : Request) (nodes : List Node) (P R : List Link → State → Type 0) → ((w : List Link) (t : State) → P w t → R w t)
    → ((w : List Link) (t : State) → R w t → P w t) → (goal : Goal) (labels : List Label) (keys : List HeapKey) → AreLabels d q nodes P goal labels keys
    → AreLabels d q nodes R goal labels keys
labels_same d q nodes P R up down goal labels keys before =
    let same : (i : ℕ) (t : State) (label : Label) → IsLabel d nodes P (label_at labels goal.at).rank (lift goal i) t label → IsLabel d nodes R (label_at labels goal.at).rank (lift goal i) t label =
    λ i t label is. label_same d nodes P R up down (label_at labels goal.at).rank (lift goal i) t label is in
    record {
      small = before.small;
      bounds = before.bounds;
      whole = before.whole;
      many = before.many;
      each = λ j jx behind. same j (state_at d j) (label_at labels j) (before.each j jx behind);
      ordered = before.ordered;
      keyed = before.keyed;
      waiting = before.waiting;
    }

-- If the rank in a state's label isn't 0, the state isn't settled. A state is a router in a leg,
-- and a label holds the best walk found so far to a state. A walk's rank packs its cost and its
-- number of links into one number.
pub left_open : (d : Database) (nodes : List Node) (P : List Link → State → Type 0) (cap ahead : ℕ) (t : State) (label : Label) → IsLabel d nodes P cap ahead t label → 0 < label.rank
    → index_of nodes t ≡ None
left_open d nodes P cap ahead t label h1 some = search rules
