-- Lemmas on the links that a search looks at.
use Rattle.std.proofs.Common.{◌≡◌, ◌≢◌, ◌⊎◌, inl, inr, ℕ, ◌<◌, Some, List, length, map, slice_get, slice_index, slice_index_or, refl, sym, ap, subst, ◌∙◌, arith}
use Rattle.std.specs.List.{All}
use Rattle.std.proofs.lemmas.Option.{get_or_from_slice_get, slice_get-get_or, slice_get_within}
use Rattle.cspf_columns.specs.declared.limits.TheConstants.{NO_LINK}
use Rattle.cspf_model.specs.declared.link.Link.{Link}
use Rattle.cspf_model.specs.declared.request.Request.{Request}
use Rattle.cspf_model.specs.Database.{Database, AreLinksOf, HasTransit}
use Rattle.cspf_model.specs.Admissible.{IsAdmitted}
use Rattle.cspf_db.specs.Index.{links_from_index, links_of, router_list, IsReverseAt}
use Rattle.cspf_graph.specs.Lists.{AreListed, IsIndexOf}
use Rattle.cspf_graph.proofs.RouterIndexes.{one_place}
use Rattle.cspf_meet.specs.declared.direction.Direction.{Direction}
use Rattle.cspf_meet.specs.declared.direction.Direction.TheVariants.{Ahead, Back}
use Rattle.cspf_walk.specs.declared.located_request.LocatedRequest.{LocatedRequest}
use Rattle.cspf_meet.specs.Looks.{LeadsBack, MayReach, Steps, goal_of, goal_router, link_index, links_read}
use Rattle.cspf_walk.specs.Ways.{IsLocatedRequest, Leads, link_step}
use Rattle.cspf_graph.proofs.LinkRows.{as_many, end_of_row, found_back, kept_from, reverse_of_row, some_at}

-- If a list is read at the index of a link, the result is this link.
pub link_read : (all read : List Link) (n index : ℕ) (link l : Link) → link ≡ slice_index_or read n link → read ≡ all → n ≡ index → slice_get all index ≡ Some l → link ≡ l
link_read all read n index link l is same at here =
    is ∙ ap (λ ls. slice_index_or ls n link) same ∙ ap (λ k. slice_index_or all k link) at ∙ get_or_from_slice_get all index l link here

module _ (d : Database) (listed : AreListed d) where
  reach_at : (goal end router place : ℕ) → IsIndexOf d end goal → IsIndexOf d router place → HasTransit d router ⊎ (router ≡ end) → MayReach d goal place
  reach_at goal end router place is at (inl transit) = inl (subst (HasTransit d) (sym at.is) transit)
  reach_at goal end router place is at (inr same) = inr (one_place d listed end place goal (subst (λ k. IsIndexOf d k place) same at) is)

  -- Lemmas on the columns of the links from the router with the index `place`.
  module _ (q : Request) (of : AreLinksOf d (links_of d)) (place : ℕ) (ends reverses : List ℕ) (within : All (λ end. end < length (router_list d)) ends)
      (each : map (λ end. slice_index (router_list d) end) ends ≡ map (λ (l : Link). l.to) (links_from_index d place))
      (beside : (nth : ℕ) (e : Link) → nth < length (links_from_index d place) → IsReverseAt d (slice_index_or (links_from_index d place) nth e) (slice_index_or reverses nth 0)) (goal : ℕ) where
    -- What holds for each link from the router, if the request admits it and a way may reach the
    -- router at its end, holds for each step ahead.
    steps_ahead : IsIndexOf d q.to goal → (P : ℕ → ℕ → Type 0)
        → ((k : ℕ) → k < length ends → (l : Link) → slice_get (links_from_index d place) k ≡ Some l → slice_index reverses k ≢ NO_LINK → IsAdmitted q l → MayReach d goal (slice_index ends k) → P (slice_index ends k) (link_step l))
        → (w step : ℕ) → Leads d q place w step → P w step
    steps_ahead is P passed w step leads =
        let l = leads.link in
        let at = kept_from d place leads.link (of.whole leads.link leads.is.admissible.link) (sym leads.from.is) in
        let read : slice_get (links_from_index d place) at.0 ≡ Some leads.link = slice_get-get_or (links_from_index d place) at.0 leads.link at.1 ∙ ap Some at.2 in
        let row_end = end_of_row d ends (links_from_index d place) within each at.0 leads.link (slice_index ends at.0) at.1 (sym at.2) refl in
        let here : slice_index ends at.0 ≡ w = one_place d listed leads.link.to (slice_index ends at.0) w row_end leads.to in
        let back = reverse_of_row d place reverses beside at.0 leads.link read in
        let reach = reach_at goal q.to leads.link.to (slice_index ends at.0) is row_end leads.is.over in
        let many = as_many d place ends each in
        let done : P (slice_index ends at.0) (link_step leads.link) =
        passed at.0 (omega (arith, at.1, many)) leads.link read (λ none. back.none none leads.is.admissible.usable.reverse) leads.is.admissible.usable.admitted reach in
        subst (P w) leads.same (subst (λ e. P e (link_step leads.link)) here done)

    -- What holds for each link to the router, if the request admits it and a way may reach the
    -- router at its start, holds for each step back.
    pub steps_back : IsIndexOf d q.from goal → (P : ℕ → ℕ → Type 0)
        → ((k : ℕ) → k < length ends → (l : Link) → slice_get (links_of d) (slice_index reverses k) ≡ Some l → slice_index reverses k ≢ NO_LINK → IsAdmitted q l → MayReach d goal (slice_index ends k) → P (slice_index ends k) (link_step l))
        → (u step : ℕ) → LeadsBack d q place u step → P u step
    steps_back is P passed u step leads =
        let x = found_back d of listed place ends reverses within each beside leads.link leads.is.admissible.link leads.is.admissible.usable.reverse u leads.from leads.to in
        let low = slice_get_within (links_of d) (slice_index reverses x.0) leads.link x.3 in
        let many = as_many d place ends each in
        let reach : MayReach d goal (slice_index ends x.0) = subst (MayReach d goal) (sym x.2) (reach_at goal q.from leads.link.from u is leads.from leads.is.left) in
        let done : P (slice_index ends x.0) (link_step leads.link) =
        passed x.0 (omega (arith, x.1, many)) leads.link x.3 (λ none. omega (arith, low, none, listed.room)) leads.is.admissible.usable.admitted reach in
        subst (P u) leads.same (subst (λ e. P e (link_step leads.link)) x.2 done)

    -- The index of the reverse of a link from the router is an index of the table's links.
    pub reverse_within : (row : ℕ) → row < length ends → slice_index reverses row ≢ NO_LINK → slice_index reverses row < length (links_of d)
    reverse_within row low some =
        let many = as_many d place ends each in
        let there = some_at (links_from_index d place) row (omega (arith, low, many)) in
        (beside row there.0 (omega (arith, low, many))).within some

    -- What holds for each link that a search reads at the router, if the request admits it and a way
    -- may reach the router at its other end, holds for each step of the search.
    pub steps_passed : (direction : Direction) → IsIndexOf d (goal_router direction q) goal → (P : ℕ → ℕ → Type 0)
        → ((k : ℕ) → k < length ends → (l : Link) → slice_get (links_read direction d place) (link_index direction k (slice_index reverses k)) ≡ Some l → slice_index reverses k ≢ NO_LINK → IsAdmitted q l → MayReach d goal (slice_index ends k) → P (slice_index ends k) (link_step l))
        → (w step : ℕ) → Steps direction d q place w step → P w step
    steps_passed Ahead is P passed w step leads = steps_ahead is P passed w step leads
    steps_passed Back is P passed w step leads = steps_back is P passed w step leads

    -- The index of a link that a search reads at the router is an index of the links that it reads.
    pub index_within : (direction : Direction) (row : ℕ) → row < length ends → slice_index reverses row ≢ NO_LINK
        → link_index direction row (slice_index reverses row) < length (links_read direction d place)
    index_within Ahead row low some = omega (arith, low, as_many d place ends each)
    index_within Back row low some = reverse_within row low some

-- The router where the other search begins has the index that the search has for it.
pub goal_is : (direction : Direction) (query : LocatedRequest) → IsLocatedRequest query → IsIndexOf query.table.now (goal_router direction query.request.now) (goal_of direction query)
goal_is Ahead query is = is.to
goal_is Back query is = is.from

-- A step begins at a router in the list of routers.
pub step_within : (direction : Direction) (d : Database) (q : Request) (u w step : ℕ) → Steps direction d q u w step → u < length (router_list d)
step_within Ahead d q u w step leads = leads.from.within
step_within Back d q u w step leads = leads.to.within
