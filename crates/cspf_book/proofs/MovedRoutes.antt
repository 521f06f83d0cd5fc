-- The routes of placements that are placed and released, and the batches of placings and releases.
use Rattle.std.proofs.Common.{◌≡◌, inl, inr, ℕ, ◌+◌, ◌<◌, ◌≤◌, ◌⊎◌, true, false, not, cond, Some, None, List, [], ◌∷◌, ◌++◌, find, length, nat_eq, remove, get_or, refl, sym, ap, ◌∙◌, arith}
use Rattle.std.specs.List.{slice_get, IsDistinct}
use Rattle.std.proofs.lemmas.List.Folds.{find_at}
use Rattle.std.proofs.lemmas.Option.{slice_get_cases}
use Rattle.std.proofs.lemmas.Cmp.{nat_eq_equiv}
use Rattle.cspf_model.specs.Database.{Database, Key}
use Rattle.cspf_book.specs.declared.placement.Placement.{Placement}
use Rattle.cspf_book.specs.Placements.{has_key, counted, id_of, others, index_of_id}
use Rattle.cspf_book.specs.Alike.{IsWithinLimits}
use Rattle.cspf_book.specs.PlacedRoutes.{IsOwnRoute, HaveOwnRoutes, HaveDistinctIds, ConnectsItsEnds, ConnectTheirEnds}
use Rattle.cspf_book.specs.Leading.{route_in, route_of, moved_batch, IsMoveBatch}
use Rattle.cspf_book.proofs.Currents.{counted-remove, counted-push}
use Rattle.cspf_book.proofs.Ids.{remove-index_of, remove-behind}
use Rattle.cspf_book.proofs.MovedBatches.{all_append, all_filter, moved_leads}
use Rattle.cspf_book.proofs.StateParts.{state_of}

-- The route at the index of an id is the route of the placement with this id.
pub route_at-index_of : (id at : ℕ) (placements : List Placement) → at ≡ index_of_id id placements
    → route_in (slice_get placements at) ≡ route_of id placements
route_at-index_of id at placements is =
    ap (λ n. route_in (slice_get placements n)) is ∙ ap route_in (sym (find_at (λ p. nat_eq (id_of p) id) placements))

-- The route of an id uses no link twice, and isn't too long.
pub own_route-of : (id : ℕ) (placements : List Placement) → HaveOwnRoutes placements → IsOwnRoute (route_of id placements)
unfolding IsDistinct
own_route-of id [] own = record { once = tt; short = omega arith }
own_route-of id (p ∷ ps) own =
    elim (nat_eq (id_of p) id) as (λ b. IsOwnRoute (route_in (cond b (Some p) (find (λ q. nat_eq (id_of q) id) ps)))) [
      | true ↦ own.0
      | false ↦ own_route-of id ps own.1
    ]

pub own_routes-others : (id : ℕ) (placements : List Placement) → HaveOwnRoutes placements → HaveOwnRoutes (others id placements)
own_routes-others id placements own =
    all_filter (λ p. IsOwnRoute p.route) (λ p. not (nat_eq (id_of p) id)) placements own

pub own_routes-placed : (id : ℕ) (placements : List Placement) (p : Placement) → HaveOwnRoutes placements → IsOwnRoute p.route
    → HaveOwnRoutes (others id placements ++ p ∷ [])
own_routes-placed id placements p own its =
    all_append (λ q. IsOwnRoute q.route) (others id placements) (p ∷ []) (own_routes-others id placements own) (its, tt)

-- Routes that lead from the head-ends to the tail-ends still do so after a release or a placing.
pub ends-others : (id : ℕ) (placements : List Placement) → ConnectTheirEnds placements → ConnectTheirEnds (others id placements)
ends-others id placements ends =
    all_filter ConnectsItsEnds (λ p. not (nat_eq (id_of p) id)) placements ends

pub ends-placed : (id : ℕ) (placements : List Placement) (p : Placement) → ConnectTheirEnds placements → ConnectsItsEnds p
    → ConnectTheirEnds (others id placements ++ p ∷ [])
ends-placed id placements p ends its =
    all_append ConnectsItsEnds (others id placements) (p ∷ []) (ends-others id placements ends) (its, tt)

-- After a release, no placement has the id, so there is no route.
pub route_of-others : (id : ℕ) (placements : List Placement) → route_of id (others id placements) ≡ []
route_of-others id [] = refl
route_of-others id (p ∷ ps) =
    elim (nat_eq (id_of p) id) as (λ b. nat_eq (id_of p) id ≡ b → route_of id (cond (not b) (p ∷ others id ps) (others id ps)) ≡ []) [
      | true ↦ λ _. route_of-others id ps
      | false ↦ λ off. ap (λ b. route_in (cond b (Some p) (find (λ q. nat_eq (id_of q) id) (others id ps)))) off ∙ route_of-others id ps
    ] refl

-- After a placing, the route of the id is the route of the new placement.
pub route_of-placed : (id : ℕ) (placements : List Placement) (p : Placement) → id_of p ≡ id → route_of id (others id placements ++ p ∷ []) ≡ p.route
route_of-placed id [] p is =
    ap (λ b. route_in (cond b (Some p) None)) (ap (λ n. nat_eq n id) is ∙ nat_eq_equiv.refl id)
route_of-placed id (q ∷ qs) p is =
    elim (nat_eq (id_of q) id) as (λ b. nat_eq (id_of q) id ≡ b → route_of id (cond (not b) (q ∷ others id qs) (others id qs) ++ p ∷ []) ≡ p.route) [
      | true ↦ λ _. route_of-placed id qs p is
      | false ↦ λ off. ap (λ b. route_in (cond b (Some q) (find (λ r. nat_eq (id_of r) id) (others id qs ++ p ∷ [])))) off ∙ route_of-placed id qs p is
    ] refl

-- The placements with other ids count as much at each key that isn't on the route of an id.
counted-left : (id : ℕ) (placements : List Placement) (k : Key) → HaveDistinctIds placements → has_key (route_of id placements) k ≡ false → (q : ℕ)
    → counted placements k q ≡ counted (others id placements) k q
counted-left id placements k own off q = either (slice_get_cases placements (index_of_id id placements)).1
  where
    gone : remove placements (index_of_id id placements) ≡ others id placements
    gone = remove-index_of id placements own

    either : ((x : Placement) × (index_of_id id placements < length placements) × (slice_get placements (index_of_id id placements) ≡ Some x) × (get_or placements (index_of_id id placements) x ≡ x))
        ⊎ ((length placements ≤ index_of_id id placements) × (slice_get placements (index_of_id id placements) ≡ None))
        → counted placements k q ≡ counted (others id placements) k q
    either (inl (x, within, is, got)) =
        counted-remove placements (index_of_id id placements) x k within
        (ap (λ (p : Placement). has_key p.route k) got ∙ ap (λ o. has_key (route_in o) k) (sym is) ∙ ap (λ r. has_key r k) (route_at-index_of id (index_of_id id placements) placements refl) ∙ off) q
        ∙ ap (λ qs. counted qs k q) gone
    either (inr (behind, none)) =
        ap (λ qs. counted qs k q) (sym (remove-behind placements (index_of_id id placements) behind) ∙ gone)

-- In this module, `placements` are the placements of a book over a base.
module _ (base : Database) (version : ℕ) (placements : List Placement) (within : IsWithinLimits base) (own : HaveOwnRoutes placements) (ids : HaveDistinctIds placements) where
  -- The batch of a placing leads to the book with the new placement.
  pub placing_leads : (id : ℕ) (p : Placement) → id_of p ≡ id → IsOwnRoute p.route
      → IsMoveBatch (state_of base version placements) id (moved_batch base (others id placements ++ p ∷ []) (version + 1) (route_of id placements) p.route)
      (state_of base (version + 1) (others id placements ++ p ∷ []))
  placing_leads id p is its =
      let old = own_route-of id placements own in record {
        leads = moved_leads base placements (others id placements ++ p ∷ []) (route_of id placements) p.route within old.once its.once old.short its.short
            (λ k first second q. counted-left id placements k ids first q ∙ counted-push (others id placements) p k second q)
            version (version + 1) refl;
        exact = ap (moved_batch base (others id placements ++ p ∷ []) (version + 1) (route_of id placements)) (sym (route_of-placed id placements p is));
      }

  -- The batch of a release leads to the book without the placement.
  pub releasing_leads : (id : ℕ)
      → IsMoveBatch (state_of base version placements) id (moved_batch base (others id placements) (version + 1) (route_of id placements) [])
      (state_of base (version + 1) (others id placements))
  releasing_leads id =
      let old = own_route-of id placements own in
      let none = own_route-of id [] tt in record {
        leads = moved_leads base placements (others id placements) (route_of id placements) [] within old.once none.once old.short none.short
            (λ k first _ q. counted-left id placements k ids first q)
            version (version + 1) refl;
        exact = ap (moved_batch base (others id placements) (version + 1) (route_of id placements)) (sym (route_of-others id placements));
      }
