-- Lemmas on prefixes that only one router owns, and on legs with only one target (a router where a
-- leg may end).
use Rattle.std.proofs.Common.{◌≡◌, inl, inr, ℕ, zero, suc, ◌<◌, ◌↔◌, Some, None, List, [], ◌∷◌, ◌++◌, Contains, length, slice_get, slice_index, slice_index_or, refl, sym, ap, subst, ◌∙◌, arith, lit<}
use Rattle.std.proofs.lemmas.Bool.{cases_lt}
use Rattle.std.proofs.lemmas.List.{get_or_append_left, get_or_push, length_push}
use Rattle.std.proofs.lemmas.List.Elements.{at_from_Contains}
use Rattle.std.proofs.lemmas.Option.{slice_get-get_or, slice_get_past}
use Rattle.cspf_addr.specs.PrefixParts.{PrefixParts}
use Rattle.cspf_addr.specs.declared.hop.Hop.{Hop}
use Rattle.cspf_model.specs.declared.request.Request.{Request}
use Rattle.cspf_model.specs.Database.{Database, IsRouterOf}
use Rattle.cspf_model.specs.Targets.{IsLoose, IsTargetOf, Owns}
use Rattle.cspf_db.specs.Index.{router_list}
use Rattle.cspf_db.specs.Owners.{AreOwners}
use Rattle.cspf_trees.specs.LegsInTurn.{IsSoleOwner, IsSoleTarget}

-- if a list has only one element, reading the list at an index below its length gives this element
one_item : (x y k : ℕ) → k < length (x ∷ []) → slice_index_or (x ∷ []) k y ≡ y → y ≡ x
one_item x y zero h e = sym e
one_item x y (suc k) h e = absurd (omega arith)

-- a list of length 1 consists of its first element
alone : (xs : List ℕ) → length xs ≡ 1 → xs ≡ slice_index xs 0 ∷ []
alone [] one = absurd (omega arith)
alone (x ∷ []) one = refl
alone (x ∷ (y ∷ xs)) one = absurd (omega arith)

-- if the list of the indexes of a prefix's owners has only one element, the router at this index is
-- the only owner of the prefix
pub sole_owner_at : (d : Database) (prefix : PrefixParts) (places : List ℕ) → length places ≡ 1 → AreOwners d prefix places
    → ((router : ℕ) → Contains (router_list d) router ↔ IsRouterOf d router) → IsSoleOwner d prefix (slice_index (router_list d) (slice_index places 0))
sole_owner_at d prefix places one are known =
    let place = slice_index places 0 in
    let sole : AreOwners d prefix (place ∷ []) = subst (AreOwners d prefix) (alone places one) are in
    record {
      owns = (sole.each place (sole.within 0 0 (lit< tt))).0 (0, lit< tt, refl);
      sole = λ other owns.
          let at = at_from_Contains (router_list d) other ((known other).1 owns.known) in
          let there = (sole.each at.0 at.1).1 (subst (Owns d prefix) (sym (at.2 0)) owns) in
          sym (at.2 0) ∙ ap (slice_index (router_list d)) (one_item place at.0 there.0 there.1 there.2);
    }

-- the hop that is read from the list of hops at an index is the request's hop at this index
pub hop_at : (hops items : List Hop) (at count : ℕ) (hop : Hop) → items ≡ hops → count ≡ at → at < length items → hop ≡ slice_index_or items at hop → slice_get hops count ≡ Some hop
hop_at hops items at count hop same here within is =
    rw (here, ← same) (slice_get-get_or items at hop within ∙ ap Some (sym is))

module _ (d : Database) (q : Request) where
  -- if a router is the only owner of a loose hop's prefix, it is the only target of the leg to this
  -- hop (the only router where the leg may end)
  pub hop_target : (at : ℕ) (hop : Hop) (router : ℕ) → slice_get q.hops at ≡ Some hop → IsLoose (slice_get q.hops at) → IsSoleOwner d hop.prefix router → IsSoleTarget d q at router
  hop_target at hop router is loose owner = record {
    loose = loose;
    target = subst (λ o. IsTargetOf d q.to o router) (sym is) owner.owns;
    sole = λ other target. owner.sole other (subst (λ o. IsTargetOf d q.to o other) is target);
  }

  -- the tail-end is the only target of the last leg (the only router where it may end)
  pub tail_target : (at : ℕ) → at ≡ length q.hops → IsSoleTarget d q at q.to
  tail_target at last =
      let past : slice_get q.hops at ≡ None = slice_get_past q.hops at (omega arith) in
      record {
        loose = subst IsLoose (sym past) tt;
        target = subst (λ o. IsTargetOf d q.to o q.to) (sym past) refl;
        sole = λ other target. subst (λ o. IsTargetOf d q.to o other) past target;
      }

  -- If `targets` has the only target of each of the first legs, and the only target of the next leg
  -- is appended, the longer list has the only target of each leg up to the next one. A leg's
  -- targets are the routers where it may end.
  pub targets_push : (targets : List ℕ) (router : ℕ) → ((at : ℕ) → at < length targets → IsSoleTarget d q at (slice_index targets at)) → IsSoleTarget d q (length targets) router
      → (at : ℕ) → at < length (targets ++ (router ∷ [])) → IsSoleTarget d q at (slice_index (targets ++ (router ∷ [])) at)
  targets_push targets router each last at within =
      elim (cases_lt at (length targets)) [
        | inl lt ↦ rw (get_or_append_left targets (router ∷ []) 0 at lt) (each at lt)
        | inr ge ↦
            let here : at ≡ length targets = omega (arith, within, length_push targets router) in
            rw (get_or_push targets router 0 at (sym here)) (subst (λ k. IsSoleTarget d q k router) (sym here) last)
      ]
