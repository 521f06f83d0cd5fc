-- Lemmas on joining walks, and on joining legs, one after the other.
use Rattle.std.proofs.Common.{◌≡◌, inl, inr, ℕ, suc, ◌+◌, List, [], ◌∷◌, ◌++◌, ◌⊎◌, length, map, refl, sym, ap, subst, ◌∙◌, arith, append-nil}
use Rattle.std.specs.List.{AllByRecursion, flat_map}
use Rattle.std.proofs.lemmas.List.Concat.{flat_map-append}
use Rattle.cspf_model.specs.declared.link.Link.{Link}
use Rattle.cspf_model.specs.declared.request.Request.{Request}
use Rattle.cspf_model.specs.Database.{Database, HasTransit}
use Rattle.cspf_model.specs.Walks.{AreJoined, end_of, routers_passed}
use Rattle.cspf_model.specs.Legs.{AreLegs, IsLeg}

pub end_of_both : (a : ℕ) (v w : List Link) → end_of a (v ++ w) ≡ end_of (end_of a v) w
end_of_both a [] w = refl
end_of_both a (l ∷ v) w = end_of_both l.to v w

pub both_hold : (P : Link → Type 0) (v w : List Link) → AllByRecursion P v → AllByRecursion P w → AllByRecursion P (v ++ w)
both_hold P [] w first second = second
both_hold P (l ∷ v) w first second = (first.0, both_hold P v w first.1 second)

pub hold_in_parts : (P : Link → Type 0) (v w : List Link) → AllByRecursion P (v ++ w) → AllByRecursion P v × AllByRecursion P w
hold_in_parts P [] w all = (tt, all)
hold_in_parts P (l ∷ v) w all = let parts = hold_in_parts P v w all.1 in ((all.0, parts.0), parts.1)

pub joined_both : (a : ℕ) (v w : List Link) → AreJoined a v → AreJoined (end_of a v) w → AreJoined a (v ++ w)
joined_both a [] w first second = second
joined_both a (l ∷ v) w first second = (first.0, joined_both l.to v w first.1 second)

pub joined_in_parts : (a : ℕ) (v w : List Link) → AreJoined a (v ++ w) → AreJoined a v × AreJoined (end_of a v) w
joined_in_parts a [] w joined = (tt, joined)
joined_in_parts a (l ∷ v) w joined = let parts = joined_in_parts l.to v w joined.1 in ((joined.0, parts.0), parts.1)

module _ (d : Database) where
  -- each of the links begins at a router with transit
  abbrev BeginAtTransit : List Link → Type 0
  BeginAtTransit links = AllByRecursion (HasTransit d) (map (λ m. m.from) links)

  -- the links pass only through routers with transit
  abbrev pub PassTransit : List Link → Type 0
  PassTransit links = AllByRecursion (HasTransit d) (routers_passed links)

  begin_both : (v w : List Link) → BeginAtTransit v → BeginAtTransit w → BeginAtTransit (v ++ w)
  begin_both [] w first second = second
  begin_both (l ∷ v) w first second = (first.0, begin_both v w first.1 second)

  begin_in_parts : (v w : List Link) → BeginAtTransit (v ++ w) → BeginAtTransit v × BeginAtTransit w
  begin_in_parts [] w all = (tt, all)
  begin_in_parts (l ∷ v) w all = let parts = begin_in_parts v w all.1 in ((all.0, parts.0), parts.1)

  -- if all links begin at routers with transit, they pass only through routers with transit
  pass_after : (w : List Link) → BeginAtTransit w → PassTransit w
  pass_after [] all = tt
  pass_after (l ∷ w) all = all.1

  -- if links pass only through routers with transit, and the first link begins at such a router,
  -- each of the links begins at such a router
  begin_from : (a : ℕ) (w : List Link) → AreJoined a w → HasTransit d a → PassTransit w → BeginAtTransit w
  begin_from a [] joined here passed = tt
  begin_from a (l ∷ w) joined here passed = (subst (HasTransit d) (sym joined.0) here, passed)

  -- If two walks pass only through routers with transit, so does the first walk followed by the
  -- second. The router between them must have transit too, unless the first walk has no links.
  pub pass_both : (a : ℕ) (v w : List Link) → AreJoined a w → (HasTransit d a ⊎ (v ≡ [])) → PassTransit v → PassTransit w → PassTransit (v ++ w)
  pass_both a [] w joined joint first second = second
  pass_both a (l ∷ v) w joined (inl transit) first second = begin_both v w first (begin_from a w joined transit second)
  pass_both a (l ∷ v) w joined (inr none) first second = absurd (cc)

  -- if a walk followed by another passes only through routers with transit, so does each of the two
  -- walks
  pub pass_in_parts : (v w : List Link) → PassTransit (v ++ w) → PassTransit v × PassTransit w
  pass_in_parts [] w all = (tt, all)
  pass_in_parts (l ∷ v) w all = let parts = begin_in_parts v w all in (parts.0, pass_after w parts.1)

module _ (d : Database) (q : Request) where
  -- If one more leg is appended to the first legs of a request, they are all legs of the request.
  pub one_more_leg : (first a : ℕ) (legs : List (List Link)) (leg : List Link) → AreLegs d q first a legs
      → IsLeg d q (first + length legs) (end_of a (flat_map (λ links. links) legs)) leg → AreLegs d q first a (legs ++ (leg ∷ []))
  one_more_leg first a [] leg are is = (let here : first + 0 ≡ first = omega arith in subst (λ k. IsLeg d q k a leg) here is, tt)
  one_more_leg first a (links ∷ legs) leg are is = (
    are.0,
    one_more_leg (suc first) (end_of a links) legs leg are.1
        (let count : first + length (links ∷ legs) ≡ suc first + length legs = omega arith in
        let end = end_of_both a links (flat_map (λ links. links) legs) in
        subst (λ k. IsLeg d q k (end_of (end_of a links) (flat_map (λ links. links) legs)) leg) count
        (subst (λ r. IsLeg d q (first + length (links ∷ legs)) r leg) end is)),
  )

-- the links of some legs and one more leg are the links of the first legs, followed by those of the
-- last leg
pub links_and_leg : (legs : List (List Link)) (leg : List Link) → flat_map (λ links. links) (legs ++ (leg ∷ [])) ≡ flat_map (λ links. links) legs ++ leg
links_and_leg legs leg =
    flat_map-append (λ (links : List Link). links) legs (leg ∷ []) ∙ ap (λ last. flat_map (λ links. links) legs ++ last) (append-nil leg)
