-- Without hops, the routes are exactly the walks that end at the tail-end.
use Rattle.std.proofs.Common.{◌≡◌, ℕ, None, List, [], ◌∷◌, length, slice_get, sym, ap, subst, ◌∙◌, inl, append-nil, arith}
use Rattle.std.specs.List.{AllByRecursion}
use Rattle.cspf_model.specs.declared.link.Link.{Link}
use Rattle.cspf_model.specs.declared.request.Request.{Request}
use Rattle.cspf_model.specs.Database.{Database}
use Rattle.cspf_model.specs.Walks.{end_of, routers_of}
use Rattle.cspf_model.specs.Targets.{IsTargetOf, IsLoose, IsInside}
use Rattle.cspf_model.specs.Legs.{IsCutInto}
use Rattle.cspf_model.specs.HopLaws.{AreRoutesWithoutHops}

-- If a request has no hops, `slice_get` gives `None` for its first hop.
no_first_hop : (q : Request) → q.hops ≡ [] → slice_get q.hops 0 ≡ None
no_first_hop q none = ap (λ hops. slice_get hops 0) none

-- If a request has no hops and a walk can be cut into legs, the walk ends at the tail-end.
only_leg_arrives : (d : Database) (q : Request) (walk : List Link) → q.hops ≡ []
    → (legs : List (List Link)) → IsCutInto d q walk legs → end_of q.from walk ≡ q.to
only_leg_arrives d q walk none [] cut = absurd (omega (arith, cut.number))
only_leg_arrives d q walk none (leg ∷ []) cut =
    let whole : leg ≡ walk = sym (append-nil leg) ∙ cut.whole in
    let arrives = subst (λ hop. IsTargetOf d q.to hop (end_of q.from leg)) (no_first_hop q none) cut.each.0.arrives in
    ap (end_of q.from) (sym whole) ∙ arrives
only_leg_arrives d q walk none (leg ∷ next ∷ legs) cut =
    absurd (omega (arith, cut.number, ap length none))

-- If a request has no hops, the only leg of a walk may visit any router.
stays_inside : (d : Database) (q : Request) → q.hops ≡ [] → (routers : List ℕ)
    → AllByRecursion (IsInside d q 1) routers
stays_inside d q none [] = tt
stays_inside d q none (router ∷ routers) =
    (inl (subst IsLoose (sym (no_first_hop q none)) tt), stays_inside d q none routers)

-- If a request has no hops, a walk that ends at the tail-end is cut into one leg, which is the
-- whole walk.
one_leg : (d : Database) (q : Request) (walk : List Link) → q.hops ≡ [] → end_of q.from walk ≡ q.to
    → IsCutInto d q walk (walk ∷ [])
one_leg d q walk none arrives = record {
  number = omega (arith, ap length none);
  whole = append-nil walk;
  each = (
    record {
      arrives =
          subst (λ hop. IsTargetOf d q.to hop (end_of q.from walk)) (sym (no_first_hop q none)) arrives;
      within = stays_inside d q none (routers_of q.from walk);
    },
    tt,
  );
}

-- Without hops, the routes are exactly the walks that end at the tail-end.
pub routes_without_hops : AreRoutesWithoutHops
routes_without_hops d q walk none = (
  (λ route. record { is_walk = route.is_walk; arrives = only_leg_arrives d q walk none route.cut.0 route.cut.1 }),
  λ to_end. record { is_walk = to_end.is_walk; cut = (walk ∷ [], one_leg d q walk none to_end.arrives) },
)
