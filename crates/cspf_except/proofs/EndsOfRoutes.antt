-- A request whose head-end or tail-end is no router of the database has no route.
use Rattle.std.proofs.Common.{◌≡◌, ℕ, List, [], ◌∷◌, inl, inr, refl, subst}
use Rattle.std.specs.List.{AllByRecursion}
use Rattle.cspf_model.specs.declared.link.Link.{Link}
use Rattle.cspf_model.specs.declared.request.Request.{Request}
use Rattle.cspf_model.specs.Database.{Database, IsRouterOf}
use Rattle.cspf_model.specs.Admissible.{IsAdmissible}
use Rattle.cspf_model.specs.Walks.{end_of}
use Rattle.cspf_model.specs.Routes.{IsRoute}
use Rattle.cspf_search.specs.States.{end_state}
use Rattle.cspf_search.proofs.Cuts.{reached_walk, route_reaches}

module _ (d : Database) (q : Request) where
  arrives : (walk : List Link) → IsRoute d q walk → end_of q.from walk ≡ q.to
  arrives walk route = (reached_walk d q walk (end_state q) (route_reaches d q walk route)).1

  from_known : (walk : List Link) → IsRoute d q walk → IsRouterOf d q.from
  from_known [] route = absurd (q.two_ends (arrives [] route))
  from_known (l ∷ walk) route = (l, route.is_walk.links.0.link, inl route.is_walk.joined.0)

  last_known : (router : ℕ) (walk : List Link) → AllByRecursion (IsAdmissible d q) walk → IsRouterOf d router → IsRouterOf d (end_of router walk)
  last_known router [] all known = known
  last_known router (l ∷ walk) all known = last_known l.to walk all.1 (l, all.0.link, inr refl)

  -- without the head-end there is no route
  pub no_route_from : ¬ IsRouterOf d q.from → (walk : List Link) → ¬ IsRoute d q walk
  no_route_from unknown walk route = unknown (from_known walk route)

  -- without the tail-end there is no route
  pub no_route_to : ¬ IsRouterOf d q.to → (walk : List Link) → ¬ IsRoute d q walk
  no_route_to unknown walk route =
      unknown (subst (IsRouterOf d) (arrives walk route) (last_known q.from walk route.is_walk.links (from_known walk route)))
