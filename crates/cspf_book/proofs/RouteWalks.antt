-- A route can be followed link by link exactly if the database admits it.
use Rattle.std.proofs.Common.{◌≡◌, ◌≢◌, ◌↔◌, ℕ, ◌+◌, ◌<◌, ◌≤◌, inl, inr, Some, List, [], ◌∷◌, length, map, drop, get_or, refl, sym, ap, subst, ◌∙◌, arith}
use mathlib.Core.HLevel.{¬_prop}
use native.Mathlib.Bridge.{le_prop}
use Rattle.std.specs.List.{AllByRecursion}
use Rattle.std.proofs.lemmas.List.{at_drop_more, drop_all}
use Rattle.cspf_model.specs.declared.link.Link.{Link}
use Rattle.cspf_book.specs.declared.path.Passed.{Passed}
use Rattle.cspf_model.specs.declared.request.Request.{Request}
use Rattle.cspf_model.specs.Database.{Database, key_of, link_at, HasReverse, HasTransit}
use Rattle.cspf_model.specs.Admissible.{IsAdmitted, IsAdmissible, MayLeave}
use Rattle.cspf_model.specs.Walks.{AreJoined, IsWalk}
use Rattle.cspf_book.specs.declared.placement.Placement.{Placement}
use Rattle.cspf_book.specs.Placements.{passed_of, key_passed}
use Rattle.cspf_book.specs.LostRoutes.{without_bandwidth, AdmitsRoute}
use Rattle.cspf_book.specs.Following.{HasItsLink, MayGoOn}

-- Requests with the same attributes are equal.
pub same_request : (q : Request) (priority : q.setup < 8) (two_ends : q.from ≢ q.to)
    → record q { bandwidth = 0; priority = priority; two_ends = two_ends } ≡ without_bandwidth q
same_request q priority two_ends =
    λ i. record q { bandwidth = 0; priority = le_prop priority q.priority i; two_ends = ¬_prop two_ends q.two_ends i }

-- A walk has reached `router` over `links` links. It may continue along all links of the list, one
-- after the other.
abbrev pub IsFollowed : Database → Request → ℕ → ℕ → List Passed → Type 0
IsFollowed d q links router [] = Unit {0}
IsFollowed d q links router (l ∷ ls) = MayGoOn d q links router l × IsFollowed d q (links + 1) l.to ls

-- There is a walk from `router` along the links of `route`, and each of its links runs from a
-- router that carries transit.
record HasWalkOn (d : Database) (q : Request) (router : ℕ) (route : List Passed) : Type 0 where
  walk : List Link
  links : AllByRecursion (IsAdmissible d q) walk
  joined : AreJoined router walk
  transit : AllByRecursion (HasTransit d) (map (λ m. m.from) walk)
  along : map passed_of walk ≡ route

-- If a walk may leave a router after at least one link, this router carries transit.
left_later : (d : Database) (router links : ℕ) → 0 < links → MayLeave d router links → HasTransit d router
left_later d router links some (inl transit) = transit
left_later d router links some (inr none) = absurd (omega arith)

-- Links with the same key run from the same router.
from_same : (a : Link) (b : Passed) → passed_of a ≡ b → a.from ≡ b.from
from_same a b e = ap (λ (x : Passed). x.from) e

to_same : (a : Link) (b : Passed) → passed_of a ≡ b → a.to ≡ b.to
to_same a b e = ap (λ (x : Passed). x.to) e

-- Let a walk's first link be the first link of a path. If the walk's later links have the rest of the
-- path, the walk has the whole path.
both_ends : (a : Link) (b : Passed) (more : List Link) (rest : List Passed) → passed_of a ≡ b → map passed_of more ≡ rest
    → map passed_of (a ∷ more) ≡ b ∷ rest
both_ends a b more rest first later = λ i. first i ∷ later i

-- Let a walk have at least one link. If it can follow the links of a route from `router` on, there
-- is a walk from `router` along these links (`HasWalkOn`).
walk_later : (d : Database) (q : Request) (links router : ℕ) (route : List Passed) → 0 < links → IsFollowed d q links router route
    → HasWalkOn d q router route
walk_later d q links router [] some followed =
    record { walk = []; links = tt; joined = tt; transit = tt; along = refl }
walk_later d q links router (l ∷ ls) some (go, rest) =
    let found : Link = go.there.found in
    let later = walk_later d q (links + 1) l.to ls (omega arith) rest in
    let at : found.from ≡ router = from_same found l go.there.alike ∙ go.from in record {
      walk = found ∷ later.walk;
      links = (go.there.admissible, later.links);
      joined = (at, subst (λ r. AreJoined r later.walk) (sym (to_same found l go.there.alike)) later.joined);
      transit = (subst (HasTransit d) (sym at) (left_later d router links some go.leaves), later.transit);
      along = both_ends found l later.walk ls go.there.alike later.along;
    }

-- Let a walk run along the links of a route, and let each of its links run from a router that
-- carries transit. Then the route can be followed link by link (`IsFollowed`).
followed_later : (d : Database) (q : Request) (links router : ℕ) (walk : List Link) (route : List Passed) → AllByRecursion (IsAdmissible d q) walk
    → AreJoined router walk → AllByRecursion (HasTransit d) (map (λ m. m.from) walk)
    → map passed_of walk ≡ route → IsFollowed d q links router route
followed_later d q links router [] [] all joined transit along = tt
followed_later d q links router [] (l ∷ ls) all joined transit along = absurd (cc)
followed_later d q links router (w ∷ ws) [] all joined transit along = absurd (cc)
followed_later d q links router (w ∷ ws) (l ∷ ls) all joined transit along =
    let alike : passed_of w ≡ l = cc in
    let rest : map passed_of ws ≡ ls = cc in (
      record {
        from = sym (from_same w l alike) ∙ joined.0;
        leaves = inl (subst (HasTransit d) joined.0 transit.0);
        there = record { found = w; admissible = all.0; alike = alike };
      },
      followed_later d q (links + 1) l.to ws ls all.1 (subst (λ r. AreJoined r ws) (to_same w l alike) joined.1) transit.1 rest,
    )

-- If the links of a route can be followed from the head-end, there is a walk along these links.
walk_from : (d : Database) (q : Request) (route : List Passed) → IsFollowed d q 0 q.from route
    → (walk : List Link) × IsWalk d q walk × (map passed_of walk ≡ route)
walk_from d q [] followed = ([], record { links = tt; joined = tt; transit = tt }, refl)
walk_from d q (l ∷ ls) (go, rest) =
    let found : Link = go.there.found in
    let later = walk_later d q 1 l.to ls (omega arith) rest in (
      found ∷ later.walk,
      record {
        links = (go.there.admissible, later.links);
        joined = (from_same found l go.there.alike ∙ go.from, subst (λ r. AreJoined r later.walk) (sym (to_same found l go.there.alike)) later.joined);
        transit = later.transit;
      },
      both_ends found l later.walk ls go.there.alike later.along,
    )

-- If there is a walk along the links of a route, the route can be followed from the head-end.
followed_from : (d : Database) (q : Request) (walk : List Link) (route : List Passed) → IsWalk d q walk
    → map passed_of walk ≡ route → IsFollowed d q 0 q.from route
followed_from d q [] [] is_walk along = tt
followed_from d q [] (l ∷ ls) is_walk along = absurd (cc)
followed_from d q (w ∷ ws) [] is_walk along = absurd (cc)
followed_from d q (w ∷ ws) (l ∷ ls) is_walk along =
    let alike : passed_of w ≡ l = cc in
    let rest : map passed_of ws ≡ ls = cc in (
      record {
        from = sym (from_same w l alike) ∙ is_walk.joined.0;
        leaves = inr refl;
        there = record { found = w; admissible = is_walk.links.0; alike = alike };
      },
      followed_later d q 1 l.to ws ls is_walk.links.1 (subst (λ r. AreJoined r ws) (to_same w l alike) is_walk.joined.1) is_walk.transit rest,
    )

-- The database admits a placement's route exactly if the route can be followed link by link for the
-- placement's request with bandwidth 0.
pub admits_followed : (d : Database) (p : Placement)
    → IsFollowed d (without_bandwidth p.request) 0 p.request.from p.route ↔ AdmitsRoute d p
admits_followed d p = (
  λ followed. let found = walk_from d (without_bandwidth p.request) p.route followed in record { walk = found.0; is_walk = found.1; along = found.2 },
  λ admits. followed_from d (without_bandwidth p.request) admits.walk p.route admits.is_walk admits.along,
)

-- Let the database have an admitted link at the key of `l`, which runs to the same router as `l`.
-- Then `HasItsLink` holds exactly if the database also has the reverse of this link.
pub its_link : (d : Database) (q : Request) (l : Passed) (found : Link) → Some found ≡ link_at d (key_passed l) → key_of found ≡ key_passed l
    → found.to ≡ l.to → IsAdmitted q found → HasReverse d found ↔ HasItsLink d q l
its_link d q l found is keyed to admitted = (
  λ reverse. record {
    found = found;
    admissible = record { link = ap (link_at d) keyed ∙ sym is; usable = record { admitted = admitted; reverse = reverse } };
    alike = λ i. record { from = (keyed i).0; local = (keyed i).1; to = to i };
  },
  λ its.
      let key : key_of its.found ≡ key_passed l = ap key_passed its.alike in
      let same : Some found ≡ Some its.found = is ∙ ap (link_at d) (sym key) ∙ its.admissible.link in
      let one : found ≡ its.found = cc in
      subst (HasReverse d) (sym one) its.admissible.usable.reverse,
)

-- In this module, `l` is the link at index i of the route. A walk along the first i links has
-- reached `router`.
module _ (d : Database) (q : Request) (route items : List Passed) (i router : ℕ) (l : Passed) (whole : items ≡ route) (within : i < length items)
    (is : l ≡ get_or items i l) where
  first_of : IsFollowed d q i router (drop i route) ≡ IsFollowed d q i router (l ∷ drop (i + 1) route)
  first_of =
      ap (λ ls. IsFollowed d q i router (drop i ls)) (sym whole)
      ∙ ap (IsFollowed d q i router) (at_drop_more (λ ls. ls) items i l within ∙ ap (λ (m : Passed). m ∷ drop (i + 1) items) (sym is))
      ∙ ap (λ ls. IsFollowed d q i router (l ∷ drop (i + 1) ls)) whole

  pub goes_on : IsFollowed d q i router (drop i route) → MayGoOn d q i router l
  goes_on followed = (coe 0 1 (k. first_of k) followed).0

  pub followed_on : IsFollowed d q i router (drop i route) → IsFollowed d q (i + 1) l.to (drop (i + 1) route)
  followed_on followed = (coe 0 1 (k. first_of k) followed).1

  pub followed_more : (all : Type 0) → MayGoOn d q i router l → IsFollowed d q i router (drop i route) ↔ all
      → IsFollowed d q (i + 1) l.to (drop (i + 1) route) ↔ all
  followed_more all go so_far = (
    λ rest. so_far.0 (coe 1 0 (k. first_of k) (go, rest)),
    λ every. (coe 0 1 (k. first_of k) (so_far.1 every)).1,
  )

-- Past the last link of the route, no link is left to follow.
pub followed_all : (d : Database) (q : Request) (route items : List Passed) (i router : ℕ) → items ≡ route → length items ≤ i
    → IsFollowed d q i router (drop i route)
followed_all d q route items i router whole behind =
    let none : drop i route ≡ [] = ap (drop i) (sym whole) ∙ drop_all i items behind in
    subst (IsFollowed d q i router) (sym none) tt
