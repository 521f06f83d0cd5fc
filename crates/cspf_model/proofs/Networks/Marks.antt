-- Which lists of links are walks in the triangle. This depends on which routers are marked as
-- without transit.
use Rattle.std.proofs.Common.{◌≡◌, ◌≢◌, ℕ, ◌<◌, false, List, [], ◌∷◌, refl, sym, ap, ◌∙◌, lit<, ◌||◌, ◌&&◌, not, rules}
use mathlib.Core.Bool.{true≢false}
use Rattle.std.proofs.lemmas.Bool.{eqb-false}
use Rattle.std.specs.Ordering.{is_eq}
use Rattle.std.specs.Cmp.{nat_cmp_total, tied_itself}
use Rattle.std.specs.FinSet as set
use Rattle.cspf_model.specs.declared.link.Link.{Link}
use Rattle.cspf_model.specs.declared.request.Request.{Request}
use Rattle.cspf_model.specs.Database.{Database, HasTransit, IsLinkOf, IsReverse}
use Rattle.cspf_model.specs.Admissible.{IsAdmitted, IsAdmissible}
use Rattle.cspf_model.specs.Walks.{IsWalk}
use Rattle.cspf_model.specs.Examples.{router, back, asked_fields, from_1_to_2, from_1_to_3, from_2_to_3}
use Rattle.cspf_model.specs.NetworkLaws.{network, triangle, from_2_to_1, way_by_2, way_and_back, way_by_1_again, IsWalkWithMarks, IsNoWalkWithMarks, MayBeAsked, IsMarkedByChange, IsUnmarkedByChange}
use Rattle.cspf_model.proofs.Routes.FieldRecords.{requests_said}
use Rattle.cspf_model.proofs.Routes.ExampleRoutes.{made, for_each, admitted}
use Rattle.cspf_model.proofs.Networks.NetworkLinks.{link_at-network, marks-network}

-- There is a request from 1.1.1.1 to 3.3.3.3 without hops.
pub may_be_asked : MayBeAsked
may_be_asked =
    let q : Request = made (asked_fields (router 3) []) (lit< tt) (eqb-false (router 1) (router 3) refl) in
    (q, (requests_said q (asked_fields (router 3) [])).1 refl)

-- A router that isn't marked as without transit has transit.
has_transit : (marks : List ℕ) (r : ℕ) → set.contains (network triangle marks).marks r ≡ false → HasTransit (network triangle marks) r
has_transit marks r off on = true≢false (sym on ∙ off)

module _ (marks : List ℕ) (priority : 0 < 8) (two_ends : router 1 ≢ router 3) where
  -- The database of the triangle in which the routers in `marks` are marked as without transit. `q`
  -- below is the request from 1.1.1.1 to 3.3.3.3.
  abbrev d : Database
  d = network triangle marks

  abbrev q : Request
  q = made (asked_fields (router 3) []) priority two_ends

  -- A link is admissible if the request admits it, and the database has the link and its reverse.
  way : (l r : Link) → IsAdmitted q l → IsLinkOf d l → IsLinkOf d r → IsReverse l r → IsAdmissible d q l
  way l r admits here back same = record { link = here; usable = record { admitted = admits; reverse = (r, back, same) } }

  -- The next four lemmas: four links of the triangle are admissible for the request `q`.
  way_1_to_2 : IsAdmissible d q from_1_to_2
  way_1_to_2 = way from_1_to_2 from_2_to_1 (admitted (router 3) [] priority two_ends _ _ _ _ _ _)
      (link_at-network triangle marks (router 1, from_1_to_2.local)) (link_at-network triangle marks (router 2, from_2_to_1.local)) (record { from = refl; local = refl; to = refl; remote = refl })

  way_2_to_1 : IsAdmissible d q from_2_to_1
  way_2_to_1 = way from_2_to_1 from_1_to_2 (admitted (router 3) [] priority two_ends _ _ _ _ _ _)
      (link_at-network triangle marks (router 2, from_2_to_1.local)) (link_at-network triangle marks (router 1, from_1_to_2.local)) (record { from = refl; local = refl; to = refl; remote = refl })

  way_2_to_3 : IsAdmissible d q from_2_to_3
  way_2_to_3 = way from_2_to_3 (back from_2_to_3) (admitted (router 3) [] priority two_ends _ _ _ _ _ _)
      (link_at-network triangle marks (router 2, from_2_to_3.local)) (link_at-network triangle marks (router 3, from_2_to_3.remote)) (record { from = refl; local = refl; to = refl; remote = refl })

  way_1_to_3 : IsAdmissible d q from_1_to_3
  way_1_to_3 = way from_1_to_3 (back from_1_to_3) (admitted (router 3) [] priority two_ends _ _ _ _ _ _)
      (link_at-network triangle marks (router 1, from_1_to_3.local)) (link_at-network triangle marks (router 3, from_1_to_3.remote)) (record { from = refl; local = refl; to = refl; remote = refl })

  -- The next three lemmas: three lists of links are walks of the request `q` if the routers that
  -- they pass through have transit.
  by_2 : HasTransit d (router 2) → IsWalk d q way_by_2
  by_2 passed = search (rules, way_1_to_2, way_2_to_3)

  and_back : HasTransit d (router 2) → IsWalk d q way_and_back
  and_back passed = search (rules, way_1_to_2, way_2_to_1)

  by_1_again : HasTransit d (router 2) → HasTransit d (router 1) → IsWalk d q way_by_1_again
  by_1_again passed again = search (rules, way_1_to_2, way_1_to_3, way_2_to_1)

-- The routers in `marks` are marked as without transit, and the requests lead from 1.1.1.1 to
-- 3.3.3.3 without hops. If the links are a walk of each such request that `made` builds, they are a
-- walk of every such request.
walks : (marks : List ℕ) (walk : List Link) → ((priority : 0 < 8) (two_ends : router 1 ≢ router 3) → IsWalk (network triangle marks) (made (asked_fields (router 3) []) priority two_ends) walk)
    → IsWalkWithMarks marks walk
walks marks walk each q says = for_each (asked_fields (router 3) []) (λ q. IsWalk (network triangle marks) q walk) each q says

-- In each of the next five lemmas the links are a walk, because no router that they pass through is
-- marked as without transit. A marked router may be the first or the last router of a walk.
pub unmarked : IsWalkWithMarks [] way_by_2
unmarked = walks [] way_by_2 (λ p e. by_2 [] p e (has_transit [] (router 2) (marks-network triangle [] (router 2))))

pub head_end : IsWalkWithMarks (router 1 ∷ []) way_by_2
head_end = walks (router 1 ∷ []) way_by_2 (λ p e. by_2 (router 1 ∷ []) p e (has_transit (router 1 ∷ []) (router 2) (marks-network triangle (router 1 ∷ []) (router 2))))

pub tail_end : IsWalkWithMarks (router 3 ∷ []) way_by_2
tail_end = walks (router 3 ∷ []) way_by_2 (λ p e. by_2 (router 3 ∷ []) p e (has_transit (router 3 ∷ []) (router 2) (marks-network triangle (router 3 ∷ []) (router 2))))

pub to_head_end : IsWalkWithMarks (router 1 ∷ []) way_and_back
to_head_end = walks (router 1 ∷ []) way_and_back (λ p e. and_back (router 1 ∷ []) p e (has_transit (router 1 ∷ []) (router 2) (marks-network triangle (router 1 ∷ []) (router 2))))

pub again_unmarked : IsWalkWithMarks [] way_by_1_again
again_unmarked =
    walks [] way_by_1_again (λ p e. by_1_again [] p e (has_transit [] (router 2) (marks-network triangle [] (router 2))) (has_transit [] (router 1) (marks-network triangle [] (router 1))))

-- If 2.2.2.2 is marked as without transit, the links from 1.1.1.1 over 2.2.2.2 to 3.3.3.3 aren't a
-- walk.
pub middle : IsNoWalkWithMarks (router 2 ∷ []) way_by_2
middle q says walk = walk.transit.0 (marks-network triangle (router 2 ∷ []) (router 2))

-- If 1.1.1.1 is marked as without transit, the links from 1.1.1.1 to 2.2.2.2, back to 1.1.1.1, and
-- on to 3.3.3.3 aren't a walk.
pub again : IsNoWalkWithMarks (router 1 ∷ []) way_by_1_again
again q says walk = walk.transit.1.0 (marks-network triangle (router 1 ∷ []) (router 1))

-- After a change that takes a router's transit away, the router is marked as without transit.
pub marked : IsMarkedByChange
marked d r = set.contains-insert nat_cmp_total d.marks r r ∙ ap (λ o. is_eq o || set.contains d.marks r) (tied_itself nat_cmp_total r)

-- After a change that gives a router transit, the router isn't marked as without transit.
pub mark_taken : IsUnmarkedByChange
mark_taken d r on =
    true≢false (sym on ∙ set.contains-remove nat_cmp_total d.marks r r ∙ ap (λ o. not (is_eq o) && set.contains d.marks r) (tied_itself nat_cmp_total r))
