-- Laws of small networks: on reverses of links, routers without transit, unknown ends, and routers
-- at which no link begins.
use Rattle.std.specs.Prelude.{◌≡◌, ℕ, ◌↔◌, true, false, List, [], ◌∷◌, ◌++◌, length, map, refl}
use Rattle.cspf_model.specs.declared.link.Link.{Link}
use Rattle.cspf_model.specs.declared.request.Request.{Request}
use Rattle.cspf_model.specs.declared.batch.Change.TheVariants.{Put, Node}
use Rattle.cspf_model.specs.Numbered.{NumberedChanges}
use Rattle.cspf_model.specs.Database.{Database, IsMarked, HasTransit}
use Rattle.cspf_model.specs.Changes.{after_change, database_after}
use Rattle.cspf_model.specs.Admissible.{IsAdmitted, IsUsable, IsAdmissible, MayLeave}
use Rattle.cspf_model.specs.Walks.{IsWalk, end_of}
use Rattle.cspf_model.specs.Best.{Answer, IsBestAnswer}
use Rattle.cspf_model.specs.Fields.{HasRequestFields}
use Rattle.cspf_model.specs.Examples.{router, link_by, back, asked_fields, from_1_to_2, from_1_to_3, from_2_to_3}

-- The batch that puts these links and marks these routers as without transit.
abbrev pub network_batch : List Link → List ℕ → NumberedChanges
network_batch links marks = record {
  number = 1;
  changes = map (λ l. Put l) links ++ map (λ r. Node r false) marks;
}

-- The database with these links, in which these routers are marked as without transit.
abbrev pub network : List Link → List ℕ → Database
network links marks = database_after (network_batch links marks ∷ [])

-- The reverse of the link from 1.1.1.1, interface 10.0.12.1, to 2.2.2.2, interface 10.0.12.2.
abbrev pub from_2_to_1 : Link
from_2_to_1 = link_by (router 2) (router 1) 10 12 2 1 refl

-- A link from 2.2.2.2 that isn't the reverse of `from_1_to_2`, because its remote address is
-- 10.0.12.9 in place of 10.0.12.1.
abbrev pub back_to_other_address : Link
back_to_other_address = link_by (router 2) (router 1) 10 12 2 9 refl

-- A link from 2.2.2.2 that isn't the reverse of `from_1_to_2`, because its local address is
-- 10.0.12.9 in place of 10.0.12.2.
abbrev pub back_from_other_address : Link
back_from_other_address = link_by (router 2) (router 1) 10 12 9 1 refl

-- A link from 2.2.2.2 that isn't the reverse of `from_1_to_2`, because it ends at 3.3.3.3 in place
-- of 1.1.1.1.
abbrev pub back_to_other_router : Link
back_to_other_router = link_by (router 2) (router 3) 10 12 2 1 refl

-- A link to 1.1.1.1 that isn't the reverse of `from_1_to_2`, because it begins at 3.3.3.3 in place
-- of 2.2.2.2.
abbrev pub back_from_other_router : Link
back_from_other_router = link_by (router 3) (router 1) 10 12 2 1 refl

-- In a network of these links the link from 1.1.1.1 to 2.2.2.2 isn't usable for any request.
abbrev pub IsUnusableAmong : List Link → Type 0
IsUnusableAmong links = (q : Request) → ¬ IsUsable (network links []) q from_1_to_2

-- In a network of these links the link from 1.1.1.1 to 2.2.2.2 is usable for each request that
-- admits it.
abbrev pub IsUsableAmong : List Link → Type 0
IsUsableAmong links =
    (q : Request) → IsAdmitted q from_1_to_2 → IsUsable (network links []) q from_1_to_2

-- Some request admits the link.
abbrev pub MayBeAdmitted : Link → Type 0
MayBeAdmitted l = (q : Request) × IsAdmitted q l

-- The links in both directions between each two of the routers 1.1.1.1, 2.2.2.2 and 3.3.3.3.
abbrev pub triangle : List Link
triangle =
    from_1_to_2 ∷ from_2_to_1 ∷ from_2_to_3 ∷ back from_2_to_3 ∷ from_1_to_3 ∷ back from_1_to_3 ∷ []

-- The walk from 1.1.1.1 over 2.2.2.2 to 3.3.3.3.
abbrev pub way_by_2 : List Link
way_by_2 = from_1_to_2 ∷ from_2_to_3 ∷ []

-- The walk from 1.1.1.1 to 2.2.2.2 and back.
abbrev pub way_and_back : List Link
way_and_back = from_1_to_2 ∷ from_2_to_1 ∷ []

-- The walk from 1.1.1.1 to 2.2.2.2, back to 1.1.1.1, and on to 3.3.3.3.
abbrev pub way_by_1_again : List Link
way_by_1_again = from_1_to_2 ∷ from_2_to_1 ∷ from_1_to_3 ∷ []

-- `P` holds of the triangle in which these routers are marked as without transit, and of each
-- request from 1.1.1.1 to 3.3.3.3 without hops.
abbrev pub HoldsWithMarks : List ℕ → (Database → Request → Type 0) → Type 0
HoldsWithMarks marks P =
    (q : Request) → HasRequestFields q (asked_fields (router 3) []) → P (network triangle marks) q

-- In the triangle in which these routers are marked as without transit, the links are a walk.
abbrev pub IsWalkWithMarks : List ℕ → List Link → Type 0
IsWalkWithMarks marks walk = HoldsWithMarks marks (λ d q. IsWalk d q walk)

-- In the triangle in which these routers are marked as without transit, the links aren't a walk.
abbrev pub IsNoWalkWithMarks : List ℕ → List Link → Type 0
IsNoWalkWithMarks marks walk = HoldsWithMarks marks (λ d q. ¬ IsWalk d q walk)

-- There is a request from 1.1.1.1 to 3.3.3.3 without hops.
abbrev pub MayBeAsked : Type 0
MayBeAsked = (q : Request) × HasRequestFields q (asked_fields (router 3) [])

-- After a change that takes a router's transit away, the router is marked as without transit.
abbrev pub IsMarkedByChange : Type 0
IsMarkedByChange = (d : Database) (r : ℕ) → IsMarked (after_change d (Node r false)) r

-- After a change that gives a router transit, the router isn't marked as without transit.
abbrev pub IsUnmarkedByChange : Type 0
IsUnmarkedByChange = (d : Database) (r : ℕ) → HasTransit (after_change d (Node r true)) r

-- The link may continue the walk. The link is admissible, and begins at the router where the walk
-- ends. The walk may leave this router.
pub record MayComeNext (d : Database) (q : Request) (walk : List Link) (l : Link) : Type 0 where
  pub admissible : IsAdmissible d q l
  pub joined : l.from ≡ end_of q.from walk
  pub leaves : MayLeave d l.from (length walk)

-- If a link is appended to a walk, the result is a walk exactly if `MayComeNext` holds of the walk
-- and the link.
abbrev pub WalksGrowByOneLink : Type 0
WalksGrowByOneLink =
    (d : Database) (q : Request) (walk : List Link) (l : Link)
    → IsWalk d q walk → IsWalk d q (walk ++ l ∷ []) ↔ MayComeNext d q walk l

-- The network has the link from 1.1.1.1 to 2.2.2.2 and its reverse, and no other links. In this
-- network, `answer` is the only best answer to each request from `from` to `to`.
abbrev pub IsAnswerBetween : ℕ → ℕ → Answer → Type 0
IsAnswerBetween from to answer =
    (q : Request) → q.from ≡ from → q.to ≡ to → (other : Answer)
    → IsBestAnswer (network (from_1_to_2 ∷ from_2_to_1 ∷ []) []) q other ↔ (other ≡ answer)
