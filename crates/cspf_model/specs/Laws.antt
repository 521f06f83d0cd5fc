-- Laws of databases, batches and routes.
use Rattle.std.specs.Prelude.{◌≡◌, ℕ, ◌≤◌, ◌↔◌, Some, None, IsTrue, List, [], ◌∷◌, ◌++◌, length, nat_eq, slice_index}
use Rattle.std.specs.List.{IsDistinct, AllByRecursion}
use Rattle.std.specs.declared.cmp.Ordering.TheVariants.{Less, Equal}
use Rattle.std.specs.FinSet as set
use Rattle.cspf_model.specs.declared.link.Link.{Link}
use Rattle.cspf_model.specs.declared.request.Request.{Request}
use Rattle.cspf_model.specs.declared.batch.Change.TheVariants.{Put, Remove}
use Rattle.cspf_model.specs.declared.refusal.Refusal.{Refusal}
use Rattle.cspf_model.specs.Numbered.{NumberedChanges}
use Rattle.cspf_model.specs.Database.{Database, key_of, AreAtTheirKeys, IsRouterOf, all_routers, router_count}
use Rattle.cspf_model.specs.Changes.{link_key, after_changes, last_on, link_after, database_after, IsDatabaseOf, Fits, AreLawful}
use Rattle.cspf_model.specs.Refusals.{IsRefusal}
use Rattle.cspf_model.specs.Admissible.{IsAdmitted}
use Rattle.cspf_model.specs.Walks.{IsWalk, cost_of, locals_of, walk_cmp}
use Rattle.cspf_model.specs.Routes.{IsRoute}
use Rattle.cspf_model.specs.Best.{Answer, IsBestAnswer}
use Rattle.cspf_model.specs.Examples.{address}

-- Two walks of one request are equal if their links have the same local addresses in the same
-- order.
abbrev pub WalksAreTold : Type 0
WalksAreTold =
    (d : Database) (q : Request) (v w : List Link)
    → IsWalk d q v → IsWalk d q w → locals_of v ≡ locals_of w → v ≡ w

-- Two routes of the same request that compare as equal are equal.
abbrev pub RoutesAreRanked : Type 0
RoutesAreRanked =
    (d : Database) (q : Request) (v w : List Link)
    → IsRoute d q v → IsRoute d q w → walk_cmp v w ≡ Equal → v ≡ w

-- A request has at most one best answer.
abbrev pub OneBestAnswer : Type 0
OneBestAnswer =
    (d : Database) (q : Request) (a b : Answer) → IsBestAnswer d q a → IsBestAnswer d q b → a ≡ b

-- After a list of batches, the last change with a key decides which link the database has at this
-- key, or that it has none. The last change of a router's transit decides whether the router is
-- marked as without transit.
abbrev pub LastChangeDecides : Type 0
LastChangeDecides = (batches : List NumberedChanges) → IsDatabaseOf (database_after batches) batches

-- A list of batches makes at most one database.
abbrev pub OneDatabase : Type 0
OneDatabase =
    (batches : List NumberedChanges) (d e : Database)
    → IsDatabaseOf d batches → IsDatabaseOf e batches → d ≡ e

-- If a batch is appended to a list of batches, the batch's changes act in order on the database
-- that the list makes.
abbrev pub OneMoreBatch : Type 0
OneMoreBatch =
    (batches : List NumberedChanges) (b : NumberedChanges)
    → database_after (batches ++ b ∷ []) ≡ after_changes (database_after batches) b.changes

-- A list of batches is lawful if each batch fits the database that the preceding batches make. If a
-- batch is appended to a list, the longer list is lawful exactly if the list is lawful and the
-- batch fits the database that the list makes.
abbrev pub LawfulByOneMore : Type 0
LawfulByOneMore =
    (batches : List NumberedChanges) (b : NumberedChanges)
    → AreLawful (batches ++ b ∷ []) ↔ (AreLawful batches × Fits (database_after batches) b)

-- Each prefix of a lawful list of batches is lawful.
abbrev pub FirstBatchesAreLawful : Type 0
FirstBatchesAreLawful =
    (batches more : List NumberedChanges) → AreLawful (batches ++ more) → AreLawful batches

-- If each link of a database is stored at the link's own key, `all_routers` is the set of the
-- database's routers.
abbrev pub RoutersAreCounted : Type 0
RoutersAreCounted =
    (d : Database) → AreAtTheirKeys d → (router : ℕ)
    → IsTrue (set.contains (all_routers d) router) ↔ IsRouterOf d router

-- In the database after any list of batches, each link is stored at the link's own key.
abbrev pub LinksAreAtTheirKeys : Type 0
LinksAreAtTheirKeys =
    (batches : List NumberedChanges) → AreAtTheirKeys (database_after batches)

-- The length of a list of different routers of a database is at most `router_count`.
abbrev pub NoRouterIsLeftOut : Type 0
NoRouterIsLeftOut =
    (d : Database) (routers : List ℕ) → IsDistinct nat_eq routers
    → AllByRecursion (IsRouterOf d) routers → length routers ≤ router_count d

-- A batch is refused for at most one reason.
abbrev pub OneRefusal : Type 0
OneRefusal =
    (d : Database) (b : NumberedChanges) (e f : Refusal) → IsRefusal d b e → IsRefusal d b f → e ≡ f

-- A batch that is refused doesn't fit the database.
abbrev pub RefusedIsUnfit : Type 0
RefusedIsUnfit = (d : Database) (b : NumberedChanges) (e : Refusal) → IsRefusal d b e → ¬ Fits d b

-- Two walks have one link each, and the same cost. The walk with the local address 10.0.0.9
-- precedes the walk with 10.0.0.10.
abbrev pub AddressesCompareAsNumbers : Type 0
AddressesCompareAsNumbers =
    (l m : Link) → l.metric ≡ m.metric → l.local ≡ 167772169 → m.local ≡ 167772170
    → walk_cmp (l ∷ []) (m ∷ []) ≡ Less

-- A walk of one link precedes a walk of two links with the same cost, whatever their addresses.
abbrev pub FewerLinksComeFirst : Type 0
FewerLinksComeFirst =
    (l m n : Link) → l.metric ≡ 20 → m.metric ≡ 10 → n.metric ≡ 10
    → walk_cmp (l ∷ []) (m ∷ n ∷ []) ≡ Less

-- A walk of two links precedes a walk of one link that costs more.
abbrev pub CheaperLinksComeFirst : Type 0
CheaperLinksComeFirst =
    (l m n : Link) → l.metric ≡ 1 → m.metric ≡ 1 → n.metric ≡ 3
    → walk_cmp (l ∷ m ∷ []) (n ∷ []) ≡ Less

-- Two walks of the same cost and number of links are ordered by their first local addresses that
-- differ, whatever the later addresses are. So the addresses 10.0.0.1, 10.0.0.9 precede the
-- addresses 10.0.0.2, 10.0.0.3.
abbrev pub FirstAddressDecides : Type 0
FirstAddressDecides =
    (l m n o : Link) → cost_of (l ∷ m ∷ []) ≡ cost_of (n ∷ o ∷ [])
    → l.local ≡ address 10 0 0 1 → m.local ≡ address 10 0 0 9
    → n.local ≡ address 10 0 0 2 → o.local ≡ address 10 0 0 3
    → walk_cmp (l ∷ m ∷ []) (n ∷ o ∷ []) ≡ Less

-- If two walks of the same cost and number of links have the same first local address, their next
-- local addresses decide the order.
abbrev pub NextAddressDecides : Type 0
NextAddressDecides =
    (l m n o : Link) → cost_of (l ∷ m ∷ []) ≡ cost_of (n ∷ o ∷ [])
    → l.local ≡ n.local → m.local ≡ address 10 0 0 2 → o.local ≡ address 10 0 0 3
    → walk_cmp (l ∷ m ∷ []) (n ∷ o ∷ []) ≡ Less

-- A link is put, removed, and put again with other attributes. The database then has the link that
-- was put last.
abbrev pub LastPutStands : Type 0
LastPutStands =
    (l m : Link) → key_of l ≡ key_of m
    → link_after (last_on (link_key (key_of l)) (Put l ∷ Remove l.from l.local ∷ Put m ∷ [])) None ≡ Some m

-- A link is put twice and then removed. The database then doesn't have the link.
abbrev pub LastRemovalStands : Type 0
LastRemovalStands =
    (l m : Link) → key_of l ≡ key_of m
    → link_after (last_on (link_key (key_of l)) (Put l ∷ Put m ∷ Remove l.from l.local ∷ [])) None ≡ None

-- The request has no affinities.
pub record AsksNoGroups (q : Request) : Type 0 where
  pub exclude_any : q.exclude_any ≡ 0
  pub include_any : q.include_any ≡ 0
  pub include_all : q.include_all ≡ 0

-- A link with exactly the bandwidth that the request asks for is admitted.
abbrev pub ExactBandwidthIsEnough : Type 0
ExactBandwidthIsEnough =
    (q : Request) (l : Link) → AsksNoGroups q
    → slice_index l.free q.setup ≡ 1000 → q.bandwidth ≡ 1000 → IsAdmitted q l

-- A link with 1 byte per second less than the request asks for isn't admitted.
abbrev pub LessBandwidthIsNot : Type 0
LessBandwidthIsNot =
    (q : Request) (l : Link)
    → slice_index l.free q.setup ≡ 1000 → q.bandwidth ≡ 1001 → ¬ IsAdmitted q l

-- The request has these affinities, and asks for no bandwidth.
pub record AsksForGroups (q : Request) (excluded any all : ℕ) : Type 0 where
  pub exclude_any : q.exclude_any ≡ excluded
  pub include_any : q.include_any ≡ any
  pub include_all : q.include_all ≡ all
  pub bandwidth : q.bandwidth ≡ 0

-- Every request that has these affinities and asks for no bandwidth admits a link of these groups.
abbrev pub AreAdmittedWith : (group exclude_any include_any include_all : ℕ) → Type 0
AreAdmittedWith group exclude_any include_any include_all =
    (q : Request) (l : Link)
    → l.group ≡ group → AsksForGroups q exclude_any include_any include_all → IsAdmitted q l

-- No request that has these affinities and asks for no bandwidth admits a link of these groups.
abbrev pub AreRefusedWith : (group exclude_any include_any include_all : ℕ) → Type 0
AreRefusedWith group exclude_any include_any include_all =
    (q : Request) (l : Link)
    → l.group ≡ group → AsksForGroups q exclude_any include_any include_all → ¬ IsAdmitted q l
