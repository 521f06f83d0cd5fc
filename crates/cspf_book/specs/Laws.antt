-- Laws of the bandwidths that placements count, and of effective databases. An effective database
-- is a base with the bandwidth that the placements leave on its links.
use Rattle.std.specs.Prelude.{◌≡◌, ◌⊎◌, ℕ, zero, suc, ◌+◌, ◌<◌, ◌≤◌, min, List, [], ◌∷◌, ◌++◌, Contains, length, map, slice_index}
use Rattle.std.specs.Option.{option_map}
use Rattle.cspf_model.specs.declared.link.Link.{Link}
use Rattle.cspf_model.specs.Database.{Database, Key, key_of, link_at, IsLinkOf}
use Rattle.cspf_model.specs.declared.batch.Change.{Change}
use Rattle.cspf_model.specs.Changes.{after_changes}
use Rattle.cspf_model.specs.Walks.{IsWalk}
use Rattle.cspf_book.specs.declared.placement.Placement.{Placement}
use Rattle.cspf_book.specs.Placements.{passed_of, id_of, others, counted}
use Rattle.cspf_book.specs.Effective.{effective_link, effective}
use Rattle.cspf_book.specs.Leading.{effective_change}
use Rattle.cspf_book.specs.OverLinks.{over_at, over, made_over}
use Rattle.cspf_book.specs.BookState.{BookState}
use Rattle.cspf_book.specs.PathsFrom.{path_from, passed_step}
use Rattle.cspf_book.specs.PlacedRoutes.{ConnectTheirEnds, ArePlaced}
use Rattle.cspf_book.specs.Restoring.{AreRestored}
use Rattle.cspf_book.specs.LostRoutes.{AreLost}

-- The effective bandwidths of a link never rise from priority 0 to priority 7.
abbrev pub FiguresNeverRise : Type 0
FiguresNeverRise =
    (placements : List Placement) (l : Link) (p q : ℕ) → p ≤ q → q < 8
    → slice_index (effective_link placements l).free q ≤ slice_index (effective_link placements l).free p

-- At each key, the effective database has the base's link with its effective bandwidths, or no link
-- if the base has no link.
abbrev pub HasEffectiveLinks : Type 0
HasEffectiveLinks =
    (base : Database) (placements : List Placement) (k : Key)
    → link_at (effective base placements) k ≡ option_map (effective_link placements) (link_at base k)

-- the least of the bandwidths at this priority and at all more important priorities
abbrev pub least_up_to : List ℕ → ℕ → ℕ
least_up_to free zero = slice_index free zero
least_up_to free (suc p) = min (least_up_to free p) (slice_index free (suc p))

-- Without placements, the effective bandwidth of a link at a priority is `least_up_to` of its
-- bandwidths in the base. So if the bandwidths in the base never rise from priority 0 to priority
-- 7, they are equal to the effective bandwidths.
abbrev pub NothingHeldIsBase : Type 0
NothingHeldIsBase =
    (l : Link) (p : ℕ) → p < 8
    → slice_index (effective_link [] l).free p ≡ least_up_to l.free p

-- The effective database after changes of the base is made by the same changes of the effective
-- database before. There, each link that is put has its effective bandwidths.
abbrev pub ChangesAreEffective : Type 0
ChangesAreEffective =
    (base : Database) (placements : List Placement) (changes : List Change)
    → effective (after_changes base changes) placements
    ≡ after_changes (effective base placements) (map (effective_change placements) changes)

-- A link is covered at a priority if the placements count at most the link's unreserved bandwidth
-- at this priority.
abbrev pub IsCovered : List Placement → Link → ℕ → Type 0
IsCovered placements l priority = counted placements (key_of l) priority ≤ slice_index l.free priority

-- Placing a request with the setup priority 7 keeps each covered link covered, at each priority
-- (`IsCovered`). The route has to be a walk of the request in the effective database of the other
-- placements.
abbrev pub PlacingKeepsCovered : Type 0
PlacingKeepsCovered =
    (base : Database) (placements : List Placement) (p : Placement) (walk : List Link) → p.request.setup ≡ 7
    → p.route ≡ map passed_of walk
    → IsWalk (effective base (others (id_of p) placements)) p.request walk
    → (l : Link) (priority : ℕ) → IsLinkOf base l → priority < 8
    → IsCovered placements l priority → IsCovered (others (id_of p) placements ++ p ∷ []) l priority

-- A release keeps each covered link covered, at each priority (`IsCovered`).
abbrev pub ReleasingKeepsCovered : Type 0
ReleasingKeepsCovered =
    (placements : List Placement) (id : ℕ) (l : Link) (priority : ℕ)
    → IsCovered placements l priority → IsCovered (others id placements) l priority

-- Take a link of the base after changes, and a priority. The base had the same link before the
-- changes, or the link is covered (`IsCovered`), or the list `over` has the link with this
-- priority.
abbrev pub AbsorbingKeepsCovered : Type 0
AbsorbingKeepsCovered =
    (base : Database) (placements : List Placement) (changes : List Change) (l : Link) (priority : ℕ)
    → IsLinkOf (after_changes base changes) l → priority < 8
    → IsLinkOf base l ⊎ (IsCovered placements l priority ⊎ Contains (over placements changes) (over_at l priority))

-- If a link is covered (`IsCovered`) before a placement is restored, and isn't afterwards, the list
-- `made_over` has the link with this priority. The other links of the base stay covered.
abbrev pub RestoringKeepsCovered : Type 0
RestoringKeepsCovered =
    (base : Database) (placements : List Placement) (p : Placement) (l : Link) (priority : ℕ)
    → IsLinkOf base l → priority < 8 → IsCovered placements l priority
    → IsCovered (placements ++ p ∷ []) l priority ⊎ Contains (made_over base placements p) (over_at l priority)

-- A book's placements may be restored in their order in a book that has its base and no placements
-- (`AreRestored`). Then this book has its placements. Each route is the path from the head-end along
-- the steps of its links.
pub record CompactIsTheBook : Type 0 where
  pub restored : (s : BookState) (version : ℕ) → ArePlaced s.placements
      → AreRestored (record { base = s.base; version = version; placements = [] }) s.placements
      (record { base = s.base; version = version + length s.placements; placements = s.placements })
  pub routes : (placements : List Placement) → ConnectTheirEnds placements
      → map (λ p. path_from p.request.from (map passed_step p.route)) placements ≡ map (λ p. p.route) placements

-- For two databases there is only one list of the ids of placements that lose their routes
-- (`AreLost`).
abbrev pub HaveOneLostList : Type 0
HaveOneLostList =
    (before after : Database) (placements : List Placement) (a b : List ℕ)
    → AreLost before after placements a → AreLost before after placements b → a ≡ b
