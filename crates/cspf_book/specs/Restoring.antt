-- How a placement is restored: it is added to a book with its route, without a search.
use Rattle.std.specs.Prelude.{◌≡◌, ◌+◌, ◌<◌, ◌≤◌, IsTrue, List, [], ◌∷◌, ◌++◌, length}
use Rattle.cspf_model.specs.Numbered.{NumberedChanges}
use Rattle.cspf_book.specs.declared.limits.TheConstants.{MOST_PLACED_LINKS, MOST_PLACEMENTS, MOST_ROUTES_LINKS}
use Rattle.cspf_book.specs.declared.error.RestoreError.{RestoreError}
use Rattle.cspf_book.specs.declared.error.RestoreError.TheVariants as unrestored
use Rattle.cspf_book.specs.declared.error.VersionError.{VersionError}
use Rattle.cspf_book.specs.declared.error.VersionError.TheVariants as error
use Rattle.cspf_book.specs.declared.placement.Placement.{Placement}
use Rattle.cspf_book.specs.Placements.{ArePassedOnce, id_of, has_id}
use Rattle.cspf_book.specs.BookState.{BookState, links_placed}
use Rattle.cspf_book.specs.Leading.{IsMoveBatch}

-- No placement has this one's id, and there are fewer than `MOST_PLACEMENTS`.
pub record HasPlaceFor (placements : List Placement) (p : Placement) : Type 0 where
  pub new_id : ¬ IsTrue (has_id (id_of p) placements)
  pub few : length placements < MOST_PLACEMENTS

-- The placement may be added to these placements: there is a place for it, its route is neither too
-- long nor uses a link twice, and the links of all routes stay within their limit.
pub record MayBeAdded (placements : List Placement) (p : Placement) : Type 0 where
  pub place : HasPlaceFor placements p
  pub short : length p.route ≤ MOST_PLACED_LINKS
  pub once : ArePassedOnce p.route
  pub few_links : links_placed placements + length p.route ≤ MOST_ROUTES_LINKS

-- the book after a placement is restored
abbrev pub after_restoring : BookState → Placement → BookState
after_restoring s p = record {
  base = s.base;
  version = s.version + 1;
  placements = s.placements ++ p ∷ [];
}

-- Why a placement isn't added to these placements. The reasons are tested in this order: `SameId`,
-- `Full`, `TooLong`, `Twice`, `TooManyLinks`. Each reason supposes that none of those before it
-- holds. If none holds, memory may be refused.
abbrev pub IsRestoreError : List Placement → Placement → RestoreError → Type 0
IsRestoreError placements p unrestored.SameId = IsTrue (has_id (id_of p) placements)
IsRestoreError placements p unrestored.Full =
    (¬ IsTrue (has_id (id_of p) placements)) × (MOST_PLACEMENTS ≤ length placements)
IsRestoreError placements p unrestored.TooLong =
    HasPlaceFor placements p × (MOST_PLACED_LINKS < length p.route)
IsRestoreError placements p unrestored.Twice =
    HasPlaceFor placements p × (length p.route ≤ MOST_PLACED_LINKS) × ¬ ArePassedOnce p.route
IsRestoreError placements p unrestored.TooManyLinks =
    HasPlaceFor placements p × (length p.route ≤ MOST_PLACED_LINKS) × ArePassedOnce p.route
    × (MOST_ROUTES_LINKS < links_placed placements + length p.route)
IsRestoreError placements p unrestored.Memory = MayBeAdded placements p

-- Why a placement isn't restored. `before` and `after` are the states of the taker, and `refuses`
-- is its relation of a batch that it refuses. For a reason of the book (`IsRestoreError`), the taker
-- is unchanged. Otherwise the placement may be added, and the taker refuses its batch.
abbrev pub IsUnrestored : {S E : Type 0} → (S → NumberedChanges → E → S → Type 0) → BookState → Placement → S → VersionError RestoreError E → S → Type 0
IsUnrestored refuses s p before (error.Book why) after = IsRestoreError s.placements p why × (after ≡ before)
IsUnrestored refuses s p before (error.Taker why) after =
    MayBeAdded s.placements p
    × (b : NumberedChanges) × IsMoveBatch s (id_of p) b (after_restoring s p) × refuses before b why after

-- The placements may be restored in this order in the book `s`, none is refused by the book, and
-- the book is then `t`.
abbrev pub AreRestored : BookState → List Placement → BookState → Type 0
AreRestored s [] t = t ≡ s
AreRestored s (p ∷ ps) t = MayBeAdded s.placements p × AreRestored (after_restoring s p) ps t
