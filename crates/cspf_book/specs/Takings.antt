-- What a book gives to a taker when it changes, and what is left of both after an error. In these
-- definitions `before` and `after` are the states of the taker. `takes`, `places` and `refuses` are
-- the taker's relations of a batch that it takes, of the batch of a placing that it takes with the
-- answer to the request, and of a batch that it refuses.
use Rattle.std.specs.Prelude.{◌≡◌, ◌+◌, ℕ, IsTrue, List}
use Rattle.cspf_model.specs.declared.link.Link.{Link}
use Rattle.cspf_model.specs.declared.request.Request.{Request}
use Rattle.cspf_model.specs.declared.batch.Change.{Change}
use Rattle.cspf_model.specs.Numbered.{NumberedChanges}
use Rattle.cspf_model.specs.Refusals.{IsRefusal}
use Rattle.cspf_model.specs.Changes.{after_changes, Fits}
use Rattle.cspf_model.specs.Best.{Answer, unknown_from, unknown_to, no_route, route, IsBestAnswer}
use Rattle.cspf_book.specs.declared.error.PlaceError.{PlaceError}
use Rattle.cspf_book.specs.declared.error.ReleaseError.{ReleaseError}
use Rattle.cspf_book.specs.declared.error.ReleaseError.TheVariants as unreleased
use Rattle.cspf_book.specs.declared.error.AbsorbError.{AbsorbError}
use Rattle.cspf_book.specs.declared.error.AbsorbError.TheVariants as unabsorbed
use Rattle.cspf_book.specs.declared.error.VersionError.{VersionError}
use Rattle.cspf_book.specs.declared.error.VersionError.TheVariants as error
use Rattle.cspf_book.specs.Placements.{has_id, others}
use Rattle.cspf_book.specs.BookState.{BookState, effective_beside, HasRoomFor, IsPlacedAlong, IsPlaceError}
use Rattle.cspf_book.specs.Leading.{IsMoveBatch, IsBaseBatch}

-- the book after changes of its base
abbrev pub after_absorbing : BookState → List Change → BookState
after_absorbing s changes = record {
  base = after_changes s.base changes;
  version = s.version + 1;
  placements = s.placements;
}

-- the book after the release of the placement with this id
abbrev pub after_releasing : BookState → ℕ → BookState
after_releasing s id = record {
  base = s.base;
  version = s.version + 1;
  placements = others id s.placements;
}

-- The answer changes the book `s` to the book `t`. If it is a route, the taker takes one batch,
-- which leads from `s` to `t`. For any other answer, the taker is unchanged.
abbrev pub IsPlacingTaken : {S : Type 0} → (S → NumberedChanges → Answer → S → Type 0) → BookState → ℕ → S → Answer → BookState → S → Type 0
IsPlacingTaken places s id before unknown_from t after = after ≡ before
IsPlacingTaken places s id before unknown_to t after = after ≡ before
IsPlacingTaken places s id before no_route t after = after ≡ before
IsPlacingTaken places s id before (route walk) t after =
    (b : NumberedChanges) × IsMoveBatch s id b t × places before b (route walk) after

-- The book has room for the placement, the best answer is a route, and the request may be placed
-- along it. The taker refuses the batch of this placing.
pub record IsPlacingRefused {S E : Type 0} (refuses : S → NumberedChanges → E → S → Type 0) (s : BookState) (q : Request) (hold : ℕ) (before : S) (why : E) (after : S) : Type 0 where
  pub room : HasRoomFor s q.id
  pub walk : List Link
  pub best : IsBestAnswer (effective_beside s q.id) q (route walk)
  pub t : BookState
  pub placed : IsPlacedAlong s q hold walk t
  pub batch : NumberedChanges
  pub moves : IsMoveBatch s q.id batch t
  pub refused : refuses before batch why after

-- Why a request isn't placed. For a reason of the book (`IsPlaceError`), the taker is unchanged.
-- Otherwise the taker refuses the batch of the placing.
abbrev pub IsUnplaced : {S E : Type 0} → (S → NumberedChanges → E → S → Type 0) → BookState → Request → ℕ → S → VersionError PlaceError E → S → Type 0
IsUnplaced refuses s q hold before (error.Book why) after = IsPlaceError s q why × (after ≡ before)
IsUnplaced refuses s q hold before (error.Taker why) after = IsPlacingRefused refuses s q hold before why after

-- Why the placement with this id isn't released. No placement has the id, memory is refused, or
-- the taker refuses the batch of the release. The taker is unchanged but in the last case.
abbrev pub IsUnreleased : {S E : Type 0} → (S → NumberedChanges → E → S → Type 0) → BookState → ℕ → S → VersionError ReleaseError E → S → Type 0
IsUnreleased refuses s id before (error.Book unreleased.Absent) after = (¬ IsTrue (has_id id s.placements)) × (after ≡ before)
IsUnreleased refuses s id before (error.Book unreleased.Memory) after = IsTrue (has_id id s.placements) × (after ≡ before)
IsUnreleased refuses s id before (error.Taker why) after =
    IsTrue (has_id id s.placements)
    × (b : NumberedChanges) × IsMoveBatch s id b (after_releasing s id) × refuses before b why after

-- Why the base doesn't change by a batch. The batch doesn't fit, memory is refused, or the taker
-- refuses the batch of the effective database. The taker is unchanged but in the last case.
abbrev pub IsUnabsorbed : {S E : Type 0} → (S → NumberedChanges → E → S → Type 0) → BookState → NumberedChanges → S → VersionError AbsorbError E → S → Type 0
IsUnabsorbed refuses s batch before (error.Book (unabsorbed.Unfit why)) after = IsRefusal s.base batch why × (after ≡ before)
IsUnabsorbed refuses s batch before (error.Book unabsorbed.Memory) after = Fits s.base batch × (after ≡ before)
IsUnabsorbed refuses s batch before (error.Taker why) after =
    Fits s.base batch
    × (b : NumberedChanges) × IsBaseBatch s batch.changes b (after_absorbing s batch.changes) × refuses before b why after
