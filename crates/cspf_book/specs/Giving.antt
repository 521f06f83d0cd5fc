-- Private: why a version isn't given to a taker. `before` and `after` are the states of the taker,
-- and `refuses` is its relation of a batch that it refuses.
use Rattle.std.specs.Prelude.{◌≡◌, ℕ, Some, List, [], ◌∷◌, ◌++◌}
use Rattle.cspf_model.specs.declared.link.Link.{Link}
use Rattle.cspf_model.specs.declared.request.Request.{Request}
use Rattle.cspf_model.specs.Database.{Database}
use Rattle.cspf_model.specs.Numbered.{NumberedChanges}
use Rattle.cspf_model.specs.Best.{route, IsBestAnswer}
use Rattle.cspf_book.specs.declared.path.Passed.{Passed}
use Rattle.cspf_book.specs.declared.placement.Placement.{Placement}
use Rattle.cspf_book.specs.declared.error.PlaceError.{PlaceError}
use Rattle.cspf_book.specs.declared.error.PlaceError.TheVariants as unplaced
use Rattle.cspf_book.specs.declared.error.ReleaseError.{ReleaseError}
use Rattle.cspf_book.specs.declared.error.ReleaseError.TheVariants as unreleased
use Rattle.cspf_book.specs.declared.error.RestoreError.{RestoreError}
use Rattle.cspf_book.specs.declared.error.RestoreError.TheVariants as unrestored
use Rattle.cspf_book.specs.declared.error.VersionError.{VersionError}
use Rattle.cspf_book.specs.declared.error.VersionError.TheVariants as error
use Rattle.cspf_book.specs.Leading.{moved_batch}
use Rattle.cspf_book.specs.Offers.{IsOffered, IsOfferRefused}

-- Why the batch of a placing isn't taken: memory is refused, and the taker is unchanged, or the
-- taker refuses the batch.
abbrev pub IsPlacingNotGiven : {S E : Type 0} → (S → NumberedChanges → E → S → Type 0) → S → NumberedChanges → VersionError PlaceError E → S → Type 0
IsPlacingNotGiven refuses before b (error.Book unplaced.Memory) after = after ≡ before
IsPlacingNotGiven refuses before b (error.Book other) after = ⊥
IsPlacingNotGiven refuses before b (error.Taker why) after = refuses before b why after

-- Why the batch of a release isn't taken: memory is refused, and the taker is unchanged, or the
-- taker refuses the batch.
abbrev pub IsReleaseNotGiven : {S E : Type 0} → (S → NumberedChanges → E → S → Type 0) → S → NumberedChanges → VersionError ReleaseError E → S → Type 0
IsReleaseNotGiven refuses before b (error.Book unreleased.Memory) after = after ≡ before
IsReleaseNotGiven refuses before b (error.Book other) after = ⊥
IsReleaseNotGiven refuses before b (error.Taker why) after = refuses before b why after

-- Why the batch of a restored placement isn't taken: memory is refused, and the taker is unchanged,
-- or the taker refuses the batch.
abbrev pub IsRestoringNotGiven : {S E : Type 0} → (S → NumberedChanges → E → S → Type 0) → S → NumberedChanges → VersionError RestoreError E → S → Type 0
IsRestoringNotGiven refuses before b (error.Book unrestored.Memory) after = after ≡ before
IsRestoringNotGiven refuses before b (error.Book other) after = ⊥
IsRestoringNotGiven refuses before b (error.Taker why) after = refuses before b why after

-- Why no placement of a request is given to the taker. `d` is the database of the search, and
-- `room` the number of links that are left of the limit. Either no placement is offered
-- (`IsOfferRefused`), and the taker is unchanged. Or a placement is offered for the best answer,
-- and the taker refuses its batch.
abbrev pub IsNotProposed : {S E : Type 0} → (S → NumberedChanges → E → S → Type 0) → Database → Request → ℕ → ℕ
    → Database → List Placement → ℕ → List Passed → S → VersionError PlaceError E → S → Type 0
IsNotProposed refuses d q hold room base placements number old before (error.Book why) after =
    IsOfferRefused d q room why × (after ≡ before)
IsNotProposed refuses d q hold room base placements number old before (error.Taker why) after =
    (walk : List Link) × (p : Placement) × IsBestAnswer d q (route walk) × IsOffered q hold room (route walk) (Some p)
    × refuses before (moved_batch base (placements ++ p ∷ []) number old p.route) why after
