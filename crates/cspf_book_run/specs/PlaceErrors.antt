-- The refusal of a `place`, `offer` or `held` row for each error of the book.
use Rattle.std.specs.Prelude.{Option, Some, None}
use Rattle.cspf_book.specs.declared.error.PlaceError.{PlaceError}
use Rattle.cspf_book.specs.declared.error.PlaceError.TheVariants as place_error
use Rattle.cspf_book.specs.declared.error.RestoreError.{RestoreError}
use Rattle.cspf_book.specs.declared.error.RestoreError.TheVariants as restore_error
use Rattle.cspf_book.specs.declared.error.VersionError.{VersionError}
use Rattle.cspf_book.specs.declared.error.VersionError.TheVariants as version_error
use Rattle.cspf_book_run.specs.declared.held_refusal.HeldRefusal.{HeldRefusal}
use Rattle.cspf_book_run.specs.declared.held_refusal.HeldRefusal.TheVariants as unheld
use Rattle.cspf_book_run.specs.declared.keeper.Unkept.{Unkept}
use Rattle.cspf_book_run.specs.declared.keeper.Unkept.TheVariants as unkept
use Rattle.cspf_book_run.specs.declared.refusals.PlaceRefusal.{PlaceRefusal}
use Rattle.cspf_book_run.specs.declared.refusals.PlaceRefusal.TheVariants as unplaced

-- The refusal that the run writes for an error of the book. If memory is refused, there is no
-- refusal, and the run ends.
abbrev pub place_refusal_of : PlaceError → Option PlaceRefusal
place_refusal_of place_error.Memory = None
place_refusal_of place_error.Full = Some unplaced.Full
place_refusal_of place_error.TooManyLinks = Some unplaced.Links
place_refusal_of place_error.Twice = Some unplaced.Twice
place_refusal_of place_error.TooLong = Some unplaced.Long

-- The refusal that the run writes if a request isn't placed: for a reason of the book, or because a
-- write failed. If memory is refused, there is no refusal, and the run ends.
abbrev pub refusal_of_placing : VersionError PlaceError Unkept → Option PlaceRefusal
refusal_of_placing (version_error.Book why) = place_refusal_of why
refusal_of_placing (version_error.Taker unkept.Memory) = None
refusal_of_placing (version_error.Taker (unkept.Failed fault)) = Some (unplaced.Failed fault)

-- The refusal that the run writes if a placement isn't restored: for a reason of the book, or because
-- a write failed. If memory is refused, there is no refusal, and the run ends.
abbrev pub refusal_of_restoring : VersionError RestoreError Unkept → Option HeldRefusal
refusal_of_restoring (version_error.Book restore_error.SameId) = Some unheld.SameId
refusal_of_restoring (version_error.Book restore_error.Full) = Some unheld.Full
refusal_of_restoring (version_error.Book restore_error.TooLong) = Some unheld.Long
refusal_of_restoring (version_error.Book restore_error.Twice) = Some unheld.Twice
refusal_of_restoring (version_error.Book restore_error.TooManyLinks) = Some unheld.Links
refusal_of_restoring (version_error.Book restore_error.Memory) = None
refusal_of_restoring (version_error.Taker unkept.Memory) = None
refusal_of_restoring (version_error.Taker (unkept.Failed fault)) = Some (unheld.Failed fault)
