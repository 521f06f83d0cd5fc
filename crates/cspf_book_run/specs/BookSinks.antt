-- Private: which base batches a book accepts or refuses as the sink of a run, how it answers
-- requests, and how it places and releases. `keeping` is what keeps the texts of accepted rows.
use Rattle.std.specs.Prelude.{◌≡◌, ℕ, ◌+◌, ◌-◌, ◌<◌, IsTrue, true, false, List, refl}
use Rattle.std.specs.Coded.{Coded, code_by, coded×, coded_ℕ}
use Rattle.cspf_model.specs.declared.batch.Change.{Change}
use Rattle.cspf_book_run.specs.declared.limits.TheConstants.{MOST_PLACING_VERSIONS}
use Rattle.cspf_model.specs.declared.request.Request.{Request}
use Rattle.cspf_model.specs.Best.{Answer, IsBestAnswer}
use Rattle.cspf_model.specs.Changes.{Fits}
use Rattle.cspf_model.specs.Numbered.{NumberedChanges}
use Rattle.cspf_model.specs.Refusals.{IsRefusal}
use Rattle.cspf_ero.specs.ReplyLine.{IsReply}
use Rattle.cspf_rows.specs.BatchText.{batch_text}
use Rattle.cspf_stream.specs.Sinks.{SinkSpec}
use Rattle.cspf_stream.specs.declared.batch_refusal.BatchRefusal.{BatchRefusal}
use Rattle.cspf_stream.specs.declared.batch_refusal.BatchRefusal.TheVariants as refusal
use Rattle.cspf_book.specs.BookState.{BookState, state_code}
use Rattle.cspf_book.specs.Effective.{effective}
use Rattle.cspf_book.specs.Placements.{has_id}
use Rattle.cspf_book_run.specs.BookLines.{released_line}
use Rattle.cspf_book_run.specs.BookScript.{BookRunState, name_of, AreBaseLines, after_base_batch, after_release, after_held, held_lines, IsPlaceAnswered, IsPlaceRefusal, IsReleaseRefusal, IsHeldRefusal}
use Rattle.cspf_book_run.specs.Keeping.{KeepSpec, IsKeptWith, IsCutWith, IsKeptIfNew}
use Rattle.cspf_book.specs.declared.placement.Placement.{Placement}
use Rattle.cspf_book.specs.Restoring.{MayBeAdded}
use Rattle.cspf_book_run.specs.declared.held_refusal.HeldRefusal.{HeldRefusal}
use Rattle.cspf_book_run.specs.declared.held_refusal.HeldRefusal.TheVariants as unheld
use Rattle.cspf_book_run.specs.declared.refusals.PlaceRefusal.{PlaceRefusal}
use Rattle.cspf_book_run.specs.declared.refusals.PlaceRefusal.TheVariants as unplaced
use Rattle.cspf_book_run.specs.declared.refusals.ReleaseRefusal.{ReleaseRefusal}
use Rattle.cspf_book_run.specs.declared.refusals.ReleaseRefusal.TheVariants as unreleased
use Rattle.cspf_book_run.specs.declared.write_fault.WriteFault.{WriteFault}
use Rattle.cspf_book_run.specs.declared.write_fault.WriteFault.TheVariants as fault

-- the book, the number of accepted base batches, how many of the book's first versions aren't counted
-- where lines name a version, and what keeps the texts of accepted rows
pub record BookSinkState (S : Type 0) : Type 0 where
  pub book : BookState
  pub batches : ℕ
  pub skipped : ℕ
  pub keeping : S

-- The state is stored as a tuple of its parts. `code` is how its last part is stored.
abbrev pub sink_code : {S : Type 0} → Coded S → Coded (BookSinkState S)
sink_code {S} code =
    code_by (BookState × (ℕ × (ℕ × S))) (coded× state_code (coded× coded_ℕ (coded× coded_ℕ code)))
    (λ s. (s.book, (s.batches, (s.skipped, s.keeping)))) (λ p. record { book = p.0; batches = p.1.0; skipped = p.1.1.0; keeping = p.1.1.1 }) (λ _. refl)

-- a state of a run that has this sink and these open changes
abbrev pub book_state_with : {S : Type 0} → BookSinkState S → List Change → BookRunState
book_state_with sink changes = record { book = sink.book; batches = sink.batches; restored = 0; changes = changes; answers = 0; refused = 0; skipped = sink.skipped }

-- The placement with this id is released, and the line reports this. `book` is the book after the
-- release.
abbrev pub IsReleased : BookRunState → ℕ → List ℕ → BookState → Type 0
IsReleased s id line book =
    (s.book.version < MOST_PLACING_VERSIONS) × IsTrue (has_id id s.book.placements)
    × (line ≡ released_line id (name_of s (s.book.version + 1))) × (book ≡ (after_release s id).book)

-- The placement is restored, and the lines report this. `book` is the book after the row.
abbrev pub IsHeldSaid : BookRunState → Placement → List ℕ → BookState → Type 0
IsHeldSaid s p lines book =
    (s.book.version < MOST_PLACING_VERSIONS) × MayBeAdded s.book.placements p
    × (lines ≡ held_lines s p) × (book ≡ (after_held s p).book)

module _ {S : Type 0} (spec : KeepSpec S) where
  -- The base batch fits, but its text isn't kept, since this write failed. Lines of the batch were
  -- made before.
  abbrev pub IsBatchCut : BookSinkState S → NumberedChanges → WriteFault → BookSinkState S → Type 0
  IsBatchCut old b fault new =
      Fits old.book.base b × (lines : List ℕ) × AreBaseLines (book_state_with old b.changes) b.number lines
      × IsCutWith spec old.book (after_base_batch (book_state_with old b.changes)).book fault old.keeping (batch_text b) new.keeping

  -- Why a base batch isn't accepted: it doesn't fit the base, or its text isn't kept.
  abbrev pub IsBatchUnkept : BookSinkState S → NumberedChanges → BatchRefusal → BookSinkState S → Type 0
  IsBatchUnkept old b (refusal.Unfit why) new = IsRefusal old.book.base b why × (new.keeping ≡ old.keeping)
  IsBatchUnkept old b (refusal.Keep written) new = IsBatchCut old b (fault.Keep written) new
  IsBatchUnkept old b (refusal.Journal written) new = IsBatchCut old b (fault.Journal written) new
  IsBatchUnkept old b other new = ⊥

  -- what a book does as a sink: it accepts the base batches that fit its base and whose text is
  -- kept, and answers requests with best answers in the effective database
  abbrev pub book_spec : SinkSpec (BookSinkState S)
  book_spec = record {
    version = λ sink. sink.book.version;
    next = λ sink. sink.batches + 1;
    stopped = λ sink. spec.stopped sink.keeping;
    accepts = λ old b lines new. Fits old.book.base b × AreBaseLines (book_state_with old b.changes) b.number lines
        × (new.book ≡ (after_base_batch (book_state_with old b.changes)).book) × (new.batches ≡ old.batches + 1) × (new.skipped ≡ old.skipped)
        × IsKeptWith spec old.book (after_base_batch (book_state_with old b.changes)).book old.keeping (batch_text b) new.keeping;
    refuses = λ old b why new. IsBatchUnkept old b why new × (new.book ≡ old.book) × (new.batches ≡ old.batches) × (new.skipped ≡ old.skipped);
    replies = λ sink q line. (answer : Answer) × IsBestAnswer (effective sink.book.base sink.book.placements) q answer
        × IsReply q.id (sink.book.version - sink.skipped) answer line;
  }

  -- It wasn't stopped. If the book has a new version, the row's text is kept.
  abbrev pub IsPlacingKept : BookSinkState S → List ℕ → BookSinkState S → Type 0
  IsPlacingKept old text new = (spec.stopped old.keeping ≡ false) × IsKeptIfNew spec old.book new.book old.keeping text new.keeping

  -- Why a `place` row is refused: it was stopped earlier, or the row's text isn't kept, or for a
  -- reason of the book.
  abbrev pub IsPlaceUnkept : BookRunState → Request → ℕ → List ℕ → S → PlaceRefusal → S → Type 0
  IsPlaceUnkept s q hold text old unplaced.Stopped new = (spec.stopped old ≡ true) × (new ≡ old)
  IsPlaceUnkept s q hold text old (unplaced.Failed fault) new =
      (spec.stopped old ≡ false) × (line : List ℕ) × (book : BookState) × IsPlaceAnswered s q hold line book × IsCutWith spec s.book book fault old text new
  IsPlaceUnkept s q hold text old other new = (spec.stopped old ≡ false) × (new ≡ old) × IsPlaceRefusal s q other

  -- why a `release` row is refused, in the same way
  abbrev pub IsReleaseUnkept : BookRunState → ℕ → List ℕ → S → ReleaseRefusal → S → Type 0
  IsReleaseUnkept s id text old unreleased.Stopped new = (spec.stopped old ≡ true) × (new ≡ old)
  IsReleaseUnkept s id text old (unreleased.Failed fault) new =
      (spec.stopped old ≡ false) × (s.book.version < MOST_PLACING_VERSIONS) × IsTrue (has_id id s.book.placements)
      × IsCutWith spec s.book (after_release s id).book fault old text new
  IsReleaseUnkept s id text old other new = (spec.stopped old ≡ false) × (new ≡ old) × IsReleaseRefusal s id other

  -- why a `held` row is refused, in the same way
  abbrev pub IsHeldUnkept : BookRunState → Placement → List ℕ → S → HeldRefusal → S → Type 0
  IsHeldUnkept s p text old unheld.Stopped new = (spec.stopped old ≡ true) × (new ≡ old)
  IsHeldUnkept s p text old (unheld.Failed fault) new =
      (spec.stopped old ≡ false) × (s.book.version < MOST_PLACING_VERSIONS) × MayBeAdded s.book.placements p
      × IsCutWith spec s.book (after_held s p).book fault old text new
  IsHeldUnkept s p text old other new = (spec.stopped old ≡ false) × (new ≡ old) × IsHeldRefusal s p other

  -- Why an `offer` row is refused. Nothing is kept for it.
  abbrev pub IsOfferUnkept : BookRunState → Request → S → PlaceRefusal → Type 0
  IsOfferUnkept s q old unplaced.Stopped = spec.stopped old ≡ true
  IsOfferUnkept s q old other = (spec.stopped old ≡ false) × IsPlaceRefusal s q other
