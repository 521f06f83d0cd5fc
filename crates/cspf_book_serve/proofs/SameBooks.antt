-- Rows that leave the book of a run unchanged: refused rows, and rows after a write has failed.
use Rattle.std.proofs.Common.{◌≡◌, List, ℕ, Result, refl, ap, ◌∙◌}
use Rattle.cspf_rows.specs.Steps.{step_of}
use Rattle.cspf_rows.specs.declared.step.Step.{Step}
use Rattle.cspf_rows.specs.declared.step.Step.TheVariants as step
use Rattle.cspf_stream.specs.declared.batch_refusal.BatchRefusal.{BatchRefusal}
use Rattle.cspf_stream.specs.declared.batch_refusal.BatchRefusal.TheVariants as refusal
use Rattle.cspf_book.specs.LinkFigures.{figures_at}
use Rattle.cspf_book.specs.Placements.{placement_of}
use Rattle.cspf_book_run.specs.BookScript.{BookRunState}
use Rattle.cspf_book_run.specs.KeptRuns.{RowRefusals, by_stopped, IsEndUnkept, IsRowUnkept, IsStepStopped, IsTakenStopped}
use Rattle.cspf_book_run.specs.OutOfMemory.{after_memory, IsRefusedByMemory}
use Rattle.cspf_book_run.specs.declared.book_row.BookRow.{BookRow}
use Rattle.cspf_book_run.specs.declared.book_row_error.BookRowError.{BookRowError}
use Rattle.cspf_book_run.specs.declared.row_name.RowName.{RowName}
use Rattle.cspf_book_run.specs.declared.row_name.RowName.TheVariants as name
use Rattle.cspf_book_run.specs.declared.book_row.BookRow.TheVariants as book_row
use Rattle.cspf_book_run.proofs.Looks.{Looks, shown_looks, left_looks, look_same}

-- The book is unchanged, and so are the counts of base batches, of restored placements, and of the
-- versions that aren't counted in lines.
pub record HasSameBook (s t : BookRunState) : Type 0 where
  pub skipped : t.skipped ≡ s.skipped
  pub book : t.book ≡ s.book
  pub batches : t.batches ≡ s.batches
  pub restored : t.restored ≡ s.restored

-- A state has the same book if it is equal to a state that has.
pub same_from : (s t u : BookRunState) → t ≡ u → u.skipped ≡ s.skipped → u.book ≡ s.book → u.batches ≡ s.batches → u.restored ≡ s.restored → HasSameBook s t
same_from s t u is skipped book batches restored = record {
  skipped = ap (λ (x : BookRunState). x.skipped) is ∙ skipped;
  book = ap (λ (x : BookRunState). x.book) is ∙ book;
  batches = ap (λ (x : BookRunState). x.batches) is ∙ batches;
  restored = ap (λ (x : BookRunState). x.restored) is ∙ restored;
}

look_has_same : (s t : BookRunState) → Looks s t → HasSameBook s t
look_has_same s t look = record {
  skipped = look_same (λ (x : BookRunState). x.skipped) s t refl look;
  book = look_same (λ (x : BookRunState). x.book) s t refl look;
  batches = look_same (λ (x : BookRunState). x.batches) s t refl look;
  restored = look_same (λ (x : BookRunState). x.restored) s t refl look;
}

-- A row that is refused by `memory` leaves the book unchanged.
memory_same : (s t : BookRunState) (called : RowName) → t ≡ after_memory s called → HasSameBook s t
memory_same s t (name.Batch number) is = same_from s t _ is refl refl refl refl
memory_same s t other is = same_from s t _ is refl refl refl refl

pub memory_has_same : (place : ℕ) (s t : BookRunState) (row : Result BookRow BookRowError) (line : List ℕ) → IsRefusedByMemory place s row line t → HasSameBook s t
memory_has_same place s t row line out = memory_same s t out.called out.after

end_has_same : (why : BatchRefusal) (s t : BookRunState) (asked : Step) (line : List ℕ) → IsEndUnkept why s asked line t → HasSameBook s t
end_has_same why s t (step.End number count) line (said, is) = same_from s t _ is refl refl refl refl
end_has_same why s t other line a = absurd a

pub unkept_has_same : (why : RowRefusals) (s t : BookRunState) (row : BookRow) (line : List ℕ) → IsRowUnkept why s row line t → HasSameBook s t
unkept_has_same why s t (book_row.Base row) line a = end_has_same why.batch s t (step_of row) line a
unkept_has_same why s t (book_row.Place q hold) line (said, is) = same_from s t _ is refl refl refl refl
unkept_has_same why s t (book_row.Release id) line (said, is) = same_from s t _ is refl refl refl refl
unkept_has_same why s t (book_row.Held p) line (said, is) = same_from s t _ is refl refl refl refl
unkept_has_same why s t (book_row.Offer q hold) line (said, is) = same_from s t _ is refl refl refl refl
unkept_has_same why s t other line a = absurd a

step_has_same : (s t : BookRunState) (asked : Step) (line : List ℕ) → IsStepStopped s asked line t → HasSameBook s t
step_has_same s t (step.Change c) line (said, is) = same_from s t _ is refl refl refl refl
step_has_same s t (step.End number count) line a = end_has_same refusal.Stopped s t (step.End number count) line a
step_has_same s t (step.Ask q) line (answer, best, reply, is) = same_from s t _ is refl refl refl refl

pub stopped_has_same : (s t : BookRunState) (row : BookRow) (line : List ℕ) → IsTakenStopped s row line t → HasSameBook s t
stopped_has_same s t (book_row.Base row) line a = step_has_same s t (step_of row) line a
stopped_has_same s t (book_row.Show id) line a = look_has_same s t (shown_looks s t id (placement_of id s.book.placements) line a)
stopped_has_same s t (book_row.Left from local) line a =
    look_has_same s t (left_looks s t (from, local) (figures_at s.book.base s.book.placements (from, local)) line a)
stopped_has_same s t (book_row.Place q hold) line a = unkept_has_same by_stopped s t (book_row.Place q hold) line a
stopped_has_same s t (book_row.Release id) line a = unkept_has_same by_stopped s t (book_row.Release id) line a
stopped_has_same s t (book_row.Held p) line a = unkept_has_same by_stopped s t (book_row.Held p) line a
stopped_has_same s t (book_row.Offer q hold) line a = unkept_has_same by_stopped s t (book_row.Offer q hold) line a
