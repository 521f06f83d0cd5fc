-- How the text of a row is kept before the book has the row's version.
use Rattle.std.specs.Prelude.{◌≡◌, ℕ, ◌<◌, ◌⊎◌, Bool, true, false, List, take, length, Option}
use Rattle.std.specs.Io.KnownBytes.{Appends}
use Rattle.cspf_model.specs.Best.{Answer, route}
use Rattle.cspf_model.specs.Numbered.{NumberedChanges}
use Rattle.cspf_book.specs.BookState.{BookState}
use Rattle.cspf_book.specs.Leading.{LeadsTo}
use Rattle.cspf_book_run.specs.BookLines.{IsPlaceReply}
use Rattle.cspf_book_run.specs.declared.keeper.Keeping.{Keeping}
use Rattle.cspf_book_run.specs.declared.keeper.KeepsNothing.{KeepsNothing}
use Rattle.cspf_book_run.specs.declared.keeper.Unkept.{Unkept}
use Rattle.cspf_book_run.specs.declared.keeper.Unkept.TheVariants as unkept
use Rattle.cspf_book_run.specs.declared.write_fault.WriteFault.{WriteFault}
use Rattle.cspf_book_run.specs.declared.write_fault.WriteFault.TheVariants as fault

-- The line answers a `place` row. If the answer is a route, it is the line `made`.
abbrev pub IsLineOf : List ℕ → ℕ → ℕ → Answer → List ℕ → Type 0
IsLineOf made id version (route walk) line = line ≡ made
IsLineOf made id version other line = IsPlaceReply id version other line

-- the answer isn't a route
abbrev pub IsUnrouted : Answer → Type 0
IsUnrouted (route walk) = ⊥
IsUnrouted other = Unit {0}

-- How texts are kept, each with the batch of its row's version.
pub record KeepSpec (S : Type 0) : Type 1 where
  -- whether it is stopped, so that it keeps no more texts
  pub stopped : S → Bool
  -- In the first state it keeps the text of the version that the batch makes, and goes to the second
  -- state.
  pub keeps : S → List ℕ → NumberedChanges → S → Type 0
  -- In the first state it fails to keep this text, since this write failed, and goes to the second
  -- state.
  pub fails : S → List ℕ → NumberedChanges → WriteFault → S → Type 0

module _ {S : Type 0} (spec : KeepSpec S) where
  -- The text isn't kept. If memory is refused, nothing has changed.
  abbrev pub IsUnkept : S → List ℕ → NumberedChanges → Unkept → S → Type 0
  IsUnkept old text b unkept.Memory new = new ≡ old
  IsUnkept old text b (unkept.Failed fault) new = spec.fails old text b fault new

  -- The text is kept with the batch that leads from the book `s` to the book `t`.
  abbrev pub IsKeptWith : BookState → BookState → S → List ℕ → S → Type 0
  IsKeptWith s t old text new = (b : NumberedChanges) × LeadsTo s b t × spec.keeps old text b new

  -- The text isn't kept, since this write failed. The batch leads from the book `s` to the book `t`.
  abbrev pub IsCutWith : BookState → BookState → WriteFault → S → List ℕ → S → Type 0
  IsCutWith s t fault old text new = (b : NumberedChanges) × LeadsTo s b t × spec.fails old text b fault new

  -- The book goes from `s` to `t`. If this is a new version, the row's text is kept, and otherwise
  -- nothing is kept.
  abbrev pub IsKeptIfNew : BookState → BookState → S → List ℕ → S → Type 0
  IsKeptIfNew s t old text new = ((t ≡ s) × (new ≡ old)) ⊎ IsKeptWith s t old text new

module _ {K : Type 0} (contents : K → Option (List ℕ)) where
  -- The whole text is written.
  pub record IsTextWritten (old : Keeping K) (text : List ℕ) (new : Keeping K) : Type 0 where
    pub same : new.stopped ≡ old.stopped
    pub written : Appends (contents old.keep) (contents new.keep) text

  -- A write fails after the first `written` bytes of the text, which is longer.
  pub record IsTextCutOff (written : ℕ) (old : Keeping K) (text : List ℕ) (new : Keeping K) : Type 0 where
    pub stops : new.stopped ≡ true
    pub part : written < length text
    pub front : Appends (contents old.keep) (contents new.keep) (take written text)

  -- Only a write to the writer `keep` can fail.
  abbrev pub IsWriteFailed : Keeping K → List ℕ → WriteFault → Keeping K → Type 0
  IsWriteFailed old text (fault.Keep written) new = IsTextCutOff written old text new
  IsWriteFailed old text (fault.Journal written) new = ⊥

  -- The texts are written to the writer `keep`.
  abbrev pub writer_spec : KeepSpec (Keeping K)
  writer_spec = record {
    stopped = λ k. k.stopped;
    keeps = λ old text b new. IsTextWritten old text new;
    fails = λ old text b why new. IsWriteFailed old text why new;
  }

-- Nothing is kept, and that never fails.
abbrev pub nothing_spec : KeepSpec KeepsNothing
nothing_spec = record {
  stopped = λ k. false;
  keeps = λ old text b new. new ≡ old;
  fails = λ old text b why new. ⊥;
}
