-- Defines the audit's finding about a line. The finding depends on a journal's batches, the
-- requests and the lines before this line. The definitions whose names end in `By` are of rows that
-- ask, whatever they ask for, and those of requests are their instances.
use Rattle.std.specs.Prelude.{◌≡◌, ℕ, ◌<◌, ◌≤◌, ◌⊎◌, ◌==◌, List, [], ◌∷◌, ◌++◌, Contains, Some, length, take, codes}
use Rattle.std.specs.List.{before_first, slice_get}
use Rattle.cspf_model.specs.declared.request.Request.{Request}
use Rattle.cspf_model.specs.Numbered.{NumberedChanges}
use Rattle.cspf_model.specs.Database.{Database}
use Rattle.cspf_model.specs.Changes.{database_after}
use Rattle.cspf_model.specs.Best.{Answer, IsBestAnswer}
use Rattle.cspf_ero.specs.declared.head.Head.{Head}
use Rattle.cspf_ero.specs.ReplyLine.{IsReply}
use Rattle.cspf_ero.specs.ReplyHead.{BeginsWithHead}
use Rattle.cspf_judge.specs.declared.audits.finding.Finding.{Finding}
use Rattle.cspf_judge.specs.declared.audits.finding.Finding.TheVariants as finding
use Rattle.cspf_judge.specs.Asks.{AskSpec}
use Rattle.cspf_judge.specs.Requests.{IsAskedBy}

-- the bytes of a line before its first space, or the whole line if it has no space
abbrev pub first_word : List ℕ → List ℕ
first_word line = before_first (λ byte. byte == 32) line

-- the line reports a version, applied batches or a refused batch, so the audit skips it
abbrev pub IsPassedOver : List ℕ → Type 0
IsPassedOver line =
    (first_word line ≡ codes "version")
    ⊎ ((first_word line ≡ codes "applied") ⊎ (first_word line ≡ codes "batch"))

-- The line, with a line feed added, is the reply line of a best answer to the request in the
-- database `d`. The reply line names this version.
abbrev pub IsRightReply : Database → Request → ℕ → List ℕ → Type 0
IsRightReply d q version line =
    (answer : Answer) × IsBestAnswer d q answer × IsReply q.id version answer (line ++ 10 ∷ [])

-- requests, and the lines that answer them
abbrev pub request_spec : AskSpec Request
request_spec = record {
  id = λ (q : Request). q.id;
  begins = BeginsWithHead;
  answers = IsRightReply;
  differs = λ d q version line. ¬ IsRightReply d q version line;
}

module _ {A : Type 0} (spec : AskSpec A) where
  -- a line that is skipped doesn't begin as an answer
  abbrev pub IsNeverSkipped : Type 0
  IsNeverSkipped = (line : List ℕ) (head : Head) → IsPassedOver line → ¬ spec.begins line head

  -- one of the lines begins as the answer to a row with this id
  abbrev pub IsNamedBy : List (List ℕ) → ℕ → Type 0
  IsNamedBy lines id =
      (line : List ℕ) × (version : ℕ) × Contains lines line
      × spec.begins line (record { id = id; version = version })

  -- the line doesn't begin as an answer
  abbrev pub HasNoBeginning : List ℕ → Type 0
  HasNoBeginning line = (head : Head) → ¬ spec.begins line head

  -- the line is the first line with the id of this row, and it names this version; `before` has the
  -- earlier lines
  pub record IsFirstReplyBy (rows : List A) (before : List (List ℕ)) (line : List ℕ) (q : A) (version : ℕ) : Type 0 where
    pub head : spec.begins line (record { id = spec.id q; version = version })
    pub asked : Contains rows q
    pub first : ¬ IsNamedBy before (spec.id q)

  -- The audit's finding about a line: the first finding that applies. The list `before` has the
  -- lines that precede this line.
  abbrev pub IsFindingBy : List NumberedChanges → List A → List (List ℕ) → List ℕ → Finding → Type 0
  IsFindingBy batches rows before line finding.PassedOver = IsPassedOver line
  IsFindingBy batches rows before line finding.Unread = (¬ IsPassedOver line) × HasNoBeginning line
  IsFindingBy batches rows before line finding.Foreign =
      (head : Head) × spec.begins line head × ¬ IsAskedBy spec.id rows head.id
  IsFindingBy batches rows before line finding.Doubled =
      (head : Head) × spec.begins line head × IsAskedBy spec.id rows head.id × IsNamedBy before head.id
  IsFindingBy batches rows before line finding.NoVersion =
      (q : A) × (version : ℕ) × IsFirstReplyBy rows before line q version
      × (length batches < version)
  IsFindingBy batches rows before line finding.Altered =
      (q : A) × (version : ℕ) × IsFirstReplyBy rows before line q version
      × (version ≤ length batches)
      × spec.differs (database_after (take version batches)) q version line
  IsFindingBy batches rows before line finding.Good =
      (q : A) × (version : ℕ) × IsFirstReplyBy rows before line q version
      × (version ≤ length batches)
      × spec.answers (database_after (take version batches)) q version line

  -- there is one finding for each line, and `IsFindingBy` holds of each line and its finding
  pub record AreFindingsBy (batches : List NumberedChanges) (rows : List A) (lines : List (List ℕ)) (findings : List Finding) : Type 0 where
    pub counted : length findings ≡ length lines
    pub each : (index : ℕ) (line : List ℕ) (found : Finding) → slice_get lines index ≡ Some line
        → slice_get findings index ≡ Some found → IsFindingBy batches rows (take index lines) line found

-- one of the lines begins with the word `ask`, this id and a version
abbrev pub IsNamed : List (List ℕ) → ℕ → Type 0
IsNamed lines id = IsNamedBy request_spec lines id

-- the line is the first line with the id of this request, and it names this version; `before` has
-- the earlier lines
abbrev pub IsFirstReply : List Request → List (List ℕ) → List ℕ → Request → ℕ → Type 0
IsFirstReply requests before line q version = IsFirstReplyBy request_spec requests before line q version

-- The audit's finding about a line: the first finding that applies. The list `before` has the lines
-- that precede this line.
abbrev pub IsFinding : List NumberedChanges → List Request → List (List ℕ) → List ℕ → Finding → Type 0
IsFinding batches requests before line found = IsFindingBy request_spec batches requests before line found

-- there is one finding for each line, and `IsFinding` holds of each line and its finding
abbrev pub AreFindings : List NumberedChanges → List Request → List (List ℕ) → List Finding → Type 0
AreFindings batches requests lines findings = AreFindingsBy request_spec batches requests lines findings
