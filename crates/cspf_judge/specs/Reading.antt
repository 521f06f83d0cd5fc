-- Private: the state of the audit after some lines of the replies were read and compared.
use Rattle.std.specs.Prelude.{◌≡◌, ℕ, ◌+◌, ◌<◌, ◌≤◌, ◌⊎◌, ◌↔◌, Bool, true, false, nat_eq, if◌then◌else◌, Option, List, [], ◌∷◌, Contains, Some, None, length, slice_index_or, take}
use Rattle.std.specs.BTreeMap.{BTreeMap, get}
use Rattle.std.specs.List.{slice_get, slice_set}
use Rattle.std.specs.Ordering.{nat_cmp}
use Rattle.cspf_model.specs.Numbered.{NumberedChanges}
use Rattle.cspf_model.specs.Changes.{database_after}
use Rattle.cspf_db.specs.declared.table.plan.Plan.{Plan}
use Rattle.cspf_db.specs.Plans.{IsPlanOf}
use Rattle.cspf_ero.specs.declared.head.Head.{Head}
use Rattle.cspf_judge.specs.declared.audits.audit_error.AuditError.{AuditError}
use Rattle.cspf_judge.specs.declared.audits.audit_error.AuditError.TheVariants as error
use Rattle.cspf_judge.specs.declared.audits.claim.Claim.{Claim}
use Rattle.cspf_judge.specs.declared.audits.faults.AuditFault.{AuditFault}
use Rattle.cspf_judge.specs.declared.audits.faults.AuditFault.TheVariants as fault
use Rattle.cspf_judge.specs.declared.audits.finding.Finding.{Finding}
use Rattle.cspf_judge.specs.declared.audits.finding.Finding.TheVariants as finding
use Rattle.cspf_judge.specs.declared.audits.replay.Replay.{Replay}
use Rattle.cspf_judge.specs.declared.audits.replies.ReplyFindings.{ReplyFindings}
use Rattle.cspf_judge.specs.declared.audits.replies.Reading.{Reading}
use Rattle.cspf_judge.specs.declared.audits.replies.Reading.TheVariants as reading
use Rattle.cspf_judge.specs.Asks.{AskSpec}
use Rattle.cspf_judge.specs.Requests.{RepeatsIdBy}
use Rattle.cspf_judge.specs.Findings.{IsPassedOver, IsNamedBy, HasNoBeginning, IsFirstReplyBy, IsFindingBy}

-- `id_of` gives the id of a row that asks
module _ {A : Type 0} (id_of : A → ℕ) where
  -- The index of the first row with this id, or `None`. Indexes are counted from `index`: it is the
  -- index of the first row of the list.
  abbrev pub place_from : ℕ → ℕ → List A → Option ℕ
  place_from index id [] = None
  place_from index id (q ∷ rows) = if nat_eq (id_of q) id then Some index else place_from (index + 1) id rows

  -- the index of the first row with this id, or `None`
  abbrev pub place_of : ℕ → List A → Option ℕ
  place_of id rows = place_from 0 id rows

  -- `ids` maps the id of each row to the row's index
  abbrev pub ArePlaces : BTreeMap ℕ ℕ → List A → Type 0
  ArePlaces ids rows = (id : ℕ) → get nat_cmp ids id ≡ place_of id rows

  -- the error of indexing rows by their ids: memory is refused, or a row has the id of an earlier row
  abbrev pub IsIdFault : List A → AuditError → Type 0
  IsIdFault rows error.Memory = Unit {0}
  IsIdFault rows error.Device = ⊥
  IsIdFault rows error.TooManyRows = ⊥
  IsIdFault rows (error.Torn after) = ⊥
  IsIdFault rows (error.Batch number refusal) = ⊥
  IsIdFault rows (error.Requests why) = ⊥
  IsIdFault rows (error.SameId row) = RepeatsIdBy id_of rows row

  -- a fault `Unanswered` for each row whose entry in `named` is false: no line has the id of the row
  abbrev pub unnamed_faults : List A → List Bool → List AuditFault
  unnamed_faults [] named = []
  unnamed_faults (q ∷ rows) [] = []
  unnamed_faults (q ∷ rows) (true ∷ named) = unnamed_faults rows named
  unnamed_faults (q ∷ rows) (false ∷ named) = fault.Unanswered (id_of q) ∷ unnamed_faults rows named

-- `plans` has one plan for each of the first `n` batches. Each plan says what its batch changes in
-- the database of the batches before it.
pub record ArePlansUpTo (batches : List NumberedChanges) (plans : List Plan) (n : ℕ) : Type 0 where
  pub many : length plans ≡ n
  pub each : (i : ℕ) (b : NumberedChanges) (d : Plan) → i < n → b ≡ slice_index_or batches i b
      → IsPlanOf (database_after (take i batches)) b (slice_index_or plans i d)

-- the table of the replay has the database of the batches up to the replay's version
pub record IsAtVersion (batches : List NumberedChanges) (replay : Replay) : Type 0 where
  pub within : replay.version ≤ length batches
  pub table : replay.table ≡ database_after (take replay.version batches)

-- one of the claims gives the index of this line: the line is still to be compared with the right
-- answer
abbrev pub IsClaimed : List Claim → ℕ → Type 0
IsClaimed claims index = (claim : Claim) × Contains claims claim × (claim.line ≡ index)

module _ {A : Type 0} (spec : AskSpec A) where
  -- A claim gives the indexes of a line and of a row. The line is still to be compared with the right
  -- answer to this row. It is the first line with the id of the row.
  pub record IsClaim (rows : List A) (last : ℕ) (lines : List (List ℕ)) (claim : Claim) : Type 0 where
    pub line : List ℕ
    pub q : A
    pub is_line : slice_get lines claim.line ≡ Some line
    pub is_request : slice_get rows claim.request ≡ Some q
    pub first : IsFirstReplyBy spec rows (take claim.line lines) line q claim.version
    pub within : claim.version ≤ last

  -- `IsClaim` holds of each claim in the list
  abbrev pub AreClaims : List A → ℕ → List (List ℕ) → List Claim → Type 0
  AreClaims rows last lines claims = (claim : Claim) → Contains claims claim → IsClaim rows last lines claim

  -- Each line has its right finding, or it has the finding `Good` for now and a claim in the list. A
  -- claim says that the line is still to be compared with the right answer.
  pub record AreOpenFindings (batches : List NumberedChanges) (rows : List A) (lines : List (List ℕ)) (claims : List Claim) (findings : List Finding) : Type 0 where
    pub counted : length findings ≡ length lines
    pub each : (index : ℕ) (line : List ℕ) (found : Finding) → slice_get lines index ≡ Some line
        → slice_get findings index ≡ Some found
        → IsFindingBy spec batches rows (take index lines) line found
        ⊎ ((found ≡ finding.Good) × IsClaimed claims index)

  -- `named` says for each row whether one of the lines has the id of the row
  pub record AreNamed (rows : List A) (lines : List (List ℕ)) (named : List Bool) : Type 0 where
    pub counted : length named ≡ length rows
    pub each : (index : ℕ) (q : A) → slice_get rows index ≡ Some q
        → (slice_get named index ≡ Some true) ↔ IsNamedBy spec lines (spec.id q)

  -- `replies` is right after the lines `seen` were read. It has their findings, their claims (lines
  -- still to be compared with right answers), and for each row whether a line has the row's id.
  pub record HasReadLines (batches : List NumberedChanges) (rows : List A) (replies : ReplyFindings) (seen : List (List ℕ)) : Type 0 where
    pub found : AreOpenFindings batches rows seen replies.claims.items replies.findings.items
    pub claims : AreClaims rows (length batches) seen replies.claims.items
    pub named : AreNamed rows seen replies.named.items

  -- The result of reading the head of a line: how it begins, with an id and a version. `ids` maps the
  -- id of each row to the row's index. `last` is the highest version of the journal. The lists
  -- `before` and `after` say for each row whether a line has the row's id. `before` is about the
  -- lines so far, and `after` about the same lines and this line.
  abbrev pub IsReading : BTreeMap ℕ ℕ → ℕ → List ℕ → List Bool → List Bool → Reading → Type 0
  IsReading ids last line before after (reading.Settled finding.PassedOver) = IsPassedOver line × (after ≡ before)
  IsReading ids last line before after (reading.Settled finding.Good) = ⊥
  IsReading ids last line before after (reading.Settled finding.Unread) = (¬ IsPassedOver line) × HasNoBeginning spec line × (after ≡ before)
  IsReading ids last line before after (reading.Settled finding.Foreign) =
      (head : Head) × spec.begins line head × (get nat_cmp ids head.id ≡ None) × (after ≡ before)
  IsReading ids last line before after (reading.Settled finding.Doubled) =
      (head : Head) × spec.begins line head
      × ((index : ℕ) × (get nat_cmp ids head.id ≡ Some index) × (slice_get before index ≡ Some true)) × (after ≡ before)
  IsReading ids last line before after (reading.Settled finding.NoVersion) =
      (head : Head) × spec.begins line head × (last < head.version)
      × ((index : ℕ) × (get nat_cmp ids head.id ≡ Some index) × (slice_get before index ≡ Some false) × (after ≡ slice_set before index true))
  IsReading ids last line before after (reading.Settled finding.Altered) = ⊥
  IsReading ids last line before after (reading.Claims index version) =
      (id : ℕ) × spec.begins line (record { id = id; version = version }) × (version ≤ last)
      × (get nat_cmp ids id ≡ Some index) × (slice_get before index ≡ Some false) × (after ≡ slice_set before index true)
