-- The answers to the rows of a client.
use Rattle.std.specs.Prelude.{◌≡◌, ℕ, ◌+◌, ◌≤◌, ◌⊎◌, List, length, Result, Ok, Err}
use Rattle.cspf_model.specs.declared.request.Request.{Request}
use Rattle.cspf_model.specs.Changes.{database_after}
use Rattle.cspf_model.specs.Best.{Answer, IsBestAnswer}
use Rattle.cspf_ero.specs.ReplyLine.{IsReply}
use Rattle.cspf_publish.specs.JournalSteps.{count_of}
use Rattle.cspf_publish.specs.KnownBatches.{KnownBatches, AreFirstOf}
use Rattle.cspf_publish.specs.Readings.{CatchesUp}
use Rattle.cspf_publish.specs.declared.errors.AskError.{AskError}
use Rattle.cspf_publish.specs.declared.errors.AskError.TheVariants as ask_error
use Rattle.cspf_questions.specs.QuestionRows.{read_fields}
use Rattle.cspf_disjoint.specs.declared.error.PairError.TheVariants as pair_error
use Rattle.cspf_questions.specs.QuestionLines.{IsQuestionReply, MayFail, refused_question_line}
use Rattle.cspf_questions.specs.declared.error.QuestionError.{QuestionError}
use Rattle.cspf_questions.specs.declared.kinds.QuestionKinds.{QuestionKinds}
use Rattle.cspf_questions.specs.declared.question.Question.{Question}
use Rattle.cspf_questions.specs.declared.reading.ReadFields.{ReadFields}
use Rattle.cspf_questions.specs.declared.reading.ReadFields.TheVariants as reading
use Rattle.cspf_rows.specs.declared.row.Row.{Row}
use Rattle.cspf_rows.specs.declared.row.Row.TheVariants as row
use Rattle.cspf_rows.specs.declared.row_error.RowError.{RowError}
use Rattle.cspf_rows.specs.declared.row_error.RowError.TheVariants as error
use Rattle.cspf_stream.specs.RefusedRows.{refused_row_line}
use Rattle.cspf_stream.specs.StreamStops.{FailsOf}
use Rattle.cspf_client.specs.SessionStates.{SessionState}
use Rattle.cspf_client.specs.declared.error.RowFault.{RowFault}
use Rattle.cspf_client.specs.declared.error.RowFault.TheVariants as row_fault

-- Before the client answers row `place`, it reads the count of published batches. This reading is a
-- step of the journal, and follows all steps that the client has seen. The step has the number of
-- the client and the number of the row. Afterwards the client's asker, which computes the replies,
-- knows at least this many batches. It may learn of more batches when it enters the published
-- replica, which is a copy of the table.
pub record ReadsCount (place : ℕ) (s t : SessionState) : Type 0 where
  pub mid : KnownBatches
  pub count : ℕ
  pub caught_up : CatchesUp s.known mid s.steps t.steps s.client place count
  pub later : AreFirstOf t.known mid
  pub client : t.client ≡ s.client
  pub refused : t.refused ≡ s.refused

-- The row is refused, and its line has the words for the error `why`. In the client's state, only
-- the count of refused rows changes.
pub record IsRefusedRow (place : ℕ) (why : RowError) (s : SessionState) (line : List ℕ) (t : SessionState) : Type 0 where
  pub written : line ≡ refused_row_line place why
  pub after : t ≡ record s { refused = s.refused + 1 }

-- The request of row `place` is answered with the best answer in the database of the batches that
-- the client then knows. The number of these batches is the version of the reply. These batches
-- include all batches that the client knew before. There are at least as many of them as the count
-- that the client read before this answer (`ReadsCount`).
pub record IsRequestAnswered (place : ℕ) (q : Request) (s : SessionState) (line : List ℕ) (t : SessionState) : Type 0 where
  pub reads : ReadsCount place s t
  pub answer : Answer
  pub best : IsBestAnswer (database_after t.known.batches) q answer
  pub reply : IsReply q.id (length t.known.batches) answer line

-- The version of a reply is at least the count of published batches that the client read before
-- this reply. This count is at least the count that follows from the steps of the journal that the
-- client had already seen (`count_of`).
abbrev pub RepliesAreFresh : Type 0
RepliesAreFresh =
    (place : ℕ) (q : Request) (s t : SessionState) (line : List ℕ) (a : IsRequestAnswered place q s line t)
    → (count_of s.steps.steps ≤ a.reads.count) × (a.reads.count ≤ length t.known.batches)

-- row `place`, counted from 1, is answered with this line; `s` and `t` are the states before and
-- after the row
abbrev pub IsClientRowAnswered : ℕ → SessionState → Result Row RowError → List ℕ → SessionState → Type 0
IsClientRowAnswered place s (Err why) line t = IsRefusedRow place why s line t
IsClientRowAnswered place s (Ok (row.Ask q)) line t = IsRequestAnswered place q s line t
IsClientRowAnswered place s (Ok other) line t = IsRefusedRow place error.Kind s line t

-- The question of row `place` is answered in the database of the batches that the client then knows.
-- The number of these batches is the version of the line. As before a reply to a request, the client
-- has read the count of published batches, and then knows at least as many batches (`ReadsCount`).
pub record IsQuestionAnswered (place : ℕ) (question : Question) (s : SessionState) (line : List ℕ) (t : SessionState) : Type 0 where
  pub reads : ReadsCount place s t
  pub reply : IsQuestionReply (database_after t.known.batches) (length t.known.batches) question line

-- The row of a question is refused, and its line has the words for the error `why`. In the client's
-- state, only the count of refused rows changes.
pub record IsRefusedQuestion (place : ℕ) (why : QuestionError) (s : SessionState) (line : List ℕ) (t : SessionState) : Type 0 where
  pub written : line ≡ refused_question_line place why
  pub after : t ≡ record s { refused = s.refused + 1 }

-- row `place`, counted from 1, is answered with this line, as the question, the refused question or
-- the row of a database that it was read as
abbrev pub IsReadAnswered : ℕ → SessionState → ReadFields → List ℕ → SessionState → Type 0
IsReadAnswered place s (reading.Row r) line t = IsClientRowAnswered place s r line t
IsReadAnswered place s (reading.Question question) line t = IsQuestionAnswered place question s line t
IsReadAnswered place s (reading.Refused why) line t = IsRefusedQuestion place why s line t

-- the row with these fields is answered with this line, if questions of these kinds are answered; `s`
-- and `t` are the states before and after the row
abbrev pub IsClientAnswered : QuestionKinds → ℕ → SessionState → List (List ℕ) → List ℕ → SessionState → Type 0
IsClientAnswered kinds place s fields line t = IsReadAnswered place s (read_fields kinds fields) line t

-- Memory is refused for the line that refuses a row. The state is unchanged.
abbrev pub IsRefusalMissing : AskError → SessionState → SessionState → Type 0
IsRefusalMissing fault s t = (fault ≡ ask_error.Memory) × (t ≡ s)

-- The request of row `place` isn't answered, because of this fault. The fault `NoEntry` means that
-- the client couldn't enter the published replica, which is a copy of the table. The client has
-- then learnt of no further batch since it read the count.
pub record IsRequestUnanswered (place : ℕ) (fault : AskError) (s t : SessionState) : Type 0 where
  pub reads : ReadsCount place s t
  pub entry : fault ≡ ask_error.NoEntry → t.known ≡ reads.mid

-- the row isn't answered because of this fault; `t` is the state afterwards
abbrev pub IsClientRowUnanswered : AskError → ℕ → SessionState → Result Row RowError → SessionState → Type 0
IsClientRowUnanswered fault place s (Ok (row.Ask q)) t = IsRequestUnanswered place fault s t
IsClientRowUnanswered fault place s other t = IsRefusalMissing fault s t

-- The question isn't answered, because of this fault. After the fault `Undecided`, the client has
-- read the count as before an answer, and the question is one that may be undecided.
abbrev pub IsQuestionUnanswered : ℕ → Question → RowFault → SessionState → SessionState → Type 0
IsQuestionUnanswered place question (row_fault.Ask why) s t = IsRequestUnanswered place why s t
IsQuestionUnanswered place question row_fault.Undecided s t = MayFail question pair_error.Undecided × ReadsCount place s t

-- the fault is an error of an ask for which this holds
abbrev pub IsAskFault : RowFault → (AskError → Type 0) → Type 0
IsAskFault (row_fault.Ask why) P = P why
IsAskFault row_fault.Undecided P = ⊥

-- the row that was read in this way isn't answered because of this fault; `t` is the state afterwards
abbrev pub IsReadUnanswered : RowFault → ℕ → SessionState → ReadFields → SessionState → Type 0
IsReadUnanswered fault place s (reading.Row r) t = IsAskFault fault (λ why. IsClientRowUnanswered why place s r t)
IsReadUnanswered fault place s (reading.Question question) t = IsQuestionUnanswered place question fault s t
IsReadUnanswered fault place s (reading.Refused refused) t = IsAskFault fault (λ why. IsRefusalMissing why s t)

-- The row with these fields isn't answered because of this fault, if questions of these kinds are
-- answered. `t` is the state afterwards. Memory may be refused before the row is read.
abbrev pub IsClientUnanswered : QuestionKinds → RowFault → FailsOf SessionState
IsClientUnanswered kinds fault place s fields t =
    IsReadUnanswered fault place s (read_fields kinds fields) t ⊎ IsAskFault fault (λ why. IsRefusalMissing why s t)
