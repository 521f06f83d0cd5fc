-- Rows that ask, `ask` rows and the rows of questions, and the lines that answer them.
use Rattle.std.specs.Prelude.{◌≡◌, ◌⊎◌, ℕ, ◌≤◌, true, List, [], ◌∷◌, ◌++◌, length, codes}
use Rattle.cspf_model.specs.Database.{Database}
use Rattle.cspf_ero.specs.declared.head.Head.{Head}
use Rattle.cspf_ero.specs.ReplyHead.{BeginsWithHead}
use Rattle.cspf_rows.specs.Records.{Records}
use Rattle.cspf_rows.specs.declared.limits.TheConstants.{MOST_ROWS}
use Rattle.cspf_questions.specs.AskedRows.{asked_id, AreAskedRows}
use Rattle.cspf_questions.specs.QuestionLines.{IsExceptReply, IsQuestionReply}
use Rattle.cspf_questions.specs.declared.asked.AskedRow.{AskedRow}
use Rattle.cspf_questions.specs.declared.asked.AskedRow.TheVariants as asked_row
use Rattle.cspf_questions.specs.declared.kinds.QuestionKinds.{QuestionKinds}
use Rattle.cspf_questions.specs.declared.question.Question.TheVariants as question
use Rattle.cspf_judge.specs.Asks.{AskSpec}
use Rattle.cspf_judge.specs.Findings.{IsRightReply}

-- The line begins with this word, an id and a version. With the word `ask` in its place, it begins
-- as a reply line.
pub record BeginsWithWord (word line : List ℕ) (head : Head) : Type 0 where
  pub behind : List ℕ
  pub whole : line ≡ word ++ behind
  pub begins : BeginsWithHead (codes "ask" ++ behind) head

-- the line begins with the word `except` or the word `pair`, an id and a version
abbrev pub BeginsAsQuestion : List ℕ → Head → Type 0
BeginsAsQuestion line head = BeginsWithWord (codes "except") line head ⊎ BeginsWithWord (codes "pair") line head

-- the line begins with the word `ask`, the word `except` or the word `pair`, an id and a version
abbrev pub BeginsAsAnswer : List ℕ → Head → Type 0
BeginsAsAnswer line head = BeginsWithHead line head ⊎ BeginsAsQuestion line head

-- The line, with a line feed added, is the right answer to the row in the database `d`: the reply
-- line of a request, or the line that answers a question. It names this version.
abbrev pub IsRightAnswer : Database → AskedRow → ℕ → List ℕ → Type 0
IsRightAnswer d (asked_row.Ask q) version line = IsRightReply d q version line
IsRightAnswer d (asked_row.Question question) version line = IsQuestionReply d version question (line ++ 10 ∷ [])

-- What holds of a line that the audit finds to be no right answer. A request for a pair may have
-- several right lines, since several pairs may have the least size. The audit computes one of them,
-- and nothing is stated about a line that differs from it.
abbrev pub IsOtherLine : Database → AskedRow → ℕ → List ℕ → Type 0
IsOtherLine d (asked_row.Ask q) version line = ¬ IsRightReply d q version line
IsOtherLine d (asked_row.Question (question.Except asked)) version line = ¬ IsExceptReply d version asked (line ++ 10 ∷ [])
IsOtherLine d (asked_row.Question (question.Pair asked)) version line = Unit {0}

-- rows that ask, and the lines that answer them
abbrev pub asked_spec : AskSpec AskedRow
asked_spec = record { id = asked_id; begins = BeginsAsAnswer; answers = IsRightAnswer; differs = IsOtherLine }

-- The stream has at most `MOST_ROWS` records, and these rows are read from them. Questions of
-- these kinds are read.
pub record AreAskedRowsOf (kinds : QuestionKinds) (records : Records) (rows : List AskedRow) : Type 0 where
  pub few : length records ≤ MOST_ROWS
  pub asked : AreAskedRows kinds records rows
