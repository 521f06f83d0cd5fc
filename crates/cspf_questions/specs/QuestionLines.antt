-- The lines that answer and refuse questions.
use Rattle.std.specs.Prelude.{◌≡◌, ℕ, List, ◌++◌, codes}
use Rattle.std.specs.Fmt.{decimal}
use Rattle.cspf_model.specs.Database.{Database}
use Rattle.cspf_model.specs.Best.{Answer}
use Rattle.cspf_ero.specs.ReplyLine.{IsReplyAs}
use Rattle.cspf_except.specs.BestExcept.{IsBestExcept}
use Rattle.cspf_pair.specs.Answers.{PairAnswer, IsBestPairAnswer}
use Rattle.cspf_pair.specs.declared.request.PairRequest.{PairRequest}
use Rattle.cspf_disjoint.specs.declared.error.PairError.{PairError}
use Rattle.cspf_disjoint.specs.declared.error.PairError.TheVariants as pair_error
use Rattle.cspf_questions.specs.PairLines.{pair_reply_line}
use Rattle.cspf_questions.specs.QuestionWords.{question_words}
use Rattle.cspf_questions.specs.declared.error.QuestionError.{QuestionError}
use Rattle.cspf_questions.specs.declared.question.ExceptQuestion.{ExceptQuestion}
use Rattle.cspf_questions.specs.declared.question.Question.{Question}
use Rattle.cspf_questions.specs.declared.question.Question.TheVariants as question

-- The line answers the question of an `except` row in the database `d`, whose version it names. It is
-- a reply line that begins with the word `except`, and gives the best answer that avoids the excluded
-- links.
abbrev pub IsExceptReply : Database → ℕ → ExceptQuestion → List ℕ → Type 0
IsExceptReply d version asked line =
    (answer : Answer) × IsBestExcept d asked.request asked.exclusions answer
    × IsReplyAs (codes "except") asked.request.id version answer line

-- The line answers the request for a pair in the database `d`, whose version it names. It gives the
-- best answer: a pair of the least size, or a reason why there is none.
abbrev pub IsPairReply : Database → ℕ → PairRequest → List ℕ → Type 0
IsPairReply d version asked line =
    (answer : PairAnswer) × IsBestPairAnswer d asked.request asked.kind answer
    × (line ≡ pair_reply_line asked.request.id version answer)

-- the line answers the question in the database `d`, whose version it names
abbrev pub IsQuestionReply : Database → ℕ → Question → List ℕ → Type 0
IsQuestionReply d version (question.Except asked) line = IsExceptReply d version asked line
IsQuestionReply d version (question.Pair asked) line = IsPairReply d version asked line

-- the id of the question, which its answer repeats
abbrev pub question_id : Question → ℕ
question_id (question.Except asked) = asked.request.id
question_id (question.Pair asked) = asked.request.id

-- The answer to the question may fail for this reason: for an `except` row only if memory is refused.
abbrev pub MayFail : Question → PairError → Type 0
MayFail (question.Except asked) why = why ≡ pair_error.Memory
MayFail (question.Pair asked) why = Unit {0}

-- the line of a refused row: the row's number, why the row is refused, and a line feed
abbrev pub refused_question_line : ℕ → QuestionError → List ℕ
refused_question_line place error = codes "row " ++ decimal place ++ codes " refused: " ++ question_words error ++ codes "\n"
