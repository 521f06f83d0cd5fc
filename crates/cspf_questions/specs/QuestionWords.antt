-- The words that name the reason for which the row of a question is refused.
use Rattle.std.specs.Prelude.{ℕ, List, ◌++◌, codes}
use Rattle.std.specs.Fmt.{decimal}
use Rattle.cspf_rows.specs.Words.{words}
use Rattle.cspf_questions.specs.declared.error.ExceptFault.{ExceptFault}
use Rattle.cspf_questions.specs.declared.error.ExceptFault.TheVariants as fault
use Rattle.cspf_questions.specs.declared.error.QuestionError.{QuestionError}
use Rattle.cspf_questions.specs.declared.error.QuestionError.TheVariants as error

-- The words for exclusions that a field doesn't spell: the number of the first part that isn't an
-- exclusion, or `count` if there are too many parts.
abbrev pub except_words : ExceptFault → List ℕ
except_words (fault.Part at) = codes "except " ++ decimal at
except_words fault.Count = codes "except count"

-- the words for each reason why the row of a question is refused
abbrev pub question_words : QuestionError → List ℕ
question_words (error.Row why) = words why
question_words (error.Except why) = except_words why
question_words error.PairKind = codes "kind-of-pair"
