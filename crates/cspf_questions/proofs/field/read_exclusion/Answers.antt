use Rattle.cspf_questions.proofs.ExclusionParts.{exclusion_of-empty}
use Rattle.cspf_questions.proofs.field.read_exclusion.Goals as goal

pub returns-in_err-letter : goal.returns-in_err-letter
returns-in_err-letter c =
    rw c.from_residual.ensures (exclusion_of-empty c.args.text.now c.in_err-letter.ensures.cases)
