use Rattle.cspf_model.proofs.Routes.WorkedExamples.{enough, too_little}
use Rattle.cspf_model.proofs.laws.worked_admission.Goals as goal

pub returns : goal.returns
returns c = record { enough = enough; too_little = too_little }
