use Rattle.cspf_model.proofs.Routes.WorkedExamples.{as_numbers, fewer_first, cheaper_first}
use Rattle.cspf_model.proofs.laws.worked_orders.Goals as goal

pub returns : goal.returns
returns c = record { numbers = as_numbers; fewer = fewer_first; cheaper = cheaper_first }
