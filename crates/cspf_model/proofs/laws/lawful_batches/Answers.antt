use Rattle.cspf_model.proofs.Batches.LawfulBatches.{one_more, first_batches}
use Rattle.cspf_model.proofs.laws.lawful_batches.Goals as goal

pub returns : goal.returns
returns c = record { more = one_more; first = first_batches }
