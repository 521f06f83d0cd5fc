use Rattle.cspf_model.proofs.Routes.WorkedExamples.{put_stands, removal_stands}
use Rattle.cspf_model.proofs.laws.worked_changes.Goals as goal

pub returns : goal.returns
returns c = record { put = put_stands; removed = removal_stands }
