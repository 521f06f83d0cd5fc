use Rattle.cspf_book_run.proofs.StoppedRuns.{runs_stop_once}
use Rattle.cspf_book_run.proofs.laws.runs_stop_once.Goals as goal

pub returns : goal.returns
returns c = runs_stop_once
