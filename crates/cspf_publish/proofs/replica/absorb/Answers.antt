use Rattle.cspf_publish.proofs.FitTest.{is_database_with}
use Rattle.cspf_publish.proofs.replica.absorb.Goals as goal

pub returns : goal.returns
returns c = is_database_with _ _ _ c.absorb.ensures.fitting c.absorb.ensures.unfit
