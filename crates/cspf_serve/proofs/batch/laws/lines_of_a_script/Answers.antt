use Rattle.cspf_serve.proofs.ScriptOfBatches.{lines_are_a_script}
use Rattle.cspf_serve.proofs.batch.laws.lines_of_a_script.Goals as goal

pub returns : goal.returns
returns c = lines_are_a_script c.journals_are_one.ensures c.absorbing.ensures
