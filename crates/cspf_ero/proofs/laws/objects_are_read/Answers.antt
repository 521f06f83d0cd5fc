use Rattle.cspf_ero.proofs.Spelling.{objects_read, one_hop_list}
use Rattle.cspf_ero.proofs.laws.objects_are_read.Goals as goal

pub returns-clause-read : goal.returns-clause-read
returns-clause-read c = objects_read

pub returns-clause-one : goal.returns-clause-one
returns-clause-one c = one_hop_list
