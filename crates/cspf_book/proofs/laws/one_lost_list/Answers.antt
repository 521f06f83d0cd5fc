use Rattle.cspf_book.proofs.OneLostList.{one_lost_list}
use Rattle.cspf_book.proofs.laws.one_lost_list.Goals as goal

pub returns : goal.returns
returns c = one_lost_list
