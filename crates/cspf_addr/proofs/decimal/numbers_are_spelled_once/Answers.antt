use Rattle.cspf_addr.proofs.NumberLemmas.{spelled_once}
use Rattle.cspf_addr.proofs.decimal.numbers_are_spelled_once.Goals as goal

pub returns : goal.returns
returns c = spelled_once
