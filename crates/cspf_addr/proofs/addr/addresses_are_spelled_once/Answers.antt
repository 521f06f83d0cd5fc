use Rattle.cspf_addr.proofs.AddressLemmas.{addresses_spelled_once, spelling_injective}
use Rattle.cspf_addr.proofs.addr.addresses_are_spelled_once.Goals as goal

pub returns : goal.returns
returns c = record { read = addresses_spelled_once; one = spelling_injective }
