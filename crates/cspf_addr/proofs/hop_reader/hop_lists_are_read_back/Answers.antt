use Rattle.cspf_addr.proofs.HopPartLemmas.{hops_of-hops_text}
use Rattle.cspf_addr.proofs.hop_reader.hop_lists_are_read_back.Goals as goal

pub returns : goal.returns
returns c = hops_of-hops_text
