use Rattle.cspf_addr.proofs.HopLemmas.{hop_texts_read, hop_of-hop_text}
use Rattle.cspf_addr.proofs.hop.hops_are_spelled.Goals as goal

pub returns : goal.returns
returns c = record { read = hop_texts_read; back = hop_of-hop_text }
