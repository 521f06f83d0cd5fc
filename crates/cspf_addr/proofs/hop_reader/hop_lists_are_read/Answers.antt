use Rattle.cspf_addr.proofs.HopPartLemmas.{hop_lists_read, bad_hops_named, too_many_refused}
use Rattle.cspf_addr.proofs.hop_reader.hop_lists_are_read.Goals as goal

pub returns : goal.returns
returns c = record { read = hop_lists_read; bad = bad_hops_named; many = too_many_refused }
