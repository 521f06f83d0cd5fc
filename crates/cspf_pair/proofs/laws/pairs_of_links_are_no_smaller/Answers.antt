use Rattle.cspf_pair.proofs.Exchanges.{least_pair_of_links_no_smaller, pairs_of_links_no_smaller}
use Rattle.cspf_pair.proofs.laws.pairs_of_links_are_no_smaller.Goals as goal

pub returns : goal.returns
returns c = record { pair = pairs_of_links_no_smaller; least = least_pair_of_links_no_smaller }
