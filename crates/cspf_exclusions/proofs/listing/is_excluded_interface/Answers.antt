use Rattle.cspf_exclusions.specs.Exclusions.{NamesInterface}
use Rattle.cspf_exclusions.proofs.ListedItems.{tested}
use Rattle.cspf_exclusions.proofs.listing.is_excluded_interface.Goals as goal

pub returns : goal.returns
returns c = tested (λ part. NamesInterface part c.args.address) _ _ c.any_names_interface.ensures.yes c.any_names_interface.ensures.no
