use Rattle.cspf_book.proofs.Restored.{all_restored}
use Rattle.cspf_book.proofs.SteppedPaths.{paths_from-steps}
use Rattle.cspf_book.proofs.laws.compact_is_the_book.Goals as goal

pub returns : goal.returns
returns c = record { restored = all_restored; routes = paths_from-steps }
