use Rattle.cspf_book.proofs.Covered.{placing_covered, releasing_covered}
use Rattle.cspf_book.proofs.MadeOver.{restoring_covered}
use Rattle.cspf_book.proofs.OverLists.{absorbing_covered}
use Rattle.cspf_book.proofs.laws.covered_links.Goals as goal

pub returns-clause-placing : goal.returns-clause-placing
returns-clause-placing c = placing_covered

pub returns-clause-releasing : goal.returns-clause-releasing
returns-clause-releasing c = releasing_covered

pub returns-clause-absorbing : goal.returns-clause-absorbing
returns-clause-absorbing c = absorbing_covered

pub returns-clause-restoring : goal.returns-clause-restoring
returns-clause-restoring c = restoring_covered
