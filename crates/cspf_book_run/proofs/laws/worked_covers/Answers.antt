use Rattle.cspf_book_run.proofs.WrongRunProofs.{weaker_laws_follow, excuse_ends, other_link_is_no_excuse, other_priority_is_no_excuse, untrue_over_is_refused}
use Rattle.cspf_book_run.proofs.laws.worked_covers.Goals as goal

pub returns-clause-weaker : goal.returns-clause-weaker
returns-clause-weaker c = weaker_laws_follow

pub returns-clause-ended : goal.returns-clause-ended
returns-clause-ended c = excuse_ends

pub returns-clause-link : goal.returns-clause-link
returns-clause-link c = other_link_is_no_excuse c.addresses_are_spelled_once.ensures.one

pub returns-clause-priority : goal.returns-clause-priority
returns-clause-priority c = other_priority_is_no_excuse c.addresses_are_spelled_once.ensures.one

pub returns-clause-untrue : goal.returns-clause-untrue
returns-clause-untrue c = untrue_over_is_refused
