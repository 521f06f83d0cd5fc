use Rattle.cspf_exclusions.proofs.listing.names_router.Goals as goal

pub returns-in-Router : goal.returns-in-Router
returns-in-Router c = ((λ yes. (c.in-Router.is, c.owns.ensures.0 yes)), λ named. c.owns.ensures.1 named.1)
