-- How outcomes of `best` correspond to answers of the definitions.
use Rattle.cspf_model.specs.Best.{Answer, unknown_from, unknown_to, no_route, route}
use Rattle.cspf_model.specs.declared.outcome.Outcome.{Outcome}
use Rattle.cspf_model.specs.declared.outcome.Outcome.TheVariants.{Route, NoRoute, UnknownFrom, UnknownTo}

-- The `Answer` that corresponds to an outcome of `best`.
abbrev pub answer_of : Outcome → Answer
answer_of (Route links) = route links
answer_of NoRoute = no_route
answer_of UnknownFrom = unknown_from
answer_of UnknownTo = unknown_to
