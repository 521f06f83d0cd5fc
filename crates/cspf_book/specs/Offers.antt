-- Private: the placement that is offered for an answer, and why a route isn't placed.
use Rattle.std.specs.Prelude.{◌≤◌, ◌<◌, ℕ, Option, Some, None, List, length}
use Rattle.cspf_model.specs.declared.link.Link.{Link}
use Rattle.cspf_model.specs.declared.request.Request.{Request}
use Rattle.cspf_model.specs.Database.{Database, HaveOwnKeys}
use Rattle.cspf_model.specs.Best.{Answer, unknown_from, unknown_to, no_route, route, IsBestAnswer}
use Rattle.cspf_book.specs.declared.limits.TheConstants.{MOST_PLACED_LINKS}
use Rattle.cspf_book.specs.declared.error.PlaceError.{PlaceError}
use Rattle.cspf_book.specs.declared.error.PlaceError.TheVariants.{Memory, Full, TooManyLinks, Twice, TooLong}
use Rattle.cspf_book.specs.declared.placement.Placement.{Placement}
use Rattle.cspf_book.specs.BookState.{IsPlacementOf}

-- For an answer that is a route, a placement along this route is offered. The route uses no link
-- twice, and it has at most `MOST_PLACED_LINKS` links and at most `room` links. For any other answer,
-- no placement is offered.
abbrev pub IsOffered : Request → ℕ → ℕ → Answer → Option Placement → Type 0
IsOffered q hold room unknown_from (Some p) = ⊥
IsOffered q hold room unknown_from None = Unit {0}
IsOffered q hold room unknown_to (Some p) = ⊥
IsOffered q hold room unknown_to None = Unit {0}
IsOffered q hold room no_route (Some p) = ⊥
IsOffered q hold room no_route None = Unit {0}
IsOffered q hold room (route walk) None = ⊥
IsOffered q hold room (route walk) (Some p) =
    HaveOwnKeys walk × IsPlacementOf q hold walk p × (length walk ≤ MOST_PLACED_LINKS) × (length walk ≤ room)

-- Why no request is placed along this walk, if the links that are left of the limit are `room`.
-- Memory may be refused for any walk.
abbrev pub IsWalkRefused : ℕ → List Link → PlaceError → Type 0
IsWalkRefused room walk Memory = Unit {0}
IsWalkRefused room walk Full = ⊥
IsWalkRefused room walk Twice = ¬ HaveOwnKeys walk
IsWalkRefused room walk TooLong = HaveOwnKeys walk × (MOST_PLACED_LINKS < length walk)
IsWalkRefused room walk TooManyLinks = HaveOwnKeys walk × (length walk ≤ MOST_PLACED_LINKS) × (room < length walk)

-- why no placement is offered for an answer that is a walk; other answers aren't refused
abbrev pub IsAnswerRefused : ℕ → Answer → PlaceError → Type 0
IsAnswerRefused room unknown_from why = ⊥
IsAnswerRefused room unknown_to why = ⊥
IsAnswerRefused room no_route why = ⊥
IsAnswerRefused room (route walk) why = IsWalkRefused room walk why

-- Why the search for a placement of a request ends with an error. Memory is refused, or the best
-- answer is a walk that uses a link twice, has more than `MOST_PLACED_LINKS` links, or has more than
-- `room` links.
abbrev pub IsOfferRefused : Database → Request → ℕ → PlaceError → Type 0
IsOfferRefused d q room Memory = Unit {0}
IsOfferRefused d q room Full = ⊥
IsOfferRefused d q room Twice =
    (walk : List Link) × IsBestAnswer d q (route walk) × ¬ HaveOwnKeys walk
IsOfferRefused d q room TooLong =
    (walk : List Link) × IsBestAnswer d q (route walk) × HaveOwnKeys walk × (MOST_PLACED_LINKS < length walk)
IsOfferRefused d q room TooManyLinks =
    (walk : List Link) × IsBestAnswer d q (route walk) × HaveOwnKeys walk × (length walk ≤ MOST_PLACED_LINKS) × (room < length walk)
