-- How placing a request changes a book.
use Rattle.std.proofs.Common.{◌≡◌, ℕ, ◌+◌, ◌-◌, ◌*◌, ◌^◌, ◌<◌, ◌≤◌, Option, Some, None, List, [], ◌∷◌, ◌++◌, length, remove, refl, ap, subst, ◌∙◌, arith}
use Rattle.std.proofs.lemmas.List.{length-map}
use Rattle.cspf_model.specs.declared.limits.TheConstants.{MOST_VERSIONS}
use Rattle.cspf_model.specs.declared.request.Request.{Request}
use Rattle.cspf_model.specs.Best.{Answer, unknown_from, unknown_to, no_route, route}
use Rattle.cspf_book.specs.declared.limits.TheConstants.{MOST_PLACEMENTS, MOST_ROUTES_LINKS}
use Rattle.cspf_book.specs.declared.error.PlaceError.{PlaceError}
use Rattle.cspf_book.specs.declared.error.PlaceError.TheVariants.{Memory, Full, TooManyLinks, Twice, TooLong}
use Rattle.cspf_book.specs.declared.placement.Placement.{Placement}
use Rattle.cspf_book.specs.Placements.{passed_of, others, counted, index_of_id}
use Rattle.cspf_model.specs.Database.{Database, Key}
use Rattle.cspf_book.specs.declared.counts.Counts.{Counts}
use Rattle.cspf_book.specs.Effective.{effective}
use Rattle.cspf_book.specs.PlacedRoutes.{HaveDistinctIds}
use Rattle.cspf_book.specs.Kept.{IsCountOf, AreSmall, HasSameSums}
use Rattle.cspf_book.specs.BookState.{BookState, effective_beside, IsAnswerPlaced, IsPlaceError, HasRoomFor, links_placed}
use Rattle.cspf_book.specs.Offers.{IsOffered, IsOfferRefused}
use Rattle.cspf_book.proofs.Covered.{counted-others}
use Rattle.cspf_book.proofs.Ids.{index_of-le, remove-index_of, few_kept}
use Rattle.cspf_book.proofs.KeptSums.{sums_small}
use Rattle.cspf_book.proofs.StateParts.{state_of}

-- A placement that is offered for an answer to a request is a placement of this request. Its route
-- has at most `room` links.
pub offered_of : (q : Request) (hold room : ℕ) (a : Answer) (p : Placement) → IsOffered q hold room a (Some p)
    → (p.request ≡ q) × (length p.route ≤ room)
offered_of q hold room unknown_from p off = absurd off
offered_of q hold room unknown_to p off = absurd off
offered_of q hold room no_route p off = absurd off
offered_of q hold room (route walk) p (own, its, short, few) = (its.request, rw (its.route, length-map walk passed_of) few)

-- Let a placement be offered for an answer. If it replaces the placement with the same id in the
-- book, the book changes as `IsAnswerPlaced` states.
pub answer_placed : (old new : BookState) (q : Request) (hold room : ℕ) (a : Answer) (p : Placement) → IsOffered q hold room a (Some p)
    → links_placed (others q.id old.placements) + room ≡ MOST_ROUTES_LINKS
    → new.placements ≡ others q.id old.placements ++ p ∷ [] → new.base ≡ old.base → new.version ≡ old.version + 1
    → IsAnswerPlaced old q hold a new
answer_placed old new q hold room unknown_from p off left placements base version = absurd off
answer_placed old new q hold room unknown_to p off left placements base version = absurd off
answer_placed old new q hold room no_route p off left placements base version = absurd off
answer_placed old new q hold room (route walk) p (own, its, short, few) left placements base version = record {
  own_keys = own;
  short = short;
  few_links = omega (arith, left, few);
  placement = p;
  is_its = its;
  placements = placements;
  base = base;
  version = version;
}

-- For an answer with its offer there is a book that the answer makes (`IsAnswerPlaced`).
pub may_be_placed : (old : BookState) (q : Request) (hold room : ℕ) (a : Answer) (o : Option Placement) → IsOffered q hold room a o
    → links_placed (others q.id old.placements) + room ≡ MOST_ROUTES_LINKS → (new : BookState) × IsAnswerPlaced old q hold a new
may_be_placed old q hold room unknown_from None off left = (old, refl)
may_be_placed old q hold room unknown_from (Some p) off left = absurd off
may_be_placed old q hold room unknown_to None off left = (old, refl)
may_be_placed old q hold room unknown_to (Some p) off left = absurd off
may_be_placed old q hold room no_route None off left = (old, refl)
may_be_placed old q hold room no_route (Some p) off left = absurd off
may_be_placed old q hold room (route walk) None off left = absurd off
may_be_placed old q hold room (route walk) (Some p) off left =
    let new = state_of old.base (old.version + 1) (others q.id old.placements ++ p ∷ []) in
    (new, answer_placed old new q hold room (route walk) p off left refl refl refl)

-- If no placement is offered for a request because of `why`, this is also the error with which the
-- book doesn't place the request (`IsPlaceError`).
pub place_error : (s : BookState) (q : Request) (room : ℕ) (why : PlaceError)
    → HasRoomFor s q.id → links_placed (others q.id s.placements) + room ≡ MOST_ROUTES_LINKS
    → IsOfferRefused (effective_beside s q.id) q room why → IsPlaceError s q why
place_error s q room Memory few left refused = few
place_error s q room Full few left refused = absurd refused
place_error s q room Twice few left (walk, best, own) = (few, walk, best, own)
place_error s q room TooLong few left (walk, best, own, long) = (few, walk, best, own, long)
place_error s q room TooManyLinks few left (walk, best, own, short, many) = (few, walk, best, own, short, omega (arith, left, many))

-- If a book isn't full of placements with other ids, there is room for a placement with this id.
pub room_for : (ps : List Placement) (id at : ℕ) → at ≡ index_of_id id ps → HaveDistinctIds ps → length ps ≤ MOST_PLACEMENTS → (at ≡ MOST_PLACEMENTS → ⊥)
    → length (others id ps) < MOST_PLACEMENTS
room_for ps id at is own few apart =
    let kept = few_kept ps at MOST_PLACEMENTS (omega (arith, is, index_of-le id ps)) few apart in
    omega (arith, kept, ap length (ap (remove ps) is ∙ remove-index_of id ps own))

-- Let `items` be the placements of a book. If the placement at the index of an id is removed, the
-- placements with other ids are left.
pub others_left : (ps items : List Placement) (id at : ℕ) → items ≡ ps → at ≡ index_of_id id ps → HaveDistinctIds ps → remove items at ≡ others id ps
others_left ps items id at all is own = ap (λ qs. remove qs at) all ∙ ap (remove ps) is ∙ remove-index_of id ps own

-- Let the routes of `items` have `links` links together, without the placement at index `at`. Then
-- the routes of the placements with other ids have as many, and as many may be added as are left of
-- the limit.
pub links_left : (ps items : List Placement) (id at : ℕ) {links before all : ℕ} → links ≡ links_placed (remove items at) → items ≡ ps → remove ps at ≡ others id ps
    → links ≤ before → before ≡ all → all ≤ MOST_ROUTES_LINKS
    → links_placed (others id ps) + (MOST_ROUTES_LINKS - links) ≡ MOST_ROUTES_LINKS
links_left ps items id at is same gone fewer before few =
    omega (arith, is, ap (λ qs. links_placed (remove qs at)) same, ap links_placed gone, fewer, before, few)

-- In the two lemmas that follow, the placement with an id is set aside.
pub effective_aside : (base d : Database) (ps items : List Placement) (id at : ℕ) → items ≡ ps → at ≡ index_of_id id ps → HaveDistinctIds ps
    → d ≡ effective base (remove items at) → d ≡ effective base (others id ps)
effective_aside base d ps items id at all is own current = current ∙ ap (effective base) (others_left ps items id at all is own)

pub small_aside : (c d : Counts) (ps items : List Placement) (id at version : ℕ) → items ≡ ps → at ≡ index_of_id id ps → HaveDistinctIds ps
    → HasSameSums c d → IsCountOf c (remove items at) → ((k : Key) (p : ℕ) → counted ps k p ≤ version * 2 ^ 64) → version < MOST_VERSIONS → AreSmall d
small_aside c d ps items id at version all is own sums count small few =
    sums_small c d ps (others id ps) version sums (subst (IsCountOf c) (others_left ps items id at all is own) count) (counted-others id ps) small few
