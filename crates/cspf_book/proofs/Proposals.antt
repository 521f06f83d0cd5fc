-- What a taker's answers say of the placing, the release or the batch that it was given.
use Rattle.std.proofs.Common.{◌≡◌, ℕ, ◌+◌, true, Some, None, List, [], ◌∷◌, ◌++◌, refl, ap}
use Rattle.std.proofs.lemmas.List.{length-map}
use Rattle.cspf_model.specs.declared.request.Request.{Request}
use Rattle.cspf_model.specs.Database.{Database}
use Rattle.cspf_model.specs.Numbered.{NumberedChanges}
use Rattle.cspf_model.specs.Best.{Answer, unknown_from, unknown_to, no_route, route, IsBestAnswer}
use Rattle.cspf_book.specs.declared.path.Passed.{Passed}
use Rattle.cspf_book.specs.declared.placement.Placement.{Placement}
use Rattle.cspf_book.specs.declared.error.PlaceError.{PlaceError}
use Rattle.cspf_book.specs.declared.error.PlaceError.TheVariants.{Memory, Full, TooManyLinks, Twice, TooLong}
use Rattle.cspf_book.specs.declared.error.ReleaseError.{ReleaseError}
use Rattle.cspf_book.specs.declared.error.ReleaseError.TheVariants as release_error
use Rattle.cspf_book.specs.declared.error.VersionError.{VersionError}
use Rattle.cspf_book.specs.declared.error.VersionError.TheVariants.{Book, Taker}
use Rattle.cspf_book.specs.declared.limits.TheConstants.{MOST_ROUTES_LINKS}
use Rattle.cspf_book.specs.Placements.{passed_of, id_of, has_id, others}
use Rattle.cspf_book.specs.Effective.{effective}
use Rattle.cspf_book.specs.Alike.{IsWithinLimits}
use Rattle.cspf_book.specs.BookState.{BookState, HasRoomFor, links_placed}
use Rattle.cspf_book.specs.PlacedRoutes.{IsOwnRoute, HaveOwnRoutes, HaveDistinctIds}
use Rattle.cspf_book.specs.Leading.{moved_batch, route_of, IsMoveBatch}
use Rattle.cspf_book.specs.Takings.{IsPlacingTaken, IsUnplaced, IsUnreleased}
use Rattle.cspf_book.specs.Offers.{IsOffered}
use Rattle.cspf_book.specs.Giving.{IsPlacingNotGiven, IsReleaseNotGiven, IsNotProposed}
use Rattle.cspf_book.proofs.MovedRoutes.{placing_leads, releasing_leads}
use Rattle.cspf_book.proofs.Placing.{offered_of, answer_placed, place_error}
use Rattle.cspf_book.proofs.StateParts.{state_of}
use Rattle.cspf_book.proofs.TwiceUsed.{once-path}

-- If the batch of an offered placement isn't taken, no placement is proposed.
pub not_proposed : {S E : Type 0} (refuses : S → NumberedChanges → E → S → Type 0) (d : Database) (q : Request) (hold room : ℕ) (base : Database) (placements : List Placement) (number : ℕ) (old : List Passed) (before after : S) (p : Placement) (a : Answer)
    → IsBestAnswer d q a → IsOffered q hold room a (Some p) → (why : VersionError PlaceError E)
    → IsPlacingNotGiven refuses before (moved_batch base (placements ++ p ∷ []) number old p.route) why after
    → IsNotProposed refuses d q hold room base placements number old before why after
not_proposed refuses d q hold room base placements number old before after p unknown_from best off why not = absurd off
not_proposed refuses d q hold room base placements number old before after p unknown_to best off why not = absurd off
not_proposed refuses d q hold room base placements number old before after p no_route best off why not = absurd off
not_proposed refuses d q hold room base placements number old before after p (route walk) best off (Book Memory) not = (tt, not)
not_proposed refuses d q hold room base placements number old before after p (route walk) best off (Book Full) not = absurd not
not_proposed refuses d q hold room base placements number old before after p (route walk) best off (Book TooManyLinks) not = absurd not
not_proposed refuses d q hold room base placements number old before after p (route walk) best off (Book Twice) not = absurd not
not_proposed refuses d q hold room base placements number old before after p (route walk) best off (Book TooLong) not = absurd not
not_proposed refuses d q hold room base placements number old before after p (route walk) best off (Taker why) not = (walk, p, best, off, not)

-- An offered placement's route uses no link twice, and isn't too long.
pub own_route-offered : (q : Request) (hold room : ℕ) (a : Answer) (p : Placement) → IsOffered q hold room a (Some p) → IsOwnRoute p.route
own_route-offered q hold room unknown_from p off = absurd off
own_route-offered q hold room unknown_to p off = absurd off
own_route-offered q hold room no_route p off = absurd off
own_route-offered q hold room (route walk) p (own, its, short, few) = record {
  once = rw its.route (coe 1 0 (i. once-path walk i) own);
  short = rw (its.route, length-map walk passed_of) short;
}

-- An offered placement has the id of its request.
pub id-offered : (q : Request) (hold room : ℕ) (a : Answer) (p : Placement) → IsOffered q hold room a (Some p) → id_of p ≡ q.id
id-offered q hold room a p offered = ap (λ (r : Request). r.id) (offered_of q hold room a p offered).0

-- If a placement is offered, the answer is a route, and the taker has taken the batch of the
-- placing.
pub placing_taken : {S : Type 0} (places : S → NumberedChanges → Answer → S → Type 0) (q : Request) (hold room : ℕ) (s t : BookState) (before after : S) (b : NumberedChanges) (p : Placement) (a : Answer)
    → IsOffered q hold room a (Some p) → IsMoveBatch s q.id b t → places before b a after → IsPlacingTaken places s q.id before a t after
placing_taken places q hold room s t before after b p unknown_from off moves taken = absurd off
placing_taken places q hold room s t before after b p unknown_to off moves taken = absurd off
placing_taken places q hold room s t before after b p no_route off moves taken = absurd off
placing_taken places q hold room s t before after b p (route walk) off moves taken = (b, moves, taken)

-- If no placement is offered, the answer is no route, and the taker is unchanged.
pub nothing_taken : {S : Type 0} (places : S → NumberedChanges → Answer → S → Type 0) (q : Request) (hold room : ℕ) (s t : BookState) (before after : S) (a : Answer)
    → IsOffered q hold room a None → after ≡ before → IsPlacingTaken places s q.id before a t after
nothing_taken places q hold room s t before after unknown_from off same = same
nothing_taken places q hold room s t before after unknown_to off same = same
nothing_taken places q hold room s t before after no_route off same = same
nothing_taken places q hold room s t before after (route walk) off same = absurd off

-- In this module, a request isn't placed in a book, or a placement isn't released.
module _ {S E : Type 0} (refuses : S → NumberedChanges → E → S → Type 0) (base : Database) (version : ℕ) (placements : List Placement) (within : IsWithinLimits base) (own : HaveOwnRoutes placements) (ids : HaveDistinctIds placements) (before after : S) where
  pub unplaced : (q : Request) (hold room : ℕ) → HasRoomFor (state_of base version placements) q.id → links_placed (others q.id placements) + room ≡ MOST_ROUTES_LINKS → (why : VersionError PlaceError E)
      → IsNotProposed refuses (effective base (others q.id placements)) q hold room base (others q.id placements) (version + 1) (route_of q.id placements) before why after
      → IsUnplaced refuses (state_of base version placements) q hold before why after
  unplaced q hold room few left (Book why) (refused, same) = (place_error (state_of base version placements) q room why few left refused, same)
  unplaced q hold room few left (Taker why) (walk, p, best, offered, refused) =
      let t = state_of base (version + 1) (others q.id placements ++ p ∷ []) in record {
        room = few;
        walk = walk;
        best = best;
        t = t;
        placed = answer_placed (state_of base version placements) t q hold room (route walk) p offered left refl refl refl;
        batch = moved_batch base (others q.id placements ++ p ∷ []) (version + 1) (route_of q.id placements) p.route;
        moves = placing_leads base version placements within own ids q.id p (id-offered q hold room (route walk) p offered) (own_route-offered q hold room (route walk) p offered);
        refused = refused;
      }

  pub unreleased : (id : ℕ) → has_id id placements ≡ true → (why : VersionError ReleaseError E)
      → IsReleaseNotGiven refuses before (moved_batch base (others id placements) (version + 1) (route_of id placements) []) why after
      → IsUnreleased refuses (state_of base version placements) id before why after
  unreleased id there (Book release_error.Memory) not = (there, not)
  unreleased id there (Book release_error.Absent) not = absurd not
  unreleased id there (Taker why) not =
      (there, moved_batch base (others id placements) (version + 1) (route_of id placements) [], releasing_leads base version placements within own ids id, not)
