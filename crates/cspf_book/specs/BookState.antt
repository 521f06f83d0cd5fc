-- The state of a book, and how placing a request changes it.
use Rattle.std.specs.Prelude.{◌≡◌, ◌+◌, ◌<◌, ◌≤◌, ℕ, List, [], ◌∷◌, ◌++◌, length, map, sum_by, refl}
use Rattle.std.specs.Coded.{Coded, code_by, coded×, coded_ℕ, coded_list}
use Rattle.cspf_model.specs.declared.link.Link.{Link}
use Rattle.cspf_model.specs.declared.request.Request.{Request}
use Rattle.cspf_model.specs.Database.{Database, HaveOwnKeys}
use Rattle.cspf_model.specs.DatabaseCode.{database_code}
use Rattle.cspf_model.specs.Best.{Answer, unknown_from, unknown_to, no_route, route, IsBestAnswer}
use Rattle.cspf_book.specs.declared.limits.TheConstants.{MOST_PLACED_LINKS, MOST_PLACEMENTS, MOST_ROUTES_LINKS}
use Rattle.cspf_book.specs.declared.error.PlaceError.{PlaceError}
use Rattle.cspf_book.specs.declared.error.PlaceError.TheVariants.{Memory, Full, TooManyLinks, Twice, TooLong}
use Rattle.cspf_book.specs.declared.placement.Placement.{Placement}
use Rattle.cspf_book.specs.contracts.placement.Placement.{the_row}
use Rattle.cspf_book.specs.Placements.{passed_of, others}
use Rattle.cspf_book.specs.Effective.{effective}

-- The state of a book: the base, the version, and the placements in the order in which they were
-- placed or restored. The version is the number of accepted base batches, placements, releases and
-- restored placements, taken together.
pub record BookState : Type 0 where
  pub base : Database
  pub version : ℕ
  pub placements : List Placement

-- A book's state is stored as a tuple of its parts.
abbrev pub state_code : Coded BookState
state_code =
    code_by (Database × (ℕ × List Placement))
    (coded× database_code (coded× coded_ℕ (coded_list the_row.coded)))
    (λ s. (s.base, (s.version, s.placements))) (λ p. record { base = p.0; version = p.1.0; placements = p.1.1 }) (λ _. refl)

-- The effective database in which a request with this id is placed. Its links are the base's links
-- with the bandwidth that the placements with other ids leave.
abbrev pub effective_beside : BookState → ℕ → Database
effective_beside s id = effective s.base (others id s.placements)

-- `p` is the placement of this request along this walk, with this holding priority.
pub record IsPlacementOf (q : Request) (priority : ℕ) (walk : List Link) (p : Placement) : Type 0 where
  pub request : p.request ≡ q
  pub hold : p.hold ≡ priority
  pub route : p.route ≡ map passed_of walk

-- how many links the routes of the placements have together
abbrev pub links_placed : List Placement → ℕ
links_placed placements = sum_by (λ p. length p.route) placements

-- The book has fewer than `MOST_PLACEMENTS` placements with other ids.
abbrev pub HasRoomFor : BookState → ℕ → Type 0
HasRoomFor s id = length (others id s.placements) < MOST_PLACEMENTS

-- The request is placed along this walk. Its placement replaces the earlier placement with this id, if any.
pub record IsPlacedAlong (old : BookState) (q : Request) (hold : ℕ) (walk : List Link) (new : BookState)
    : Type 0 where
  pub own_keys : HaveOwnKeys walk
  pub short : length walk ≤ MOST_PLACED_LINKS
  pub few_links : links_placed (others q.id old.placements) + length walk ≤ MOST_ROUTES_LINKS
  pub placement : Placement
  pub is_its : IsPlacementOf q hold walk placement
  pub placements : new.placements ≡ others q.id old.placements ++ placement ∷ []
  pub base : new.base ≡ old.base
  pub version : new.version ≡ old.version + 1

-- how an answer changes the book: if the answer is a route, the request is placed along it, and any
-- other answer changes nothing
abbrev pub IsAnswerPlaced : BookState → Request → ℕ → Answer → BookState → Type 0
IsAnswerPlaced old q hold unknown_from new = new ≡ old
IsAnswerPlaced old q hold unknown_to new = new ≡ old
IsAnswerPlaced old q hold no_route new = new ≡ old
IsAnswerPlaced old q hold (route walk) new = IsPlacedAlong old q hold walk new

-- Why a request isn't placed. `Full`: the book already has `MOST_PLACEMENTS` placements with other
-- ids. The other errors suppose that the book has fewer such placements (`HasRoomFor`). `Memory`:
-- memory is refused. `Twice`: the best answer is a route that uses a link twice. `TooLong`: the best
-- answer is a route that uses no link twice, and has more than `MOST_PLACED_LINKS` links.
-- `TooManyLinks`: the best answer is a route that uses no link twice and isn't too long. With this
-- route, the routes of all placements would have more than `MOST_ROUTES_LINKS` links.
abbrev pub IsPlaceError : BookState → Request → PlaceError → Type 0
IsPlaceError s q Memory = HasRoomFor s q.id
IsPlaceError s q Full = MOST_PLACEMENTS ≤ length (others q.id s.placements)
IsPlaceError s q Twice =
    HasRoomFor s q.id
    × (walk : List Link) × IsBestAnswer (effective_beside s q.id) q (route walk) × ¬ HaveOwnKeys walk
IsPlaceError s q TooLong =
    HasRoomFor s q.id
    × (walk : List Link) × IsBestAnswer (effective_beside s q.id) q (route walk) × HaveOwnKeys walk
    × (MOST_PLACED_LINKS < length walk)
IsPlaceError s q TooManyLinks =
    HasRoomFor s q.id
    × (walk : List Link) × IsBestAnswer (effective_beside s q.id) q (route walk) × HaveOwnKeys walk
    × (length walk ≤ MOST_PLACED_LINKS) × (MOST_ROUTES_LINKS < links_placed (others q.id s.placements) + length walk)
