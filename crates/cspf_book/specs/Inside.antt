-- Private: how a book stores its state.
use Rattle.std.specs.Prelude.{◌≡◌, ◌≤◌, ◌*◌, ◌^◌, ℕ, length}
use Rattle.cspf_book.specs.declared.limits.TheConstants.{MOST_PLACEMENTS, MOST_ROUTES_LINKS}
use Rattle.cspf_book.specs.declared.book.Book.TheInside.{Inside}
use Rattle.cspf_book.specs.Placements.{counted}
use Rattle.cspf_book.specs.PlacedRoutes.{HaveDistinctIds, HaveOwnRoutes, ConnectTheirEnds}
use Rattle.cspf_book.specs.Kept.{IsCountOf}
use Rattle.cspf_book.specs.ById.{AreIdsOf}
use Rattle.cspf_model.specs.Database.{Key}
use Rattle.cspf_book.specs.Effective.{effective}
use Rattle.cspf_book.specs.BookState.{links_placed}

-- The invariant of a book. The effective table, the counted sums, and the versions by ids are
-- computed from the placements. The effective table is the base with the bandwidth that the
-- placements leave on its links. Each sum is at most 2 ^ 64 times the version. No two placements
-- share an id. No route uses a link twice, and each leads from its request's head-end to the
-- tail-end. The placements and the links of their routes are within the limits. The batch `one` has
-- one change.
pub record IsBook (a : Inside) : Type 0 where
  pub current : a.held.effective ≡ effective a.base a.placements.items
  pub sums : IsCountOf a.held.counts a.placements.items
  pub small : (k : Key) (priority : ℕ) → counted a.placements.items k priority ≤ a.version * 2 ^ 64
  pub ids : AreIdsOf a.held.ids a.version a.placements.items
  pub own_ids : HaveDistinctIds a.placements.items
  pub routes : HaveOwnRoutes a.placements.items
  pub ends : ConnectTheirEnds a.placements.items
  pub few : length a.placements.items ≤ MOST_PLACEMENTS
  pub links : a.held.links ≡ links_placed a.placements.items
  pub few_links : a.held.links ≤ MOST_ROUTES_LINKS
  pub one : length a.held.one.changes ≡ 1
