-- Private: the rows of a table, which are links, and the table's other columns. `database_of` makes
-- a database from the rows.
use Rattle.std.specs.Prelude.{◌≡◌, ◌+◌, ◌<◌, ◌≤◌, ℕ, IsTrue, List, All, Contains, filter, length, map, nat_eq, slice_index, slice_index_or, slice_range, Vec}
use Rattle.std.specs.Vec.{vec_capacity}
use Rattle.std.specs.declared.alloc.Global.{Global}
use Rattle.std.specs.Ordering.{nat_cmp}
use Rattle.std.specs.FinMap.{is_sorted}
use Rattle.cspf_model.specs.declared.link.Link.{Link}
use Rattle.cspf_columns.specs.declared.columns.Columns.{Columns}
use Rattle.cspf_columns.specs.declared.spans.Span.{Span}
use Rattle.cspf_model.specs.declared.batch.Change.{Change}
use Rattle.cspf_model.specs.Database.{router_count}
use Rattle.cspf_model.specs.Lemmas.LinkChanges.{relinked}
use Rattle.cspf_model.specs.Lemmas.CountedEnds.{is_end_of}
use Rattle.cspf_model.specs.Lemmas.LinkRows.{AreByKey, database_of}
use Rattle.cspf_columns.specs.Index.{with_nothing, router_list}
use Rattle.cspf_model.specs.declared.limits.TheConstants.{MOST_LINKS, MOST_ROUTERS}
use Rattle.cspf_columns.specs.declared.limits.TheConstants.{ROOM_FOR_LINKS, ROOM_FOR_ROUTERS}
use Rattle.cspf_columns.specs.Reverses.{AreReversesBut, no_key}

-- both links join the same two interfaces, in the same direction
pub record HasSameEnds (l m : Link) : Type 0 where
  pub from : l.from ≡ m.from
  pub local : l.local ≡ m.local
  pub to : l.to ≡ m.to
  pub remote : l.remote ≡ m.remote

-- the routers in the list are in strictly increasing order
abbrev pub AreRising : List ℕ → Type 0
AreRising routers = IsTrue (is_sorted nat_cmp (map with_nothing routers))

-- for each row (a link), `ends` has the index in `routers` of the router at which the link ends
pub record AreEndsOf (rows : List Link) (routers : List ℕ) (ends : List ℕ) : Type 0 where
  pub within : All (λ end. end < length routers) ends
  pub each : map (λ end. slice_index routers end) ends ≡ map (λ l. l.to) rows

-- the router is at the index `place` of the list
pub record IsPlaceOf (routers : List ℕ) (router place : ℕ) : Type 0 where
  pub within : place < length routers
  pub found : slice_index routers place ≡ router

-- `places` has an item for each router of the list `routers`. If the list `others` also has this
-- router, the item is the router's index in `others`.
abbrev pub ArePlacesIn : List ℕ → List ℕ → List ℕ → Type 0
ArePlacesIn others routers places =
    (at : ℕ) → at < length routers → Contains others (slice_index routers at)
    → IsPlaceOf others (slice_index routers at) (slice_index places at)

-- For each row (a link), `indices` has the index in `routers` of the router at which the link ends.
-- `routers` also has each router at which a link begins.
pub record IsEndColumn (links : List Link) (routers : List ℕ) (indices : List ℕ) : Type 0 where
  pub froms : All (λ l. Contains routers l.from) links
  pub ends : AreEndsOf links routers indices

-- `new` has the routers of the list `routers` at which some row (a link) begins or ends, in the
-- same order. If a router of `routers` is in `new`, `new_places` has its index in `new`. The
-- vectors `new` and `new_places` have at least the capacity of `old` and `old_places`.
pub record AreKeptEnds (rows : List Link) (routers : List ℕ) (old old_places new new_places : Vec ℕ Global) : Type 0 where
  pub kept : new.items ≡ filter (is_end_of rows) routers
  pub placed : ArePlacesIn new.items routers new_places.items
  pub len : length new_places.items ≡ length routers
  pub capacity : vec_capacity old ≤ vec_capacity new
  pub capacity_of_places : vec_capacity old_places ≤ vec_capacity new_places

-- `span` is the span of the router. It has the range of the rows (links) that begin at the router,
-- a lower bound of their local addresses, and an upper bound.
pub record IsSpanOf (rows : List Link) (router : ℕ) (span : Span) : Type 0 where
  pub order : span.first ≤ span.end
  pub bound : span.end ≤ length rows
  pub part : slice_range rows span.first span.end ≡ filter (λ l. nat_eq l.from router) rows
  pub lowest : All (λ l. span.lowest ≤ l.local) (slice_range rows span.first span.end)
  pub highest : All (λ l. l.local ≤ span.highest) (slice_range rows span.first span.end)

-- for each router of the list, `spans` has the router's span (`IsSpanOf`)
pub record AreSpansOf (rows : List Link) (routers : List ℕ) (spans : List Span) : Type 0 where
  pub many : length spans ≡ length routers
  pub each : (at : ℕ) (d : Span) → at < length routers
      → IsSpanOf rows (slice_index routers at) (slice_index_or spans at d)

-- For each row (a link), `ends` has an index, and at this index `spans` has the span of the router
-- at which the link ends (`IsSpanOf`).
abbrev pub AreSpansAtEnds : List Link → List ℕ → List Span → Type 0
AreSpansAtEnds rows ends spans =
    (at : ℕ) (d : Link) → at < length rows
    → (slice_index_or ends at 0 < length spans)
    × ((e : Span) → IsSpanOf rows (slice_index_or rows at d).to (slice_index_or spans (slice_index_or ends at 0) e))

-- each column has enough capacity for a full table and the additions of one batch
pub record HaveRoom (c : Columns) : Type 0 where
  pub rows : ROOM_FOR_LINKS ≤ vec_capacity c.rows
  pub routers : ROOM_FOR_ROUTERS ≤ vec_capacity c.routers
  pub ends : ROOM_FOR_LINKS ≤ vec_capacity c.ends
  pub reverses : ROOM_FOR_LINKS ≤ vec_capacity c.reverses
  pub spans : MOST_ROUTERS ≤ vec_capacity c.spans

-- The state of columns while changes are made. The rows (links) are in order of their keys. The
-- list of routers has the two routers of each link. The list may also have routers at which no link
-- begins or ends.
pub record AreTiedColumns (c : Columns) : Type 0 where
  pub room : HaveRoom c
  pub by_key : AreByKey c.rows.items
  pub rising : AreRising c.routers.items
  pub few : length c.routers.items ≤ ROOM_FOR_ROUTERS
  pub column : IsEndColumn c.rows.items c.routers.items c.ends.items

-- `AreTiedColumns` holds, and for each row (a link) the column of reverses has the index of the
-- row's reverse, or `NO_LINK`
pub record ArePaired (c : Columns) : Type 0 where
  pub tied : AreTiedColumns c
  pub reverses : AreReversesBut no_key c.rows.items c.reverses.items

-- One change turns the columns `old` into the columns `new`. It adds at most one row (a link), and
-- leaves the list of routers as it is. In `new`, the column of reverses fits the new rows
-- (`ArePaired`).
pub record IsOneChange (old new : Columns) (change : Change) : Type 0 where
  pub changed : database_of new.rows.items ≡ relinked (database_of old.rows.items) change
  pub paired : ArePaired new
  pub longer : length new.rows.items ≤ length old.rows.items + 1
  pub routers : new.routers.items ≡ old.routers.items

-- The rows (links) are in order of their keys. The list of routers has exactly the routers of the
-- links. For each row, the column of ends has the index of the router at which the link ends. The
-- number of rows and the number of routers are within a table's limits.
pub record AreRowParts (c : Columns) : Type 0 where
  pub room : HaveRoom c
  pub by_key : AreByKey c.rows.items
  pub most : length c.rows.items ≤ MOST_LINKS
  pub few : router_count (database_of c.rows.items) ≤ MOST_ROUTERS
  pub all : c.routers.items ≡ router_list (database_of c.rows.items)
  pub ends : AreEndsOf c.rows.items c.routers.items c.ends.items

-- The invariant of a table's columns. `AreRowParts` holds. For each row (a link), the column of
-- reverses has the index of the row's reverse, or `NO_LINK`. For each router, the column of spans
-- has the router's span (`IsSpanOf`).
pub record AreColumns (c : Columns) : Type 0 where
  pub parts : AreRowParts c
  pub reverses : AreReversesBut no_key c.rows.items c.reverses.items
  pub spans : AreSpansOf c.rows.items c.routers.items c.spans.items
