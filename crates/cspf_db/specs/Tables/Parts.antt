-- Private: the marks of a table, and its column that says which routers have transit.
use Rattle.std.specs.Prelude.{◌≡◌, ◌<◌, ◌≤◌, ℕ, Bool, false, not, List, length, slice_index, slice_index_or, Vec}
use Rattle.std.specs.Vec.{vec_capacity}
use Rattle.std.specs.declared.alloc.Global.{Global}
use Rattle.std.specs.FinSet as set
use Rattle.cspf_columns.specs.Index.{router_list}
use Rattle.cspf_columns.specs.Rows.{AreColumns, AreRising}
use Rattle.cspf_db.specs.declared.table.Table.TheInside.{Inside}
use Rattle.cspf_db.specs.declared.limits.TheConstants.{ROOM_FOR_MARKS}
use Rattle.cspf_model.specs.Lemmas.LinkRows.{marks_in, marked_database}
use Rattle.cspf_model.specs.declared.limits.TheConstants.{MOST_MARKS, MOST_ROUTERS}

-- For each router, `transits` says whether the router has transit. A router has transit if it isn't
-- marked.
pub record AreTransitsOf (routers marks : List ℕ) (transits : List Bool) : Type 0 where
  pub many : length transits ≡ length routers
  pub each : (at : ℕ) → at < length routers
      → slice_index_or transits at false ≡ not (set.contains (marks_in marks) (slice_index routers at))

-- The marks are in increasing order, and there are at most `MOST_MARKS`. The vector has capacity
-- for these marks, and for another mark for each change of a batch. A mark says that a router has
-- no transit.
pub record AreMarks (marks : Vec ℕ Global) : Type 0 where
  pub rising : AreRising marks.items
  pub most : length marks.items ≤ MOST_MARKS
  pub room : ROOM_FOR_MARKS ≤ vec_capacity marks

-- The invariant of a table. It concerns the table's columns, its marks, and the column that says of
-- each router whether the router has transit. A marked Router ID needn't be a router of the
-- database.
pub record IsTable (a : Inside) : Type 0 where
  pub columns : AreColumns a.columns
  pub marks : AreMarks a.marks
  pub listed : a.columns.routers.items ≡ router_list (marked_database a.columns.rows.items a.marks.items)
  pub transits : AreTransitsOf a.columns.routers.items a.marks.items a.transits.items
  pub room_for_transits : MOST_ROUTERS ≤ vec_capacity a.transits
