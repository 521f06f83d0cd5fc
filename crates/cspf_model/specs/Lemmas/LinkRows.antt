-- Private: the database that is made from a list of links, called rows, and from a list of routers
-- without transit, called marks.
use Rattle.std.specs.Prelude.{ℕ, IsTrue, List, map}
use Rattle.std.specs.Ordering.{nat_cmp}
use Rattle.std.specs.FinMap.{from_entries, is_sorted}
use Rattle.std.specs.FinSet as set
use Rattle.cspf_model.specs.declared.link.Link.{Link}
use Rattle.cspf_model.specs.Database.{Database, Key, key_of, key_cmp}

-- A link together with its key.
abbrev pub entry_of : Link → Key × Link
entry_of l = (key_of l, l)

-- The database with the links in `rows`, each at its own key, in which no router is marked as
-- without transit. If several links have the same key, the database has the first of them.
abbrev pub database_of : List Link → Database
database_of rows = record { links = from_entries {R = key_cmp} (map entry_of rows); marks = set.empty }

-- The links in `rows` are in increasing order of their keys.
abbrev pub AreByKey : List Link → Type 0
AreByKey rows = IsTrue (is_sorted key_cmp (map entry_of rows))

-- The set of the routers in the list `marks`.
abbrev pub marks_in : List ℕ → set.FinSet nat_cmp
marks_in marks = set.from_list marks

-- The database with the links in `rows`, in which the routers in `marks` are marked as without
-- transit.
abbrev pub marked_database : List Link → List ℕ → Database
marked_database rows marks = record { links = (database_of rows).links; marks = marks_in marks }
