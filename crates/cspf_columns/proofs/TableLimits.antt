-- The limit on a database's links also holds for the rows (links) that make the database.
use Rattle.std.proofs.Common.{◌≡◌, ◌≤◌, List, length, ap, arith}
use Rattle.cspf_model.specs.declared.link.Link.{Link}
use Rattle.cspf_model.specs.Database.{Database, link_count}
use Rattle.cspf_model.specs.Lemmas.LinkRows.{AreByKey, database_of}
use Rattle.cspf_model.proofs.Databases.EndCounts.{link_count-database_of}
use Rattle.cspf_columns.proofs.RowOrder.{own_keys}

-- if rows (links) make a database that has at most 16,384 links, there are at most 16,384 rows
pub most_rows : (rows : List Link) (d : Database) → AreByKey rows → database_of rows ≡ d → link_count d ≤ 16384 → length rows ≤ 16384
most_rows rows d by_key made links = omega (arith, link_count-database_of rows (own_keys rows by_key), ap link_count made, links)
