-- Private: the kept owners of prefixes are those of a database.
use Rattle.std.specs.Prelude.{All}
use Rattle.cspf_model.specs.Database.{Database}
use Rattle.cspf_trees.specs.declared.owners.Owners.{Owners}
use Rattle.cspf_trees.specs.OwnerRows.{HasOwnerOf}

-- Each owner that is kept in the present generation is the only owner of its prefix in the
-- database. Owners of earlier generations aren't used. A new generation begins each time that all
-- owners are forgotten.
abbrev pub AreOwnersOf : Database → Owners → Type 0
AreOwnersOf d owners = All (HasOwnerOf d owners.generation) owners.rows.items
