-- Private: the kept trees are trees of a database.
use Rattle.std.specs.Prelude.{All}
use Rattle.cspf_model.specs.Database.{Database}
use Rattle.cspf_trees.specs.declared.trees.Trees.{Trees}
use Rattle.cspf_trees.specs.Owners.{AreOwnersOf}
use Rattle.cspf_trees.specs.TreeRows.{HasTreeOf}

-- Each tree of the present generation of trees is a tree of the database. Each owner of the present
-- generation of owners is the only owner of its prefix in the database. Trees and owners of earlier
-- generations aren't used. A new generation begins each time that all trees, or all owners, are
-- forgotten.
unfoldable pub AreTreesOf : Database → Trees → Type 0
AreTreesOf d trees =
    All (HasTreeOf d trees.generation) trees.rows.items × AreOwnersOf d trees.owners
