-- The law that a tree of a database is still a tree of it after changes of unreserved bandwidths
-- only.
use Rattle.cspf_model.specs.declared.request.Request.{Request}
use Rattle.cspf_model.specs.Database.{Database}
use Rattle.cspf_db.specs.Shapes.{HaveOneShape}
use Rattle.cspf_search.specs.declared.tree.Tree.{Tree}
use Rattle.cspf_search.specs.Trees.{IsTree}

-- a tree of a database is also a tree of each database that differs from it only in unreserved
-- bandwidths
abbrev pub TreesOutlastBandwidth : Type 0
TreesOutlastBandwidth =
    (d e : Database) (q : Request) (tree : Tree) → HaveOneShape d e → IsTree d q tree → IsTree e q tree
