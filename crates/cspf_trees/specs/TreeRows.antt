-- Private: what holds of a row that keeps a tree for one class of requests. A class is all requests
-- with one tail-end and the same affinities.
use Rattle.std.specs.Prelude.{◌≡◌, ℕ, Option, List, IfSome, None, Some, sum_by}
use Rattle.cspf_model.specs.declared.request.Request.{Request}
use Rattle.cspf_model.specs.Database.{Database}
use Rattle.cspf_search.specs.Trees.{IsTree}
use Rattle.cspf_search.specs.declared.tree.Tree.{Tree}
use Rattle.cspf_trees.specs.declared.tree_row.TreeRow.{TreeRow}
use Rattle.cspf_trees.specs.Classes.{HasClass}

-- If the row is of the generation `generation` and has a tree, this tree is a tree of the database
-- for each request of the row's class. A new generation begins each time that all trees are
-- forgotten. A class is all requests with one tail-end and the same affinities.
abbrev pub HasTreeOf : Database → ℕ → TreeRow → Type 0
HasTreeOf d generation row =
    row.generation ≡ generation → IfSome row.tree (λ tree. (q : Request) → HasClass q row.class → IsTree d q tree)

-- The row is of the generation `now`, and its class is that of the request. A new generation begins
-- each time that all trees are forgotten. A class is all requests with one tail-end and the same
-- affinities.
pub record IsAskedOf (q : Request) (now : ℕ) (row : TreeRow) : Type 0 where
  pub generation : row.generation ≡ now
  pub class : HasClass q row.class

-- The row has no tree, and its generation is 0, the first one. A new generation begins each time
-- that all trees are forgotten.
pub record IsEmptyTreeRow (row : TreeRow) : Type 0 where
  pub generation : row.generation ≡ 0
  pub tree : row.tree ≡ None

-- the number of trees in an optional tree: 0 or 1
abbrev pub option_count : Option Tree → ℕ
option_count None = 0
option_count (Some tree) = 1

-- the number of trees in the row of a class: 0 or 1
abbrev pub row_count : TreeRow → ℕ
row_count row = option_count row.tree

-- The number of trees in all rows, whatever their generation. A new generation begins each time
-- that all trees are forgotten.
abbrev pub tree_count : List TreeRow → ℕ
tree_count rows = sum_by row_count rows
