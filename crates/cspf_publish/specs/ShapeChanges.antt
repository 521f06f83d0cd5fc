-- Private: the number of batches in a list that change more than unreserved bandwidths.
use Rattle.std.specs.Prelude.{◌≡◌, ◌⊎◌, ℕ, ◌+◌, List, [], ◌∷◌}
use Rattle.cspf_model.specs.Numbered.{NumberedChanges}
use Rattle.cspf_model.specs.Database.{Database}
use Rattle.cspf_model.specs.Changes.{no_links, after_changes}
use Rattle.cspf_db.specs.Shapes.{HaveOneShape}

-- `count` is the number of batches that change more than unreserved bandwidths, if the batches are
-- applied to the database `d` in order.
abbrev pub HasShapeChangesAfter : Database → List NumberedChanges → ℕ → Type 0
HasShapeChangesAfter d [] count = count ≡ 0
HasShapeChangesAfter d (b ∷ bs) count =
    (HaveOneShape d (after_changes d b.changes) × HasShapeChangesAfter (after_changes d b.changes) bs count)
    ⊎ ((¬ HaveOneShape d (after_changes d b.changes))
    × (rest : ℕ) × (count ≡ rest + 1) × HasShapeChangesAfter (after_changes d b.changes) bs rest)

-- `count` is the number of batches that change more than unreserved bandwidths, if the batches are
-- applied in order to a database without links.
abbrev pub HasShapeChanges : List NumberedChanges → ℕ → Type 0
HasShapeChanges batches count = HasShapeChangesAfter no_links batches count
