-- Private: the prefix of a row, and the router that the row keeps as its only owner.
use Rattle.std.specs.Prelude.{◌≡◌, ℕ}
use Rattle.cspf_model.specs.Database.{Database}
use Rattle.cspf_trees.specs.declared.owner_row.OwnerRow.{OwnerRow}
use Rattle.cspf_trees.specs.LegsInTurn.{IsSoleOwner}

-- If the row was set in the generation `generation`, its router is the only owner of its prefix in
-- the database. A new generation begins each time that all owners are forgotten.
abbrev pub HasOwnerOf : Database → ℕ → OwnerRow → Type 0
HasOwnerOf d generation row = row.generation ≡ generation → IsSoleOwner d row.prefix row.router

-- the row keeps no prefix and no owner
abbrev pub IsEmptyOwnerRow : OwnerRow → Type 0
IsEmptyOwnerRow row = row.generation ≡ 0
