-- Private: which records of a stream were read, and which are still to be read.
use Rattle.std.specs.Prelude.{◌≡◌, ℕ, List, ◌++◌, length, Option, Some, None}

-- `all` has the records that were read, followed by the records that are left
abbrev pub AreSplit : Option (List (List (List ℕ))) → Option (List (List (List ℕ))) → List (List (List ℕ)) → Type 0
AreSplit None left seen = Unit {0}
AreSplit (Some all) None seen = ⊥
AreSplit (Some all) (Some left) seen = all ≡ seen ++ left

-- the first `count` records of a stream were read, and `Holds` is true of the list of these records
pub record HasSeen (Holds : List (List (List ℕ)) → Type 0) (all left : Option (List (List (List ℕ)))) (count : ℕ) : Type 0 where
  pub seen : List (List (List ℕ))
  pub counted : length seen ≡ count
  pub holds : Holds seen
  pub split : AreSplit all left seen
