-- The id and the version at the start of a reply line.
use Rattle.std.specs.Prelude.{◌≡◌, ℕ, ◌^◌, ◌<◌, List, ◌++◌, codes}
use Rattle.std.specs.Fmt.{decimal}
use Rattle.cspf_ero.specs.declared.head.Head.{Head}

-- The line begins with `ask`, the id, and `v` with the version, each followed by a space. The id is
-- below 2^64, and the version is below 2^32. Both numbers are decimal, without leading zeros.
pub record BeginsWithHead (line : List ℕ) (head : Head) : Type 0 where
  pub id : head.id < 2 ^ 64
  pub version : head.version < 2 ^ 32
  pub rest : List ℕ
  pub whole : line ≡ codes "ask " ++ decimal head.id ++ codes " v" ++ decimal head.version ++ codes " " ++ rest

-- the line doesn't begin with an id and a version
abbrev pub HasNoHead : List ℕ → Type 0
HasNoHead line = (head : Head) → ¬ BeginsWithHead line head

-- a line begins with at most one pair of an id and a version
abbrev pub HasOneHead : Type 0
HasOneHead = (line : List ℕ) (head other : Head) → BeginsWithHead line head → BeginsWithHead line other → head ≡ other
