-- Defines `>>=` for an `Option`. It chains two steps of a parser, each of which may find nothing.
use Rattle.std.specs.Prelude.{Option, option_and_then}

-- the second step applied to the value of the first step, or `None` if the first step gives `None`
infixl 10 ◌>>=◌
abbrev pub ◌>>=◌ : {A B : Type 0} → Option A → (A → Option B) → Option B
first >>= second = option_and_then second first
