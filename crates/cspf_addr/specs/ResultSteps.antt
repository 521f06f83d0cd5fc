-- Defines `>>=` for a `Result`. It chains two steps of a parser, each of which may refuse the text.
use Rattle.std.specs.Prelude.{Result, Ok, Err}

-- the second step applied to the value of the first step, or the error of the first step
infixl 10 ◌>>=◌
abbrev pub ◌>>=◌ : {A B E : Type 0} → Result A E → (A → Result B E) → Result B E
Ok x >>= second = second x
Err e >>= second = Err e
