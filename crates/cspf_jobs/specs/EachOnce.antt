-- Lists that have each number below a bound once.
use Rattle.std.specs.Prelude.{◌≡◌, ℕ, ◌==◌, if◌then◌else◌, nat_lt, List, count_by}

-- how often the number `x` is in a list
abbrev pub times : ℕ → List ℕ → ℕ
times x xs = count_by (λ y. y == x) xs

-- 1 if the number `x` is below the bound, and otherwise 0
abbrev pub once_below : ℕ → ℕ → ℕ
once_below bound x = if nat_lt x bound then 1 else 0

-- the list has each number below the bound once, and no other number
abbrev pub HoldsEachOnce : ℕ → List ℕ → Type 0
HoldsEachOnce bound xs = (x : ℕ) → times x xs ≡ once_below bound x
