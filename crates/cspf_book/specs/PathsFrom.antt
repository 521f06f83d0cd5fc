-- Paths that begin at a router and lead to another.
use Rattle.std.specs.Prelude.{◌≡◌, ℕ, List, [], ◌∷◌}
use Rattle.cspf_book.specs.declared.path.Passed.{Passed}

-- The path that begins at a router. Each of its links is given by the address of its interface, and
-- by the router that it leads to.
abbrev pub path_from : ℕ → List (ℕ × ℕ) → List Passed
path_from router [] = []
path_from router (s ∷ ss) = record { from = router; local = s.0; to = s.1 } ∷ path_from s.1 ss

-- the address of a link's interface, and the router that the link leads to
abbrev pub passed_step : Passed → ℕ × ℕ
passed_step l = (l.local, l.to)

-- The links lead from the router `from` to the router `to`. The first link begins at `from`, and
-- each other link begins where the link before it ends. The last link ends at `to`. Without links,
-- the two routers are the same.
abbrev pub LeadFromTo : ℕ → ℕ → List Passed → Type 0
LeadFromTo from to [] = from ≡ to
LeadFromTo from to (l ∷ ls) = (l.from ≡ from) × LeadFromTo l.to to ls
