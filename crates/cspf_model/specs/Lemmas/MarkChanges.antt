-- Private: how changes act on the marks of a database. The marks are the Router IDs that are marked
-- as without transit.
use Rattle.std.specs.Prelude.{Bool, false, not, ◌&&◌, List, [], ◌∷◌}
use Rattle.std.specs.Ordering.{nat_cmp}
use Rattle.std.specs.FinSet as set
use Rattle.cspf_model.specs.declared.batch.Change.{Change}
use Rattle.cspf_model.specs.declared.batch.Change.TheVariants.{Put, Remove, Node}
use Rattle.cspf_model.specs.Changes.{marks_after}

-- The routers that are marked as without transit after one change. `marks` are the routers that are
-- marked before the change.
abbrev pub marked : set.FinSet nat_cmp → Change → set.FinSet nat_cmp
marked marks (Put l) = marks
marked marks (Remove from local) = marks
marked marks (Node router transit) = marks_after marks router transit

-- The routers that are marked as without transit after these changes are made in order. `marks` are
-- the routers that are marked before the changes.
abbrev pub all_marked : set.FinSet nat_cmp → List Change → set.FinSet nat_cmp
all_marked marks [] = marks
all_marked marks (c ∷ cs) = all_marked (marked marks c) cs

-- Whether the change takes transit away from a router that isn't in `marks` yet.
abbrev pub adds_mark : set.FinSet nat_cmp → Change → Bool
adds_mark marks (Put l) = false
adds_mark marks (Remove from local) = false
adds_mark marks (Node router transit) = not transit && not (set.contains marks router)

-- Whether the change gives transit to a router that is marked as without transit.
abbrev pub removes_mark : set.FinSet nat_cmp → Change → Bool
removes_mark marks (Put l) = false
removes_mark marks (Remove from local) = false
removes_mark marks (Node router transit) = transit && set.contains marks router
