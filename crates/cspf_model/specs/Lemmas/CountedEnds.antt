-- Private: how the routers at which links begin or end are counted.
use Rattle.std.specs.Prelude.{ℕ, Bool, ◌||◌, nat_eq, List, [], ◌∷◌, length, ◌≡◌, ◌+◌, ◌<◌, ◌≤◌, true, All, Contains}
use Rattle.std.specs.Ordering.{nat_cmp}
use Rattle.std.specs.List.{HoldsAt, list_any}
use Rattle.std.specs.FinSet.{FinSet, insert, contains, len}
use Rattle.cspf_model.specs.declared.link.Link.{Link}
use Rattle.cspf_model.specs.declared.batch.Change.{Change}
use Rattle.cspf_model.specs.declared.batch.Change.TheVariants.{Put, Remove, Node}
use Rattle.cspf_model.specs.Database.{EndsAt}
use Rattle.cspf_model.specs.Lemmas.GoneRouters.{puts_at}
use Rattle.cspf_model.specs.Lemmas.RowsLeft.{links_put}

-- The set `routers`, to which the routers at both ends of each link are added.
abbrev pub with_ends : FinSet nat_cmp → List Link → FinSet nat_cmp
with_ends routers [] = routers
with_ends routers (l ∷ ls) = with_ends (insert (insert routers l.from) l.to) ls

-- Some link begins or ends at the router.
abbrev pub AnyEndsAt : List Link → ℕ → Type 0
AnyEndsAt links router = (at : ℕ) × (at < length links) × HoldsAt (EndsAt router) links at

-- Whether some link begins at the router.
abbrev pub any_from : List Link → ℕ → Bool
any_from links router = list_any (λ l. nat_eq l.from router) links

-- Whether some link ends at the router.
abbrev pub any_to : List Link → ℕ → Bool
any_to links router = list_any (λ l. nat_eq l.to router) links

-- Whether some link begins or ends at the router.
abbrev pub is_end_of : List Link → ℕ → Bool
is_end_of links router = any_to links router || any_from links router

-- If the change puts a link, the routers at both ends of the link are in the list `routers`.
abbrev pub HasListedEnds : List ℕ → Change → Type 0
HasListedEnds routers (Put l) = Contains routers l.from × Contains routers l.to
HasListedEnds routers (Remove from local) = Unit {0}
HasListedEnds routers (Node router transit) = Unit {0}

-- The links that the changes put begin and end at no more than `most` routers outside of the list
-- `routers`. If a set has all routers of the list, adding the routers of these links adds at most
-- `most` members.
abbrev pub BringsAtMost : List ℕ → List Change → ℕ → Type 0
BringsAtMost routers changes most =
    (s : FinSet nat_cmp) → All (λ r. contains s r ≡ true) routers
    → len (with_ends s (links_put changes)) ≤ len s + most

-- If the change `c` puts a link, at most `most` of the two routers of the link are new. A router
-- isn't new if it is in the list `routers`, or if a change in `others` puts a link that begins or
-- ends at it.
abbrev pub BringsBeside : List ℕ → List Change → Change → ℕ → Type 0
BringsBeside routers others c most =
    (s : FinSet nat_cmp) → All (λ r. contains s r ≡ true) routers
    → ((r : ℕ) → list_any (puts_at r) others ≡ true → contains s r ≡ true)
    → len (with_ends s (links_put (c ∷ []))) ≤ len s + most
