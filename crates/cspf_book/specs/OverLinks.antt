-- The links on which, after changes of the base or with one more placement, the placements hold
-- more bandwidth than the links have.
use Rattle.std.specs.Prelude.{ℕ, Bool, ◌&&◌, not, Option, Some, None, List, [], ◌∷◌, ◌++◌, filter, map, nat_lt, slice_index}
use Rattle.std.specs.List.{flat_map}
use Rattle.cspf_model.specs.declared.link.Link.{Link}
use Rattle.cspf_model.specs.declared.batch.Change.{Change}
use Rattle.cspf_model.specs.declared.batch.Change.TheVariants.{Put, Remove, Node}
use Rattle.cspf_model.specs.Database.{Database, key_of, link_at}
use Rattle.cspf_book.specs.declared.over.Over.{Over}
use Rattle.cspf_book.specs.declared.placement.Placement.{Placement}
use Rattle.cspf_book.specs.Placements.{key_passed, counted}

-- the priorities 0 to 7
abbrev pub priorities : List ℕ
priorities = 0 ∷ 1 ∷ 2 ∷ 3 ∷ 4 ∷ 5 ∷ 6 ∷ 7 ∷ []

-- at this priority, the link's unreserved bandwidth is less than the bandwidth that the placements
-- count on the link's key
abbrev pub is_over : List Placement → Link → ℕ → Bool
is_over placements l priority =
    nat_lt (slice_index l.free priority) (counted placements (key_of l) priority)

-- the entry for a link and a priority: the key of the link, and the priority
abbrev pub over_at : Link → ℕ → Over
over_at l priority = record { from = l.from; local = l.local; priority = priority }

-- one entry for each priority at which `is_over` is true of the link, from priority 0 to 7
abbrev pub over_on : List Placement → Link → List Over
over_on placements l = map (over_at l) (filter (is_over placements l) priorities)

-- The entries for the link that a change sets (`Put`). There is one for each priority at which the
-- link has less bandwidth than the placements count on it. Other changes have no entries.
abbrev pub over_by : List Placement → Change → List Over
over_by placements (Put l) = over_on placements l
over_by placements (Remove from local) = []
over_by placements (Node router transit) = []

-- The entries for all links that the changes set (`Put`), in the order of the changes. There is one
-- for each priority at which the link has less bandwidth than the placements count on it.
abbrev pub over : List Placement → List Change → List Over
over placements changes = flat_map (over_by placements) changes

-- At this priority, the link's unreserved bandwidth is enough for the bandwidth that the placements
-- count on the link's key. With the placement `p` it is too little.
abbrev pub is_made_over : List Placement → Placement → Link → ℕ → Bool
is_made_over placements p l priority =
    not (is_over placements l priority) && is_over (placements ++ p ∷ []) l priority

-- one entry for each priority at which `is_made_over` is true of the link, from priority 0 to 7; no
-- entries if there is no link
abbrev pub made_over_on : List Placement → Placement → Option Link → List Over
made_over_on placements p None = []
made_over_on placements p (Some l) = map (over_at l) (filter (is_made_over placements p l) priorities)

-- The entries for the base's links on the route of `p`, in the order of the route. There is one for
-- each priority at which `p` makes the placements count more bandwidth than the link has. Links that
-- the base doesn't have get no entries.
abbrev pub made_over : Database → List Placement → Placement → List Over
made_over base placements p =
    flat_map (λ k. made_over_on placements p (link_at base k)) (map key_passed p.route)
