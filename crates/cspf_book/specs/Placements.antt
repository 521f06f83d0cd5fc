-- How much bandwidth placements count on a link.
use Rattle.std.specs.Prelude.{ℕ, Bool, ◌&&◌, not, cond, Option, List, map, nat_eq, nat_le, filter, find, sum_by}
use Rattle.std.specs.Ordering.{eq_by_cmp}
use Rattle.std.specs.List.{list_any, position_or_len, IsDistinct}
use Rattle.cspf_model.specs.declared.link.Link.{Link}
use Rattle.cspf_model.specs.Database.{Key, key_of, key_cmp}
use Rattle.cspf_book.specs.declared.path.Passed.{Passed}
use Rattle.cspf_book.specs.declared.placement.Placement.{Placement}

-- the key and the neighbor of a link
abbrev pub ends_of_link : Link → Key × ℕ
ends_of_link l = (key_of l, l.to)

-- What a placement keeps of a link on its route: the link's key, and the router that the link leads
-- to.
abbrev pub passed_of : Link → Passed
passed_of l = record { from = l.from; local = l.local; to = l.to }

-- the key of a link on a path: the router at which it begins, and its interface there
abbrev pub key_passed : Passed → Key
key_passed l = (l.from, l.local)

-- No two of the links have the same key.
abbrev pub ArePassedOnce : List Passed → Type 0
ArePassedOnce links = IsDistinct (eq_by_cmp key_cmp) (map key_passed links)

-- One of the links has this key.
abbrev pub has_key : List Passed → Key → Bool
has_key links k = list_any (λ l. nat_eq l.from k.0 && nat_eq l.local k.1) links

-- The bandwidth that a placement counts on the link with this key at a priority. A placement with
-- the holding priority h counts its bandwidth on each link of its route, at the priorities h to 7.
-- Elsewhere it counts 0.
abbrev pub bandwidth_on : Key → ℕ → Placement → ℕ
bandwidth_on k priority p =
    cond (nat_le p.hold priority && has_key p.route k) p.request.bandwidth 0

-- the bandwidth that all placements together count on the link with this key at a priority
abbrev pub counted : List Placement → Key → ℕ → ℕ
counted placements k priority = sum_by (bandwidth_on k priority) placements

-- the id of a placement, which is the id of its request
abbrev pub id_of : Placement → ℕ
id_of p = p.request.id

-- the placement with this id, if there is one
abbrev pub placement_of : ℕ → List Placement → Option Placement
placement_of id placements = find (λ p. nat_eq (id_of p) id) placements

-- One of the placements has this id.
abbrev pub has_id : ℕ → List Placement → Bool
has_id id placements = list_any (λ p. nat_eq (id_of p) id) placements

-- the placements with other ids
abbrev pub others : ℕ → List Placement → List Placement
others id placements = filter (λ p. not (nat_eq (id_of p) id)) placements

-- the index of the first placement with this id, or the number of placements if no placement has the id
abbrev pub index_of_id : ℕ → List Placement → ℕ
index_of_id id placements = position_or_len (λ p. nat_eq (id_of p) id) placements
