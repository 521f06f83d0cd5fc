-- The batches by which a book gives its versions away: each version's batch makes the effective
-- database of that version from the effective database of the version before.
use Rattle.std.specs.Prelude.{◌≡◌, ◌+◌, ℕ, Option, Some, None, List, [], ◌∷◌, ◌++◌, filter, map, not}
use Rattle.std.specs.List.{flat_map}
use Rattle.cspf_model.specs.declared.link.Link.{Link}
use Rattle.cspf_model.specs.declared.batch.Change.{Change}
use Rattle.cspf_model.specs.declared.batch.Change.TheVariants.{Put, Remove, Node}
use Rattle.cspf_model.specs.Numbered.{NumberedChanges}
use Rattle.cspf_model.specs.Changes.{after_changes, Fits}
use Rattle.cspf_model.specs.Database.{Database, Key, link_at}
use Rattle.cspf_book.specs.declared.path.Passed.{Passed}
use Rattle.cspf_book.specs.declared.placement.Placement.{Placement}
use Rattle.cspf_book.specs.Placements.{key_passed, has_key, placement_of}
use Rattle.cspf_book.specs.Effective.{effective_link, effective}
use Rattle.cspf_book.specs.BookState.{BookState}

-- A change of the base, as the effective database has it. A link that is put has the bandwidth that
-- the placements leave on it.
abbrev pub effective_change : List Placement → Change → Change
effective_change placements (Put l) = Put (effective_link placements l)
effective_change placements (Remove from local) = Remove from local
effective_change placements (Node router transit) = Node router transit

-- the put of a link with the bandwidth that the placements leave on it, or no change if there is no
-- link
abbrev pub put_of : List Placement → Option Link → List Change
put_of placements None = []
put_of placements (Some l) = Put (effective_link placements l) ∷ []

-- the put of the base's link with this key, as the effective database has it; no change if the base
-- has no such link
abbrev pub put_at : Database → List Placement → Key → List Change
put_at base placements k = put_of placements (link_at base k)

-- the keys of the links of an old and a new route, each once: first the keys of the old route, and
-- then the other keys of the new route
abbrev pub keys_moved : List Passed → List Passed → List Key
keys_moved old new = map key_passed old ++ filter (λ k. not (has_key old k)) (map key_passed new)

-- The batch with this number for a placement that moves from an old to a new route. It puts each
-- link of the two routes that the base has. The links have the bandwidth that `placements` leave.
abbrev pub moved_batch : Database → List Placement → ℕ → List Passed → List Passed → NumberedChanges
moved_batch base placements number old new =
    record { number = number; changes = flat_map (put_at base placements) (keys_moved old new) }

-- The batch with this number for changes of the base.
abbrev pub base_batch : List Placement → ℕ → List Change → NumberedChanges
base_batch placements number changes =
    record { number = number; changes = map (effective_change placements) changes }

-- the route of a placement; no links if there is no placement
abbrev pub route_in : Option Placement → List Passed
route_in None = []
route_in (Some p) = p.route

-- the route of the placement with this id; no links if no placement has the id
abbrev pub route_of : ℕ → List Placement → List Passed
route_of id placements = route_in (placement_of id placements)

-- The batch leads from the book `s` to the book `t`, which has the next version. The batch's number
-- is this version. The batch fits the effective database of `s`, and makes the effective database
-- of `t` from it.
pub record LeadsTo (s : BookState) (b : NumberedChanges) (t : BookState) : Type 0 where
  pub number : b.number ≡ s.version + 1
  pub version : t.version ≡ s.version + 1
  pub fits : Fits (effective s.base s.placements) b
  pub makes : after_changes (effective s.base s.placements) b.changes ≡ effective t.base t.placements

-- The batch leads from the book `s` to the book `t` (`LeadsTo`), in which the placement with this
-- id has moved from its old to its new route. It puts exactly the links of these routes that the
-- base has, each once: those of the old route in order, and then the others of the new route. A
-- placement that is new has no old route, and a placement that is released has no new route.
pub record IsMoveBatch (s : BookState) (id : ℕ) (b : NumberedChanges) (t : BookState) : Type 0 where
  pub leads : LeadsTo s b t
  pub exact : b ≡ moved_batch s.base t.placements (s.version + 1) (route_of id s.placements) (route_of id t.placements)

-- The batch leads from the book `s` to the book `t` (`LeadsTo`), whose base has these changes. It
-- has the same changes in the same order. Each link that is put has the bandwidth that the
-- placements leave on it.
pub record IsBaseBatch (s : BookState) (changes : List Change) (b : NumberedChanges) (t : BookState) : Type 0 where
  pub leads : LeadsTo s b t
  pub exact : b ≡ base_batch s.placements (s.version + 1) changes
