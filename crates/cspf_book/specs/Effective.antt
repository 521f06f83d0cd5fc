-- The effective database: the base, with the bandwidth that the placements leave on its links.
use Rattle.std.specs.Prelude.{◌≡◌, ℕ, zero, suc, ◌-◌, min, List, [], ◌∷◌, length, map, slice_index, refl}
use Rattle.std.specs.FinMap as map
use Rattle.cspf_model.specs.declared.link.Link.{Link}
use Rattle.cspf_model.specs.Database.{Database, key_of, key_cmp}
use Rattle.cspf_book.specs.declared.placement.Placement.{Placement}
use Rattle.cspf_book.specs.Placements.{counted}

-- The effective bandwidth of a link at a priority, in short its figure. `free` has the link's
-- unreserved bandwidths in the base, and `held` is the bandwidth that the placements count at each
-- priority. At a priority, the difference of the two is left, or 0 if the placements count more
-- than the link has. The figure is the least bandwidth that is left at this priority or at a more
-- important priority.
abbrev pub figure : List ℕ → (ℕ → ℕ) → ℕ → ℕ
figure free held zero = slice_index free zero - held zero
figure free held (suc p) = min (figure free held p) (slice_index free (suc p) - held (suc p))

-- the effective bandwidths of a link at the priorities 0 to 7
abbrev pub figures : List ℕ → (ℕ → ℕ) → List ℕ
figures free held = map (figure free held) (0 ∷ 1 ∷ 2 ∷ 3 ∷ 4 ∷ 5 ∷ 6 ∷ 7 ∷ [])

-- the same link with these unreserved bandwidths
abbrev pub with_free : Link → (free : List ℕ) → length free ≡ 8 → Link
with_free l free eight = record l { free = free; eight = eight }

-- a link of the base, with the effective bandwidths that these placements leave on it
unfoldable pub effective_link : List Placement → Link → Link
effective_link placements l =
    with_free l (figures l.free (counted placements (key_of l))) refl

-- The effective database. At each key of the base it has the base's link with its effective
-- bandwidths. Its marks are the base's marks. A mark says that a router carries no transit.
abbrev pub effective : Database → List Placement → Database
effective base placements = record {
  links = map.from_entries {R = key_cmp} (map (λ e. (e.0, effective_link placements e.1)) (map.entries base.links));
  marks = base.marks;
}
