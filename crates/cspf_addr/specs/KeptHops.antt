-- Private: how up to seven hops are stored in an array with seven items.
use Rattle.std.specs.Prelude.{◌≡◌, ℕ, ◌-◌, ◌≤◌, false, List, ◌++◌, length, take, drop, replicate}
use Rattle.std.proofs.Common.{sym, ap, subst, ◌∙◌}
use Rattle.std.proofs.lemmas.List.{length-take-le, take-append-drop}
use Rattle.cspf_addr.specs.declared.hop.Hop.{Hop}
use Rattle.cspf_addr.specs.declared.hops.TheConstants.{MOST_HOPS}

-- the value of each unused item of the array
abbrev pub free_place : Hop
free_place = record { prefix = record { address = 0; length = 0 }; loose = false }

-- the array with seven items that stores these hops; the items after the hops are unused
abbrev pub in_seven_places : List Hop → List Hop
in_seven_places hops = hops ++ replicate (MOST_HOPS - length hops) free_place

-- The array has seven items. The first `count` items are the hops of the list, and the other items
-- are `free_place`.
pub record AreKept (places : List Hop) (count : ℕ) : Type 0 where
  pub seven : length places ≡ MOST_HOPS
  pub most : count ≤ MOST_HOPS
  pub free : drop count places ≡ replicate (MOST_HOPS - count) free_place

-- If an array stores `count` hops, the list of its first `count` items has `count` hops.
pub length-kept : (places : List Hop) (count : ℕ)
    → AreKept places count → length (take count places) ≡ count
length-kept places count kept =
    length-take-le count places (subst (λ n. count ≤ n) (sym kept.seven) kept.most)

-- If an array stores `count` hops, `in_seven_places` makes the same array again from these hops.
pub places-kept : (places : List Hop) (count : ℕ)
    → AreKept places count → in_seven_places (take count places) ≡ places
places-kept places count kept =
    ap (λ n. take count places ++ replicate (MOST_HOPS - n) free_place) (length-kept places count kept)
    ∙ ap (λ behind. take count places ++ behind) (sym kept.free)
    ∙ take-append-drop count places
