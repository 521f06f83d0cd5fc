-- Private: the bits of routers. If the base changes, a test of these bits shows for most placements
-- that they keep their routes.
use Rattle.std.specs.Prelude.{◌≡◌, ℕ, Bool, ◌+◌, ◌*◌, ◌/◌, ◌%◌, ◌^◌, ◌&&◌, not, List, [], ◌∷◌, nat_eq, unwrap_or}
use Rattle.std.specs.Int.Bits.{bit_and, bit_or}
use Rattle.cspf_book.specs.declared.path.Passed.{Passed}
use Rattle.cspf_model.specs.Changes.{ChangeKey}
use Rattle.cspf_book.specs.declared.placement.Placement.{Placement}

-- one of 32 bits, chosen by `number`
abbrev pub one_of_32 : ℕ → ℕ
one_of_32 number = 2 ^ (number % 32)

-- four bits, one in each quarter of 128 bits
abbrev pub four_of : ℕ → ℕ
four_of n =
    one_of_32 (n / 2 ^ 27) + one_of_32 (n / 2 ^ 22) * 2 ^ 32
    + (one_of_32 (n / 2 ^ 17) + one_of_32 (n / 2 ^ 12) * 2 ^ 32) * 2 ^ 64

-- the four bits of a router; other routers may have the same bits
unfoldable pub four_bits : ℕ → ℕ
four_bits router = four_of (router * 2654435769)

-- `bits`, together with the four bits of the neighbor of each link
abbrev pub bits_with : ℕ → List Passed → ℕ
bits_with bits [] = bits
bits_with bits (l ∷ ls) = bits_with (bit_or bits (four_bits l.to)) ls

-- the bits of all routers on the placement's route, from the head-end on
abbrev pub bits_of : Placement → ℕ
bits_of p = bits_with (four_bits p.request.from) p.route

-- The router's four bits are among these bits.
abbrev pub IsAmong : ℕ → ℕ → Type 0
IsAmong bits router = bit_and bits (four_bits router) ≡ four_bits router

-- At least one bit is set in each quarter of the 128 bits.
abbrev pub has_quarters : ℕ → Bool
has_quarters bits =
    not (nat_eq (bits % 2 ^ 32) 0)
    && not (nat_eq (bits / 2 ^ 32 % 2 ^ 32) 0)
    && not (nat_eq (bits / 2 ^ 64 % 2 ^ 32) 0)
    && not (nat_eq (bits / 2 ^ 96 % 2 ^ 32) 0)

-- one of 65,536 slots for a key; other keys may have the same slot
unfoldable pub slot_of : ChangeKey → ℕ
slot_of k = (k.0 * 1640531527 + unwrap_or k.1 0 * 1367130551) / 2 ^ 16 % 2 ^ 16
