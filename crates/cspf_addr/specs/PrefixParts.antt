-- The parts of an address prefix.
use Rattle.std.specs.Prelude.{◌≡◌, ℕ, ◌-◌, ◌*◌, ◌/◌, ◌^◌, ◌<◌, ◌≤◌}

-- an address, and the prefix length: the number of the address's first bits that belong to the
-- prefix
pub record PrefixParts : Type 0 where
  pub address : ℕ
  pub length : ℕ

-- the address with all bits after the first `length` bits set to zero
abbrev pub first_bits : ℕ → ℕ → ℕ
first_bits length address = address / 2 ^ (32 - length) * 2 ^ (32 - length)

-- the prefix of this length with the first bits of this address
abbrev pub with_first_bits : ℕ → ℕ → PrefixParts
with_first_bits length address = record { address = first_bits length address; length = length }

-- The address is below 2^32, and the length is at most 32. All bits of the address after the first
-- `length` bits are zero.
pub record IsPrefix (prefix : PrefixParts) : Type 0 where
  pub most : prefix.length ≤ 32
  pub small : prefix.address < 2 ^ 32
  pub zeros : first_bits prefix.length prefix.address ≡ prefix.address
