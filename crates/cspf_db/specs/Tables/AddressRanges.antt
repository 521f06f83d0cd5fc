-- Private: the addresses that a prefix covers are a range without gaps.
use Rattle.std.specs.Prelude.{◌<◌, ◌≤◌, ◌↔◌, ℕ}
use Rattle.cspf_addr.specs.PrefixParts.{PrefixParts}
use Rattle.cspf_addr.specs.Prefixes.{Covers}
use Rattle.cspf_db.specs.declared.table.address_range.AddressRange.{AddressRange}

-- the address is in the range
abbrev pub IsInRange : AddressRange → ℕ → Type 0
IsInRange range address = (range.first ≤ address) × (address < range.end)

-- The range has exactly the addresses that the prefix covers.
abbrev pub IsRangeOf : PrefixParts → AddressRange → Type 0
IsRangeOf prefix range = (address : ℕ) → Covers prefix address ↔ IsInRange range address
