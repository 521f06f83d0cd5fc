-- If the range of a prefix is below or above the local addresses of some rows (links), the prefix
-- covers none of these addresses.
use Rattle.std.proofs.Common.{ℕ, ◌≤◌, List, All}
use Rattle.cspf_addr.specs.PrefixParts.{PrefixParts}
use Rattle.cspf_addr.specs.Prefixes.{Covers}
use Rattle.cspf_model.specs.declared.link.Link.{Link}
use Rattle.cspf_db.specs.declared.table.address_range.AddressRange.{AddressRange}
use Rattle.cspf_db.specs.Tables.AddressRanges.{IsInRange, IsRangeOf}

-- Suppose that the local addresses of some rows (links) are between `lowest` and `highest`. If the
-- prefix's range has no address between these two, the prefix covers no local address of the rows.
pub none_in_range : (prefix : PrefixParts) (range : AddressRange) (lowest highest : ℕ) (part : List Link) → IsRangeOf prefix range → All (λ l. lowest ≤ l.local) part → All (λ l. l.local ≤ highest) part
    → ((address : ℕ) → lowest ≤ address → address ≤ highest → ¬ IsInRange range address) → All (λ l. ¬ Covers prefix l.local) part
none_in_range prefix range lowest highest part is low high none k d h covered = none _ (low k d h) (high k d h) ((is _).0 covered)
