-- The order of addresses.
use Rattle.std.specs.Prelude.{◌≡◌, ℕ, Some}
use Rattle.std.specs.Ordering.{nat_cmp}
use Rattle.cspf_addr.specs.contracts.addr.AddrOrd.TheImpl as addr_ord
use Rattle.cspf_addr.specs.contracts.addr.AddrPartialOrd.TheImpl as addr_partial_ord

-- `cmp` of two addresses is `cmp` of their numbers.
abbrev pub ComparesAsNumbers : Type 0
ComparesAsNumbers = (a b : ℕ) → (addr_ord.ghosts).cmp a b ≡ nat_cmp a b

-- `partial_cmp` of two addresses, and so `<`, is `partial_cmp` of their numbers.
abbrev pub PartlyComparesAsNumbers : Type 0
PartlyComparesAsNumbers = (a b : ℕ) → (addr_partial_ord.ghosts).partial_cmp a b ≡ Some (nat_cmp a b)
