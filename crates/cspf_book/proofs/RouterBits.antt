-- The bits of routers: a test of bits shows that changes affect no router on a placement's route.
use Rattle.std.proofs.Common.{◌≡◌, ℕ, zero, suc, ◌+◌, ◌*◌, ◌/◌, ◌%◌, ◌^◌, ◌<◌, ◌&&◌, Bool, true, false, not, nat_eq, eqb-true, List, [], ◌∷◌, map, remove, refl, sym, ap, ◌∙◌, arith}
use Rattle.std.specs.Int.Bits.{bit_and, bit_or, and_zero_l, and_self}
use Rattle.std.specs.Int.{bit_at}
use Rattle.std.specs.List.{AllByRecursion}
use Rattle.std.proofs.lemmas.Bool.{false≢true}
use Rattle.std.proofs.lemmas.Nat.Bits.{bit_at_and, bit_at_or, same_from_bits}
use Rattle.std.proofs.lemmas.Nat.{or_comm, and_comm, and_assoc, and_or_self, and_shr, and_mod, pow_pos, pow_below, mod_below}
use Rattle.cspf_book.specs.declared.path.Passed.{Passed}
use Rattle.cspf_book.specs.declared.placement.Placement.{Placement}
use Rattle.cspf_book.specs.RouterBits.{one_of_32, four_bits, bits_with, bits_of, IsAmong, has_quarters}
use Rattle.cspf_book.specs.Touched.{IsCommon}

-- Bits that are among `bits` are also among `bits` together with further bits.
pub among_more : (bits more bit : ℕ) → bit_and bits bit ≡ bit → bit_and (bit_or bits more) bit ≡ bit
among_more bits more bit is =
    ap (bit_and (bit_or bits more)) (sym is)
    ∙ sym (and_assoc bit (bit_or bits more) bits)
    ∙ ap (λ b. bit_and b bit) (ap (λ b. bit_and b bits) (or_comm bits more) ∙ and_or_self bits more)
    ∙ is

-- Bits that are all among `m` are still among `m` where some of them are left out.
pub common_less : (common its m : ℕ) → bit_and common m ≡ common → bit_and (bit_and common its) m ≡ bit_and common its
common_less common its m is =
    and_assoc m common its ∙ ap (bit_and common) (and_comm its m) ∙ sym (and_assoc its common m) ∙ ap (λ b. bit_and b its) is

-- Bits that have become common to the links of all keys are bits of the last link, too.
pub common_last : (common m : ℕ) → bit_and (bit_and common m) m ≡ bit_and common m
common_last common m = and_assoc m common m ∙ ap (bit_and common) (and_self m)

-- If `bits` has the bits of both routers, it has the bits that are common to their links.
pub common_among : (bits common router far : ℕ) → IsAmong bits router → IsAmong bits far → IsCommon common router far → bit_and common bits ≡ common
common_among bits common router far near its is =
    let m = bit_or (four_bits router) (four_bits far) in
    let whole = among_both bits (four_bits router) (four_bits far) near its in
    ap (λ b. bit_and b bits) (sym is) ∙ and_assoc bits common m ∙ ap (bit_and common) (and_comm m bits ∙ whole) ∙ is
  where
    among_both : (x a b : ℕ) → bit_and x a ≡ a → bit_and x b ≡ b → bit_and x (bit_or a b) ≡ bit_or a b
    among_both x a b first second = same_from_bits _ _ (λ i.
        omega (arith, bit_at_and x (bit_or a b) i, bit_at_or a b i, bit_at_and x a i, bit_at_and x b i, ap (λ y. bit_at y i) first, ap (λ y. bit_at y i) second))

-- If the four bits of a router are added to some bits, they are among the resulting bits.
pub among_added : (bits router : ℕ) → IsAmong (bit_or bits (four_bits router)) router
among_added bits router = and_or_self (four_bits router) bits

-- If a router's bits are among `bits`, they are still among them after the bits of the links'
-- neighbors are added.
among_with : (bits router : ℕ) (ls : List Passed) → IsAmong bits router → IsAmong (bits_with bits ls) router
among_with bits router [] is = is
among_with bits router (l ∷ ls) is =
    among_with (bit_or bits (four_bits l.to)) router ls (among_more bits (four_bits l.to) (four_bits router) is)

-- Add the bits of the links' neighbors to some bits. If a claim is true of each router whose bits
-- are among the result, it is true of each neighbor of a link.
off_links : (P : ℕ → Type 0) (bits : ℕ) (ls : List Passed) → ((router : ℕ) → IsAmong (bits_with bits ls) router → P router)
    → AllByRecursion (λ l. P l.to) ls
off_links P bits [] each = tt
off_links P bits (l ∷ ls) each = (
  each l.to (among_with (bit_or bits (four_bits l.to)) l.to ls (among_added bits l.to)),
  off_links P (bit_or bits (four_bits l.to)) ls each,
)

-- `one_of_32` is greater than 0 and below 2 ^ 32.
bit_some : (n : ℕ) → (0 < one_of_32 n) × (one_of_32 n < 2 ^ 32)
bit_some n = (pow_pos (n % 32), pow_below (n % 32) 32 (mod_below n 32 (omega arith)))

-- The test `not (nat_eq n 0)` is true for each number n above 0.
tells : (n : ℕ) → 0 < n → not (nat_eq n 0) ≡ true
tells n some =
    elim (nat_eq n 0) as (λ b. nat_eq n 0 ≡ b → not b ≡ true) [
      | true ↦ λ none. absurd (let never = eqb-true n 0 none in omega (arith, never, some))
      | false ↦ λ _. refl
    ] refl

-- If the four quarters of a number are greater than 0, at least one bit is set in each quarter.
quarters_some : (x y z w : ℕ) → (0 < x) × (x < 2 ^ 32) → (0 < y) × (y < 2 ^ 32) → (0 < z) × (z < 2 ^ 32) → (0 < w) × (w < 2 ^ 32)
    → has_quarters (x + y * 2 ^ 32 + (z + w * 2 ^ 32) * 2 ^ 64) ≡ true
quarters_some x y z w a b c d =
    let n = x + y * 2 ^ 32 + (z + w * 2 ^ 32) * 2 ^ 64 in
    let first : 0 < n % 2 ^ 32 = omega (arith, a.0, a.1) in
    let second : 0 < n / 2 ^ 32 % 2 ^ 32 = omega (arith, a.1, b.0, b.1) in
    let third : 0 < n / 2 ^ 64 % 2 ^ 32 = omega (arith, a.1, b.1, c.0, c.1) in
    let fourth : 0 < n / 2 ^ 96 % 2 ^ 32 = omega (arith, a.1, b.1, c.1, d.0, d.1) in
    rw (tells (n % 2 ^ 32) first, tells (n / 2 ^ 32 % 2 ^ 32) second, tells (n / 2 ^ 64 % 2 ^ 32) third, tells (n / 2 ^ 96 % 2 ^ 32) fourth) refl

-- Among the four bits of a router, at least one bit is set in each quarter.
four_quarters : (router : ℕ) → has_quarters (four_bits router) ≡ true
unfolding four_bits
four_quarters router =
    let n = router * 2654435769 in
    quarters_some (one_of_32 (n / 2 ^ 27)) (one_of_32 (n / 2 ^ 22)) (one_of_32 (n / 2 ^ 17)) (one_of_32 (n / 2 ^ 12)) (bit_some (n / 2 ^ 27)) (bit_some (n / 2 ^ 22)) (bit_some (n / 2 ^ 17)) (bit_some (n / 2 ^ 12))

-- If no bit of a number is set in a quarter, no bit is set there in its conjunction with another
-- number.
lost_quarter : (a b k : ℕ) → nat_eq (a / 2 ^ k % 2 ^ 32) 0 ≡ true → nat_eq (bit_and a b / 2 ^ k % 2 ^ 32) 0 ≡ true
lost_quarter a b k none =
    let shared = ap (λ n. n % 2 ^ 32) (and_shr a b k) ∙ and_mod (a / 2 ^ k) (b / 2 ^ k) 32 in
    ap (λ n. nat_eq n 0) (shared ∙ ap (λ n. bit_and n (b / 2 ^ k % 2 ^ 32)) (eqb-true (a / 2 ^ k % 2 ^ 32) 0 none) ∙ and_zero_l (b / 2 ^ k % 2 ^ 32))

lost_first : (a b : ℕ) → nat_eq (a % 2 ^ 32) 0 ≡ true → nat_eq (bit_and a b % 2 ^ 32) 0 ≡ true
lost_first a b none =
    ap (λ n. nat_eq n 0) (and_mod a b 32 ∙ ap (λ n. bit_and n (b % 2 ^ 32)) (eqb-true (a % 2 ^ 32) 0 none) ∙ and_zero_l (b % 2 ^ 32))

-- If some quarter of a number has no bit that is set, this is also true of its conjunction with
-- another number.
quarters_lost : (a b : ℕ) → has_quarters a ≡ false → has_quarters (bit_and a b) ≡ false
quarters_lost a b = fewer _ _ _ _ _ _ _ _ (lost_first a b) (lost_quarter a b 32) (lost_quarter a b 64) (lost_quarter a b 96)
  where
    fewer : (p q r s t u v w : Bool) → (p ≡ true → t ≡ true) → (q ≡ true → u ≡ true) → (r ≡ true → v ≡ true) → (s ≡ true → w ≡ true)
        → (not p && not q && not r && not s) ≡ false → (not t && not u && not v && not w) ≡ false
    fewer true q r s t u v w one two three four none = ap (λ b. not b && not u && not v && not w) (one refl)
    fewer false true r s true u v w one two three four none = refl
    fewer false true r s false u v w one two three four none = ap (λ b. not b && not v && not w) (two refl)
    fewer false false true s true u v w one two three four none = refl
    fewer false false true s false true v w one two three four none = refl
    fewer false false true s false false v w one two three four none = ap (λ b. not b && not w) (three refl)
    fewer false false false true true u v w one two three four none = refl
    fewer false false false true false true v w one two three four none = refl
    fewer false false false true false false true w one two three four none = refl
    fewer false false false true false false false w one two three four none = ap not (four refl)
    fewer false false false false t u v w one two three four none = absurd (false≢true (sym none))

-- If `all` and `bits` don't share a bit in each quarter, no router has its four bits among both.
pub apart_bits : (all bits router : ℕ) → has_quarters (bit_and all bits) ≡ false → IsAmong bits router → ¬ IsAmong all router
apart_bits all bits router apart is has =
    let own = sym has ∙ ap (bit_and all) (sym is) ∙ sym (and_assoc (four_bits router) all bits) in
    false≢true (sym (ap has_quarters own ∙ quarters_lost (bit_and all bits) (four_bits router) apart) ∙ four_quarters router)

-- If a claim is true of each router whose bits the placement has, it is true of the head-end and of
-- the neighbor of each link on the placement's route.
pub off_route : (P : ℕ → Type 0) (p : Placement) → ((router : ℕ) → IsAmong (bits_of p) router → P router)
    → P p.request.from × AllByRecursion (λ l. P l.to) p.route
off_route P p each = (
  each p.request.from (among_with (four_bits p.request.from) p.request.from p.route (and_self (four_bits p.request.from))),
  off_links P (four_bits p.request.from) p.route each,
)

-- Remove a placement and its bits from their lists, at the same index. Then the list of bits still
-- has the bits of the placements.
pub bits-remove : (ps : List Placement) (index : ℕ) → remove (map bits_of ps) index ≡ map bits_of (remove ps index)
bits-remove [] zero = refl
bits-remove [] (suc index) = refl
bits-remove (p ∷ ps) zero = refl
bits-remove (p ∷ ps) (suc index) = ap (λ bs. bits_of p ∷ bs) (bits-remove ps index)
