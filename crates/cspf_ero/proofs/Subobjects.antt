-- The first bytes of a list are read as a hop exactly if they are a subobject that spells this hop.
use Rattle.std.proofs.Common.{◌≡◌, ℕ, zero, suc, ◌-◌, ◌*◌, ◌/◌, ◌%◌, ◌^◌, ◌<◌, ◌≤◌, Bool, true, false, cond, leb, List, [], ◌∷◌, ◌++◌, length, drop, get_or, Result, Ok, Err, append_assoc, refl, sym, ap, subst, ◌∙◌, lit<, arith}
use Rattle.std.proofs.Math.Nat.{mul-div_cancel, div-mul-le_self}
use Rattle.std.proofs.lemmas.Bool.{and_parts, eqb-true, leb-true, le-leb}
use Rattle.std.proofs.lemmas.Nat.{pow_pos, be_bytes_4, from_be_bytes-to_be_bytes_4}
use Rattle.std.specs.Int.{w32, to_be_bytes}
use Rattle.hex.specs.Hex.{IsBytes}
use Rattle.cspf_addr.specs.PrefixParts.{PrefixParts, IsPrefix, with_first_bits}
use Rattle.cspf_addr.specs.Prefixes.{Covers}
use Rattle.cspf_addr.specs.declared.hop.Hop.{Hop}
use Rattle.cspf_ero.specs.declared.ero_error.EroError.{EroError}
use Rattle.cspf_ero.specs.Objects.{type_byte, subobject, SpellsHop}
use Rattle.cspf_ero.specs.Reading.{address_in, hop_at}

-- Let a result be `r` if the test `b` is true, and the error `e` otherwise. If this result is the
-- value `x`, then `b` is true, and `r` is the value `x`.
pub passed : {A : Type 0} (b : Bool) (r : Result A EroError) (e : EroError) (x : A) → cond b r (Err e) ≡ Ok x → (b ≡ true) × (r ≡ Ok x)
passed true r e x same = (refl, same)
passed false r e x same = absurd (cc)

-- the bytes begin with a subobject of type 1 and of 8 bytes, and its bit L, prefix length and
-- prefix are those of the hop
pub record IsReadHop (bytes : List ℕ) (hop : Hop) : Type 0 where
  pub kind : get_or bytes 0 0 % 128 ≡ 1
  pub whole : 8 ≤ length bytes
  pub size : get_or bytes 1 0 ≡ 8
  pub most : get_or bytes 6 0 ≤ 32
  pub loose : leb 128 (get_or bytes 0 0) ≡ hop.loose
  pub prefix : with_first_bits (get_or bytes 6 0) (address_in bytes) ≡ hop.prefix

pub hop_at-read : (at : ℕ) (bytes : List ℕ) (hop : Hop) → hop_at at bytes ≡ Ok hop → IsReadHop bytes hop
unfolding hop_at
hop_at-read at bytes hop found =
    let (kind, more) = passed _ _ _ hop found in
    let (size, rest) = passed _ _ _ hop more in
    let (bits, last) = passed _ _ _ hop rest in
    let parts = and_parts _ _ size in
    record {
      kind = eqb-true _ _ kind;
      whole = leb-true _ _ parts.0;
      size = eqb-true _ _ parts.1;
      most = leb-true _ _ bits;
      loose = cc last;
      prefix = cc last;
    }

-- a list of at least eight bytes consists of its first eight bytes and the bytes after them
eight_bytes : (bytes : List ℕ) → 8 ≤ length bytes
    → bytes ≡ get_or bytes 0 0 ∷ get_or bytes 1 0 ∷ get_or bytes 2 0 ∷ get_or bytes 3 0 ∷ get_or bytes 4 0 ∷ get_or bytes 5 0 ∷ get_or bytes 6 0 ∷ get_or bytes 7 0 ∷ drop 8 bytes
eight_bytes [] whole = absurd (omega arith)
eight_bytes (a ∷ []) whole = absurd (omega arith)
eight_bytes (a ∷ b ∷ []) whole = absurd (omega arith)
eight_bytes (a ∷ b ∷ c ∷ []) whole = absurd (omega arith)
eight_bytes (a ∷ b ∷ c ∷ d ∷ []) whole = absurd (omega arith)
eight_bytes (a ∷ b ∷ c ∷ d ∷ e ∷ []) whole = absurd (omega arith)
eight_bytes (a ∷ b ∷ c ∷ d ∷ e ∷ f ∷ []) whole = absurd (omega arith)
eight_bytes (a ∷ b ∷ c ∷ d ∷ e ∷ f ∷ g ∷ []) whole = absurd (omega arith)
eight_bytes (a ∷ b ∷ c ∷ d ∷ e ∷ f ∷ g ∷ h ∷ rest) whole = refl

-- A list begins with a subobject if its first bytes are the type byte, the length 8, the address,
-- the prefix length and the padding of this subobject.
by_parts : (first size bits padding kind length : ℕ) (four address rest : List ℕ) → first ≡ kind → size ≡ 8 → bits ≡ length → four ≡ address
    → first ∷ size ∷ (four ++ bits ∷ padding ∷ rest) ≡ (kind ∷ 8 ∷ (address ++ length ∷ padding ∷ [])) ++ rest
by_parts first size bits padding kind length four address rest first_is size_is bits_is four_is =
    rw (first_is, size_is, bits_is, four_is) (ap (λ (back : List ℕ). kind ∷ 8 ∷ back) (sym (append_assoc address (length ∷ padding ∷ []) rest)))

-- the first byte of a subobject of type 1 is the byte that `type_byte` gives for the subobject's
-- bit L
type_byte-read : (byte : ℕ) (loose : Bool) → byte < 256 → byte % 128 ≡ 1 → leb 128 byte ≡ loose → byte ≡ type_byte loose
type_byte-read byte true small kind high = let above : 128 ≤ byte = leb-true 128 byte high in omega arith
type_byte-read byte false small kind high = grind arith

-- the prefix that consists of an address's first bits covers this address
pub first_bits_cover : (bits address : ℕ) → Covers (with_first_bits bits address) address
first_bits_cover bits address = mul-div_cancel (address / 2 ^ (32 - bits)) (pow_pos (32 - bits))

pub first_bits_prefix : (bits address : ℕ) → bits ≤ 32 → address < 2 ^ 32 → IsPrefix (with_first_bits bits address)
first_bits_prefix bits address most small = record {
  most = most;
  small = let below = div-mul-le_self address (2 ^ (32 - bits)) in omega (arith, below);
  zeros = ap (λ quotient. quotient * 2 ^ (32 - bits)) (first_bits_cover bits address);
}

-- if a prefix covers an address, it consists of the first bits of this address
pub covering : (prefix : PrefixParts) (address : ℕ) → IsPrefix prefix → Covers prefix address → with_first_bits prefix.length address ≡ prefix
covering prefix address proper agrees =
    ap (λ (bits : ℕ). record { address = bits; length = prefix.length }) (ap (λ quotient. quotient * 2 ^ (32 - prefix.length)) (sym agrees) ∙ proper.zeros)

-- if bytes meet `IsReadHop` for a hop, the first 8 bytes are a subobject that spells this hop
pub read_spells : (bytes : List ℕ) (hop : Hop) → IsBytes bytes → IsReadHop bytes hop
    → (front : List ℕ) × (length front ≡ 8) × (bytes ≡ front ++ drop 8 bytes) × SpellsHop front hop
read_spells bytes hop small read =
    let address = address_in bytes in
    let below : address < 2 ^ 32 = omega (arith, small 2, small 3, small 4, small 5) in
    let four = be_bytes_4 (get_or bytes 2 0 ∷ get_or bytes 3 0 ∷ get_or bytes 4 0 ∷ get_or bytes 5 0 ∷ []) address refl (four_small (small 2) (small 3) (small 4) (small 5)) refl in
    let first = type_byte-read (get_or bytes 0 0) hop.loose (small 0) read.kind read.loose in
    let bits = ap (λ (p : PrefixParts). p.length) read.prefix in (
      subobject hop.loose address hop.prefix.length (get_or bytes 7 0),
      refl,
      eight_bytes bytes read.whole
          ∙ by_parts _ _ _ (get_or bytes 7 0) (type_byte hop.loose) hop.prefix.length _ (to_be_bytes w32 address) (drop 8 bytes) first read.size bits (sym four),
      record {
        address = address;
        padding = get_or bytes 7 0;
        whole = refl;
        small = below;
        prefix = subst IsPrefix read.prefix (first_bits_prefix (get_or bytes 6 0) address read.most below);
        agrees = subst (λ prefix. Covers prefix address) read.prefix (first_bits_cover (get_or bytes 6 0) address);
      },
    )
  where
    four_small : {a b c d : ℕ} → a < 256 → b < 256 → c < 256 → d < 256 → (i : ℕ) → get_or (a ∷ b ∷ c ∷ d ∷ []) i 0 < 256
    four_small ha hb hc hd zero = ha
    four_small ha hb hc hd (suc zero) = hb
    four_small ha hb hc hd (suc (suc zero)) = hc
    four_small ha hb hc hd (suc (suc (suc zero))) = hd
    four_small ha hb hc hd (suc (suc (suc (suc i)))) = lit< tt

-- if bytes meet `IsReadHop` for a hop, the subobject at the start of the bytes is read as this hop
hop_at-has : (at : ℕ) (bytes : List ℕ) (hop : Hop) → IsReadHop bytes hop → hop_at at bytes ≡ Ok hop
unfolding hop_at
hop_at-has at bytes hop read = rw (read.kind, le-leb 8 (length bytes) read.whole, read.size, le-leb (get_or bytes 6 0) 32 read.most, read.prefix, read.loose) refl

-- the first byte of a hop's subobject has the type 1, and its highest bit, L, is set exactly if the
-- hop is loose
type_of-type_byte : (loose : Bool) → type_byte loose % 128 ≡ 1
type_of-type_byte true = refl
type_of-type_byte false = refl

loose_of-type_byte : (loose : Bool) → leb 128 (type_byte loose) ≡ loose
loose_of-type_byte true = refl
loose_of-type_byte false = refl

-- if bytes begin with a subobject that spells a hop, this subobject is read as this hop
pub spelled_read : (at : ℕ) (front back : List ℕ) (hop : Hop) → SpellsHop front hop → hop_at at (front ++ back) ≡ Ok hop
spelled_read at front back hop spelled =
    hop_at-has at (front ++ back) hop
    (rw spelled.whole record {
      kind = type_of-type_byte hop.loose;
      whole = omega arith;
      size = refl;
      most = spelled.prefix.most;
      loose = loose_of-type_byte hop.loose;
      prefix = ap (with_first_bits hop.prefix.length) (from_be_bytes-to_be_bytes_4 spelled.address spelled.small) ∙ covering hop.prefix spelled.address spelled.prefix spelled.agrees;
    })

pub length-spelled : (front : List ℕ) (hop : Hop) → SpellsHop front hop → length front ≡ 8
length-spelled front hop spelled = ap length spelled.whole
