-- Bytes are read as hops exactly if they are an object that spells these hops: the reader `ero_of`
-- agrees with the definition `Spells`.
use Rattle.std.proofs.Common.{◌≡◌, ℕ, zero, suc, ◌+◌, ◌*◌, ◌%◌, ◌^◌, ◌<◌, ◌≤◌, Bool, true, false, cond, eqb, ltb, List, [], ◌∷◌, ◌++◌, length, drop, get_or, Result, Ok, Err, append_assoc, refl, sym, ap, ◌∙◌, lit<, arith, length-append, length-drop}
use Rattle.std.proofs.Math.Seq.{drop-append_seam}
use Rattle.std.proofs.lemmas.Bool.{and_parts, eqb-true, ltb-false, eqb-false, le-ltb, ne_eqb, eq-eqb}
use Rattle.std.proofs.lemmas.List.{get_or-drop}
use Rattle.std.proofs.lemmas.Nat.{be_bytes_2, from_be_bytes-to_be_bytes_2}
use Rattle.std.specs.Int.{w16, to_be_bytes}
use Rattle.hex.specs.Hex.{IsBytes}
use Rattle.cspf_addr.specs.declared.hop.Hop.{Hop}
use Rattle.cspf_ero.specs.declared.ero_error.EroError.{EroError}
use Rattle.cspf_ero.specs.Objects.{header, SpellsEach, Spells}
use Rattle.cspf_addr.specs.ResultSteps.{◌>>=◌}
use Rattle.cspf_ero.specs.Reading.{length_field, subobject_hops, sized_ero_of, ero_of}
use Rattle.cspf_ero.specs.Laws.{AreObjectsRead, SpellsOneHopList}
use Rattle.cspf_ero.proofs.HopReading.{hops_at-more}
use Rattle.cspf_ero.proofs.Subobjects.{passed, hop_at-read, read_spells, spelled_read, length-spelled}

-- if all numbers of a list are bytes, so are all numbers after the first `n`
drop_bytes : (n : ℕ) (bytes : List ℕ) → IsBytes bytes → IsBytes (drop n bytes)
drop_bytes n bytes small i = rw (get_or-drop n bytes i 0) (small (n + i))

-- If two steps in sequence succeed with the value `b`, the first step succeeds with some value, and
-- the second step gives `b` for this value.
both_read : {A B : Type 0} (r : Result A EroError) (more : A → Result B EroError) (b : B) → (r >>= more) ≡ Ok b → (a : A) × (r ≡ Ok a) × (more a ≡ Ok b)
both_read (Ok a) more b same = (a, refl, same)
both_read (Err e) more b same = absurd (cc)

-- if `subobject_hops` reads bytes as hops, there are at most `most` hops, and the bytes spell them
-- in the sense of `SpellsEach`, with 8 bytes for each hop
pub hops_at-spells : (most at : ℕ) (bytes : List ℕ) (hops : List Hop) → IsBytes bytes → subobject_hops most at bytes ≡ Ok hops
    → (length hops ≤ most) × (length bytes ≡ 8 * length hops) × SpellsEach bytes hops
hops_at-spells most at [] [] small found = (omega arith, refl, refl)
hops_at-spells most at [] (hop ∷ hops) small found = absurd (cc)
hops_at-spells zero at (byte ∷ bytes) hops small found = absurd (cc)
hops_at-spells (suc most) at (byte ∷ bytes) hops small found =
    let (hop, first, more) = both_read _ _ hops found in
    let (rest, read, all) = both_read _ _ hops more in
    let later = hops_at-spells most (at + 8) (drop 8 (byte ∷ bytes)) rest (drop_bytes 8 (byte ∷ bytes) small) read in
    let whole : hop ∷ rest ≡ hops = cc all in
    let (front, eight, cut, spelled) = read_spells (byte ∷ bytes) hop small (hop_at-read at (byte ∷ bytes) hop first) in
    let size : length (byte ∷ bytes) ≡ length front + length (drop 8 (byte ∷ bytes)) = ap length cut ∙ length-append front (drop 8 (byte ∷ bytes)) in
    rw (← whole) (omega (arith, later.0), omega (arith, size, eight, later.1), (front, drop 8 (byte ∷ bytes), cut, spelled, later.2))

some_byte : (front back : List ℕ) → length front ≡ 8 → 0 < length (front ++ back)
some_byte front back eight = omega (arith, length-append front back)

-- subobjects that spell hops are read as these hops
pub spelled_hops : (most at : ℕ) (bytes : List ℕ) (hops : List Hop) → length hops ≤ most → SpellsEach bytes hops → subobject_hops most at bytes ≡ Ok hops
spelled_hops most at bytes [] few spelled = rw spelled refl
spelled_hops zero at bytes (hop ∷ hops) few spelled = absurd (omega arith)
spelled_hops (suc most) at bytes (hop ∷ hops) few (front, back, cut, first, rest) =
    let eight = length-spelled front hop first in
    let behind : drop 8 (front ++ back) ≡ back = ap (λ n. drop n (front ++ back)) (sym eight) ∙ drop-append_seam front back in
    rw (cut, hops_at-more most at (front ++ back) hop (some_byte front back eight) (spelled_read at front back hop first), behind, spelled_hops most (at + 8) back hops (omega arith) rest) refl

-- a list of at least four bytes consists of its first four bytes and the bytes after them
four_bytes : (bytes : List ℕ) → 4 ≤ length bytes → bytes ≡ (get_or bytes 0 0 ∷ get_or bytes 1 0 ∷ []) ++ get_or bytes 2 0 ∷ get_or bytes 3 0 ∷ drop 4 bytes
four_bytes [] whole = absurd (omega arith)
four_bytes (a ∷ []) whole = absurd (omega arith)
four_bytes (a ∷ b ∷ []) whole = absurd (omega arith)
four_bytes (a ∷ b ∷ c ∷ []) whole = absurd (omega arith)
four_bytes (a ∷ b ∷ c ∷ d ∷ rest) whole = refl

with_class : (field written rest : List ℕ) → field ≡ written → field ++ 20 ∷ 1 ∷ rest ≡ (written ++ 20 ∷ 1 ∷ []) ++ rest
with_class field written rest same = ap (λ (front : List ℕ). front ++ 20 ∷ 1 ∷ rest) same ∙ sym (append_assoc written (20 ∷ 1 ∷ []) rest)

-- Let a result be the error `e` if the test `b` is true, and `r` otherwise. If this result is the
-- value `x`, then `b` is false, and `r` is the value `x`.
refused_by : {A : Type 0} (b : Bool) (e : EroError) (r : Result A EroError) (x : A) → cond b (Err e) r ≡ Ok x → (b ≡ false) × (r ≡ Ok x)
refused_by true e r x same = absurd (cc)
refused_by false e r x same = (refl, same)

-- an object that is read as hops spells these hops
pub ero_of-spells : (bytes : List ℕ) (hops : List Hop) → IsBytes bytes → ero_of bytes ≡ Ok hops → Spells bytes hops
unfolding sized_ero_of
ero_of-spells bytes hops small found =
    let (short, a) = refused_by _ _ _ hops found in
    let (sized, b) = passed _ _ _ hops a in
    let (class, c) = passed _ _ _ hops b in
    let (empty, read) = refused_by _ _ _ hops c in
    let enough : 4 ≤ length bytes = ltb-false (length bytes) 4 short in
    let field : length_field bytes ≡ length bytes = eqb-true _ _ (and_parts _ _ sized).0 in
    let class_is : get_or bytes 2 0 ≡ 20 = eqb-true _ _ (and_parts _ _ class).0 in
    let type_is : get_or bytes 3 0 ≡ 1 = eqb-true _ _ (and_parts _ _ class).1 in
    let later = hops_at-spells 7 4 (drop 4 bytes) hops (drop_bytes 4 bytes small) read in
    let apart = eqb-false (length bytes) 4 empty in
    let rest : length (drop 4 bytes) ≡ 8 * length hops = later.1 in
    let size : length bytes ≡ 4 + 8 * length hops = omega (arith, length-drop 4 bytes, rest, enough) in
    let two = be_bytes_2 (get_or bytes 0 0 ∷ get_or bytes 1 0 ∷ []) (length bytes) refl (two_small (small 0) (small 1)) (sym field) in
    record {
      some = omega (arith, apart, size);
      most = later.0;
      size = size;
      body = drop 4 bytes;
      whole = four_bytes bytes enough ∙ rw (class_is, type_is) (with_class _ (to_be_bytes w16 (length bytes)) (drop 4 bytes) (sym two));
      each = later.2;
    }
  where
    two_small : {a b : ℕ} → a < 256 → b < 256 → (i : ℕ) → get_or (a ∷ b ∷ []) i 0 < 256
    two_small ha hb zero = ha
    two_small ha hb (suc zero) = hb
    two_small ha hb (suc (suc i)) = lit< tt

-- An object of `size` bytes is read as the hops of the bytes after its header. `size` must be a
-- multiple of 4 below 65,536, and at least one byte must follow the header.
pub sized_header : (size : ℕ) (body : List ℕ) → size < 2 ^ 16 → size % 4 ≡ 0 → 0 < length body → sized_ero_of size (header size ++ body) ≡ subobject_hops 7 4 body
unfolding sized_ero_of
sized_header size body small fourth some =
    let enough : ltb (length (header size ++ body)) 4 ≡ false = le-ltb (length (header size ++ body)) 4 (omega arith) in
    let more : eqb (length (header size ++ body)) 4 ≡ false = ne_eqb (length (header size ++ body)) 4 (λ same. omega (arith, same)) in
    let field : length_field (header size ++ body) ≡ size = from_be_bytes-to_be_bytes_2 size small in
    rw (enough, field, eq-eqb size size refl, fourth, more) refl

-- an object that spells hops is read as these hops
pub spelled_ero : (bytes : List ℕ) (hops : List Hop) → Spells bytes hops → ero_of bytes ≡ Ok hops
spelled_ero bytes hops spelled =
    let size = spelled.size in
    let long : length bytes ≡ 4 + length spelled.body = ap length spelled.whole ∙ length-append (header (length bytes)) spelled.body in
    let small : length bytes < 2 ^ 16 = omega (arith, spelled.most) in
    let fourth : length bytes % 4 ≡ 0 = omega arith in
    let some : 0 < length spelled.body = omega (arith, spelled.some) in
    ap (λ object. sized_ero_of (length bytes) object) spelled.whole
    ∙ (sized_header (length bytes) spelled.body small fourth some
    ∙ spelled_hops 7 4 spelled.body hops spelled.most spelled.each)

pub objects_read : AreObjectsRead
objects_read bytes hops small = (ero_of-spells bytes hops small, spelled_ero bytes hops)

pub one_hop_list : SpellsOneHopList
one_hop_list bytes hops other first second =
    let same : Ok hops ≡ Ok other = sym (spelled_ero bytes hops first) ∙ spelled_ero bytes other second in
    cc same
