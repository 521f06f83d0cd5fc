-- A text is refused for a fault exactly if it has this fault (`IsHopsFault`).
use Rattle.std.proofs.Common.{◌≡◌, ◌≢◌, ℕ, Bool, true, false, cond, eqb, List, ◌++◌, codes, drop, Result, Ok, Err, refl, ap, subst}
use Rattle.std.proofs.lemmas.Bool.{false_from_ne_true}
use Rattle.std.specs.List.{starts_with}
use Rattle.std.specs.Result.{result_map_both}
use Rattle.hex.specs.Hex.{decode_of}
use Rattle.hex.specs.declared.error.FromHexError.{FromHexError}
use Rattle.cspf_addr.specs.HopLists.{hops_of}
use Rattle.cspf_addr.specs.declared.hop.Hop.{Hop}
use Rattle.cspf_rows.specs.declared.row_error.HopsFault.{HopsFault}
use Rattle.cspf_rows.specs.declared.row_error.HopsFault.TheVariants as fault
use Rattle.cspf_rows.specs.FieldValues.{object_hops_of, hex_hops_of, either_hops_of}
use Rattle.cspf_rows.specs.RowRefusals.{IsHopsFault}
use Rattle.cspf_rows.proofs.FieldLemmas.{begins}

-- Let `f` map the errors of a result. If the mapped result is the error `e`, the result was an
-- error, and `f` maps this error to `e`.
pub mapped_error : {A B : Type 0} (r : Result (List Hop) A) (f : A → B) (e : B) → result_map_both (λ (h : List Hop). h) f r ≡ Err e → (why : A) × (r ≡ Err why) × (f why ≡ e)
mapped_error (Ok h) f e same = absurd (cc)
mapped_error (Err why) f e same = (why, refl, cc)

-- a result of the decoder isn't both an error and bytes
no_bytes : (r : Result (List ℕ) FromHexError) (e : FromHexError) (bytes : List ℕ) → r ≡ Err e → r ≡ Ok bytes → ⊥
no_bytes (Ok b) e bytes bad good = cc bad
no_bytes (Err f) e bytes bad good = cc good

-- if the digits after `ero:` are refused for the fault `why`, the whole text has this fault
hex_told : (text digits : List ℕ) (why : HopsFault) → text ≡ codes "ero:" ++ digits → hex_hops_of digits ≡ Err why → IsHopsFault text why
unfolding hex_hops_of
hex_told text digits why whole read = cases (decode_of digits) refl read
  where
    cases : (decoded : Result (List ℕ) FromHexError) → decode_of digits ≡ decoded → object_hops_of decoded ≡ Err why → IsHopsFault text why
    cases (Ok bytes) found same =
        let (e, bad, is) = mapped_error _ fault.Ero why same in
        subst (IsHopsFault text) is (digits, bytes, whole, found, bad)
    cases (Err e) found same =
        let is : fault.Hex ≡ why = cc same in
        subst (IsHopsFault text) is (digits, whole, λ bytes other. no_bytes (decode_of digits) e bytes found other)

-- if a text is refused for the fault `why`, it has this fault
pub fault_told : (text : List ℕ) (why : HopsFault) → either_hops_of text ≡ Err why → IsHopsFault text why
unfolding either_hops_of
fault_told text why read = cases (starts_with eqb text (codes "ero:")) refl read
  where
    cases : (test : Bool) → test ≡ starts_with eqb text (codes "ero:")
        → cond test (hex_hops_of (drop 4 text)) (result_map_both (λ (h : List Hop). h) fault.Text (hops_of text)) ≡ Err why → IsHopsFault text why
    cases true is same = hex_told text (drop 4 text) why ((begins text true is).0 refl) same
    cases false is same =
        let (e, bad, same_fault) = mapped_error _ fault.Text why same in
        subst (IsHopsFault text) same_fault (λ rest whole. let told = (begins text false is).1 rest whole in absurd (cc), bad)

-- digits that decode to no bytes are refused as `Hex`
hex_fault : (digits : List ℕ) → ((bytes : List ℕ) → decode_of digits ≢ Ok bytes) → hex_hops_of digits ≡ Err fault.Hex
unfolding hex_hops_of
hex_fault digits none = cases (decode_of digits) refl
  where
    cases : (decoded : Result (List ℕ) FromHexError) → decode_of digits ≡ decoded → object_hops_of decoded ≡ Err fault.Hex
    cases (Ok bytes) found = absurd (none bytes found)
    cases (Err e) found = refl

-- if a text has a fault, it is refused for this fault
pub told_fault : (text : List ℕ) (why : HopsFault) → IsHopsFault text why → either_hops_of text ≡ Err why
unfolding either_hops_of hex_hops_of
told_fault text (fault.Text why) (other, bad) = rw (false_from_ne_true _ (λ test. other (drop 4 text) ((begins text _ refl).0 test)), bad) refl
told_fault text fault.Hex (digits, whole, none) =
    let behind : drop 4 text ≡ digits = ap (drop 4) whole in
    rw ((begins text _ refl).1 digits whole, behind) (hex_fault digits none)
told_fault text (fault.Ero why) (digits, bytes, whole, found, bad) =
    let behind : drop 4 text ≡ digits = ap (drop 4) whole in
    rw ((begins text _ refl).1 digits whole, behind, found, bad) refl
