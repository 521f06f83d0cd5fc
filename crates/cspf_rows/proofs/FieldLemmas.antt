-- A field is read as a value exactly if the field's text spells this value.
use Rattle.std.proofs.Common.{◌≡◌, ℕ, zero, suc, ltb, ◌^◌, ◌<◌, Bool, true, false, cond, eqb, inl, inr, List, ◌++◌, codes, drop, ap, Option, Some, None, Result, Ok, Err, refl, arith}
use Rattle.std.proofs.lemmas.Bool.{ltb-true, lt-ltb, false_from_ne_true}
use Rattle.std.proofs.lemmas.Bool.Decides.{Decides-eqb}
use Rattle.std.proofs.lemmas.Slice.Eq.{starts_is}
use Rattle.std.specs.List.{starts_with}
use Rattle.hex.specs.Hex.{decode_of}
use Rattle.hex.specs.declared.error.FromHexError.{FromHexError}
use Rattle.hex.proofs.HexLemmas.{decode_of-ok}
use Rattle.std.specs.Option.{ok_or}
use Rattle.std.specs.Result.{result_map_both}
use Rattle.cspf_addr.specs.MaskText.{SpellsMask}
use Rattle.cspf_addr.specs.HopLists.{hops_of}
use Rattle.cspf_addr.specs.declared.hop.Hop.{Hop}
use Rattle.cspf_ero.specs.Objects.{Spells}
use Rattle.cspf_ero.specs.Laws.{AreObjectsRead}
use Rattle.cspf_rows.specs.declared.row_error.HopsFault.TheVariants as fault
use Rattle.cspf_rows.specs.declared.row_error.RowError.{RowError}
use Rattle.cspf_rows.specs.declared.row_error.RowError.TheVariants as error
use Rattle.cspf_addr.specs.ResultSteps.{◌>>=◌}
use Rattle.cspf_rows.specs.FieldValues.{field, number_at, small_number_at, priority_at, flag_number, flag_at, address_at, mask_at, object_hops_of, hex_hops_of, either_hops_of, hops_at}
use Rattle.cspf_rows.specs.FieldTexts.{AreTextsRead}
use Rattle.cspf_rows.specs.Says.{SpellsNumber, SpellsFlag, SpellsAddress, SpellsHops}

-- Let two reading steps, one after the other, give the value `y`. Then the first step gave a value,
-- and the second step made `y` from this value.
pub first_step : {A B : Type 0} (r : Result A RowError) (f : A → Result B RowError) (y : B) → (r >>= f) ≡ Ok y → (x : A) × (r ≡ Ok x) × (f x ≡ Ok y)
first_step (Ok x) f y found = (x, refl, found)
first_step (Err e) f y found = absurd (cc)

-- if `ok_or` gives a value, the option had that value
found : {A : Type 0} (o : Option A) (e : RowError) (x : A) → ok_or o e ≡ Ok x → o ≡ Some x
found None e x same = absurd (cc)
found (Some y) e x same = cc

-- Let a test choose between the value `v` and an error. If the result is the value `n`, the test
-- was true and `n` is `v`.
passed : {A : Type 0} (b : Bool) (v n : A) (e : RowError) → cond b (Ok v) (Err e) ≡ Ok n → (b ≡ true) × (v ≡ n)
passed true v n e same = (refl, cc)
passed false v n e same = absurd (cc)

-- a number n below 2 is the number of the flag `n == 1`
small_flag : (n : ℕ) (flag : Bool) → n < 2 → eqb n 1 ≡ flag → n ≡ flag_number flag
small_flag zero flag small is = rw (← is) refl
small_flag (suc zero) flag small is = rw (← is) refl
small_flag (suc (suc n)) flag small is = absurd (omega arith)

-- a number that is read as a flag is the number of this flag
flag_passed : (n : ℕ) (flag : Bool) (e : RowError) → cond (ltb n 2) (Ok (eqb n 1)) (Err e) ≡ Ok flag → n ≡ flag_number flag
flag_passed n flag e same = let test = passed _ _ _ _ same in small_flag n flag (ltb-true n 2 test.0) test.1

-- the number of a flag is read as this flag
flag_of_number : (flag : Bool) (e : RowError) → cond (ltb (flag_number flag) 2) (Ok (eqb (flag_number flag) 1)) (Err e) ≡ Ok flag
flag_of_number true e = refl
flag_of_number false e = refl

flag_number-small : (flag : Bool) → flag_number flag < 2 ^ 32
flag_number-small true = omega arith
flag_number-small false = omega arith

module _ (texts : AreTextsRead) (fields : List (List ℕ)) (place : ℕ) where
  pub number_at-spelled : (n : ℕ) → SpellsNumber (2 ^ 64) (field fields place) n → number_at fields place ≡ Ok n
  unfolding number_at
  number_at-spelled n s = rw ((texts.numbers (field fields place) n).1 (s.small, s.written)) refl

  pub spelled-number_at : (n : ℕ) → number_at fields place ≡ Ok n → SpellsNumber (2 ^ 64) (field fields place) n
  unfolding number_at
  spelled-number_at n read =
      let h = (texts.numbers (field fields place) n).0 (found _ _ n read) in
      record { small = h.0; written = h.1 }

  pub small_number_at-spelled : (n : ℕ) → SpellsNumber (2 ^ 32) (field fields place) n → small_number_at fields place ≡ Ok n
  unfolding small_number_at
  small_number_at-spelled n s =
      let wide : SpellsNumber (2 ^ 64) (field fields place) n = record { small = omega (arith, s.small); written = s.written } in
      rw (number_at-spelled n wide, lt-ltb n (2 ^ 32) s.small) refl

  pub spelled-small_number_at : (n : ℕ) → small_number_at fields place ≡ Ok n → SpellsNumber (2 ^ 32) (field fields place) n
  unfolding small_number_at
  spelled-small_number_at n read =
      let step = first_step _ _ _ read in
      let test = passed _ _ _ _ step.2 in
      rw (← test.1) (record { small = ltb-true _ _ test.0; written = (spelled-number_at step.0 step.1).written })

  pub priority_at-spelled : (n : ℕ) → SpellsNumber 8 (field fields place) n → priority_at fields place ≡ Ok n
  unfolding priority_at
  priority_at-spelled n s =
      let wide : SpellsNumber (2 ^ 32) (field fields place) n = record { small = omega (arith, s.small); written = s.written } in
      rw (small_number_at-spelled n wide, lt-ltb n 8 s.small) refl

  pub spelled-priority_at : (n : ℕ) → priority_at fields place ≡ Ok n → SpellsNumber 8 (field fields place) n
  unfolding priority_at
  spelled-priority_at n read =
      let step = first_step _ _ _ read in
      let test = passed _ _ _ _ step.2 in
      rw (← test.1) (record { small = ltb-true _ _ test.0; written = (spelled-small_number_at step.0 step.1).written })

  pub flag_at-spelled : (flag : Bool) → SpellsFlag (field fields place) flag → flag_at fields place ≡ Ok flag
  unfolding flag_at
  flag_at-spelled flag s =
      rw (small_number_at-spelled (flag_number flag) (record { small = flag_number-small flag; written = s })) (flag_of_number flag (error.Number place))

  pub spelled-flag_at : (flag : Bool) → flag_at fields place ≡ Ok flag → SpellsFlag (field fields place) flag
  unfolding flag_at
  spelled-flag_at flag read =
      let step = first_step (small_number_at fields place) _ flag read in
      let same = flag_passed step.0 flag (error.Number place) step.2 in
      rw (← same) ((spelled-small_number_at step.0 step.1).written)

  pub address_at-spelled : (n : ℕ) → SpellsAddress (field fields place) n → address_at fields place ≡ Ok n
  unfolding address_at
  address_at-spelled n s = rw ((texts.addresses (field fields place) n).1 (s.small, s.written)) refl

  pub spelled-address_at : (n : ℕ) → address_at fields place ≡ Ok n → SpellsAddress (field fields place) n
  unfolding address_at
  spelled-address_at n read =
      let h = (texts.addresses (field fields place) n).0 (found _ _ n read) in
      record { small = h.0; written = h.1 }

  pub mask_at-spelled : (n : ℕ) → SpellsMask (field fields place) n → mask_at fields place ≡ Ok n
  unfolding mask_at
  mask_at-spelled n s = rw ((texts.masks (field fields place) n).1 s) refl

  pub spelled-mask_at : (n : ℕ) → mask_at fields place ≡ Ok n → SpellsMask (field fields place) n
  unfolding mask_at
  spelled-mask_at n read = (texts.masks (field fields place) n).0 (found _ _ n read)

-- if a result is a list of hops once its errors are mapped, the result was this list of hops before
kept : {A B : Type 0} (r : Result (List Hop) A) (f : A → B) (hops : List Hop) → result_map_both (λ (h : List Hop). h) f r ≡ Ok hops → r ≡ Ok hops
kept (Ok h) f hops same = cc
kept (Err e) f hops same = absurd (cc)

-- `starts_with` is true exactly for a text that is `ero:` followed by other bytes, and `drop 4`
-- gives these bytes
pub begins : (text : List ℕ) (test : Bool) → test ≡ starts_with eqb text (codes "ero:")
    → (test ≡ true → text ≡ codes "ero:" ++ drop 4 text) × ((rest : List ℕ) → text ≡ codes "ero:" ++ rest → test ≡ true)
begins text test is = starts_is Decides-eqb text (codes "ero:") test is

-- if digits decode to bytes that spell hops, the digits are read as these hops
hex_hops_of-spelled : AreObjectsRead → (digits : List ℕ) (bytes : List ℕ) (hops : List Hop) → decode_of digits ≡ Ok bytes → Spells bytes hops → hex_hops_of digits ≡ Ok hops
unfolding hex_hops_of
hex_hops_of-spelled objects digits bytes hops found spelled = rw (found, (objects bytes hops (decode_of-ok digits bytes found).3).1 spelled) refl

spelled-hex_hops_of : AreObjectsRead → (digits : List ℕ) (hops : List Hop) → hex_hops_of digits ≡ Ok hops → (bytes : List ℕ) × (decode_of digits ≡ Ok bytes) × Spells bytes hops
unfolding hex_hops_of
spelled-hex_hops_of objects digits hops read = cases (decode_of digits) refl read
  where
    cases : (decoded : Result (List ℕ) FromHexError) → decode_of digits ≡ decoded → object_hops_of decoded ≡ Ok hops → (bytes : List ℕ) × (decode_of digits ≡ Ok bytes) × Spells bytes hops
    cases (Ok bytes) found read = (bytes, found, (objects bytes hops (decode_of-ok digits bytes found).3).0 (kept _ _ hops read))
    cases (Err e) found read = absurd (cc)

-- if a text spells hops, as a hop list or as an EXPLICIT_ROUTE object, it is read as these hops
either-spelled : AreObjectsRead → (text : List ℕ) (hops : List Hop) → SpellsHops text hops → either_hops_of text ≡ Ok hops
unfolding either_hops_of
either-spelled objects text hops (inl list) = rw (no_object, list.read) refl
  where
    no_object : starts_with eqb text (codes "ero:") ≡ false
    no_object = false_from_ne_true _ (λ test. list.other (drop 4 text) ((begins text _ refl).0 test))
either-spelled objects text hops (inr object) =
    let test = (begins text _ refl).1 object.digits object.whole in
    let behind : drop 4 text ≡ object.digits = ap (drop 4) object.whole in
    rw (test, behind, hex_hops_of-spelled objects object.digits object.bytes hops object.decoded object.spelled) refl

spelled-either : AreObjectsRead → (text : List ℕ) (hops : List Hop) → either_hops_of text ≡ Ok hops → SpellsHops text hops
unfolding either_hops_of
spelled-either objects text hops read = cases (starts_with eqb text (codes "ero:")) refl read
  where
    cases : (test : Bool) → test ≡ starts_with eqb text (codes "ero:")
        → cond test (hex_hops_of (drop 4 text)) (result_map_both (λ (h : List Hop). h) fault.Text (hops_of text)) ≡ Ok hops → SpellsHops text hops
    cases true is read =
        let (bytes, found, spelled) = spelled-hex_hops_of objects (drop 4 text) hops read in
        inr (record { digits = drop 4 text; bytes = bytes; whole = (begins text true is).0 refl; decoded = found; spelled = spelled })
    cases false is read = inl (record { other = λ rest whole. let bad = (begins text false is).1 rest whole in absurd (cc); read = kept _ _ hops read })

pub hops_at-spelled : AreTextsRead → (fields : List (List ℕ)) (place : ℕ) (hops : List Hop) → SpellsHops (field fields place) hops → hops_at fields place ≡ Ok hops
unfolding hops_at
hops_at-spelled texts fields place hops s = rw (either-spelled texts.objects (field fields place) hops s) refl

pub spelled-hops_at : AreTextsRead → (fields : List (List ℕ)) (place : ℕ) (hops : List Hop) → hops_at fields place ≡ Ok hops → SpellsHops (field fields place) hops
unfolding hops_at
spelled-hops_at texts fields place hops read = spelled-either texts.objects (field fields place) hops (kept _ _ hops read)
