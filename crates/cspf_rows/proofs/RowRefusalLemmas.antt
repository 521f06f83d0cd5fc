-- The reader refuses a record exactly for the reason that the specification gives.
use Rattle.std.proofs.Common.{◌≡◌, ◌≢◌, ℕ, suc, ◌+◌, ◌<◌, ◌^◌, ◌⊎◌, inl, inr, Bool, true, false, cond, eqb, ltb, List, codes, length, Option, Some, None, Result, Ok, Err, refl, sym, ap, ◌∙◌}
use Rattle.std.specs.Prelude.{◌↔◌}
use Rattle.std.proofs.Math.Decide.{ℕ_discrete, dec_le}
use Rattle.std.proofs.lemmas.Bool.{eqb-true, eqb-false, ne_eqb, eq-eqb, ltb-true, false_from_ne_true}
use Rattle.std.proofs.lemmas.Slice.Eq.{bytes_eq-Decides}
use Rattle.std.specs.Str.{bytes_eq}
use Rattle.std.specs.Option.{ok_or}
use Rattle.cspf_addr.specs.MaskText.{SpellsMask}
use Rattle.cspf_model.specs.Fields.{LinkFields, RequestFields}
use Rattle.cspf_rows.specs.declared.row.Row.{Row}
use Rattle.cspf_rows.specs.declared.row.Row.TheVariants as row
use Rattle.cspf_rows.specs.declared.row_error.RowError.{RowError}
use Rattle.cspf_rows.specs.declared.row_error.RowError.TheVariants as error
use Rattle.cspf_addr.specs.ResultSteps.{◌>>=◌}
use Rattle.cspf_rows.specs.FieldValues.{field, number_at, small_number_at, priority_at, flag_at, address_at, mask_at, hops_at}
use Rattle.cspf_rows.specs.FieldTexts.{AreTextsRead}
use Rattle.cspf_rows.specs.Says.{SpellsNumber, SpellsFlag, SpellsAddress}
use Rattle.cspf_rows.specs.RowRefusals.{Kind, put_kind, drop_kind, node_kind, end_kind, ask_kind, address, number, small_number, priority, flag, mask, hops, word_of, sorts_of, SpellsSort, IsFieldRefused, SpellOneAddress, AreEndsRefused, AreFieldsRefused, IsRefusedAs, IsRefused, AreRowsRefused, IsRefusedOnce}
use Rattle.cspf_rows.specs.Rows.{put_between, put, ask_between, ask, put_row_of, drop_row_of, node_row_of, end_row_of, ask_row_of, row_of, row_of_two}
use Rattle.cspf_rows.proofs.HopRefusalLemmas.{mapped_error, fault_told, told_fault}
use Rattle.cspf_rows.proofs.AttributeLemmas.{put-self, ask-same}
use Rattle.cspf_rows.proofs.FieldLemmas.{number_at-spelled, spelled-number_at, small_number_at-spelled, spelled-small_number_at, priority_at-spelled, spelled-priority_at, flag_at-spelled, spelled-flag_at, address_at-spelled, spelled-address_at, mask_at-spelled, spelled-mask_at, hops_at-spelled, spelled-hops_at}

-- `read` is the result of reading a field. It is a value exactly if the field's text spells a value
-- of the field's sort (`Spelled`). It is the error `e` exactly if `Refused e` holds.
pub record IsSortRead {A : Type 0} (read : Result A RowError) (Spelled : Type 0) (Refused : RowError → Type 0) : Type 0 where
  pub ok : (x : A) → read ≡ Ok x → Spelled
  pub some : Spelled → (x : A) × (read ≡ Ok x)
  pub err : (e : RowError) → read ≡ Err e → Refused e
  pub refused : (e : RowError) → Refused e → read ≡ Err e

-- Let a field be read as a value exactly if its text spells this value, and let `why` be the only
-- error of this reading. Then the field is refused with `why` exactly if its text spells no value.
one_error : {A : Type 0} (read : Result A RowError) (Value : A → Type 0) (why : RowError) → ((x : A) → read ≡ Ok x → Value x) → ((x : A) → Value x → read ≡ Ok x)
    → ((e : RowError) → read ≡ Err e → e ≡ why) → IsSortRead read ((x : A) × Value x) (λ e. (e ≡ why) × ¬ ((x : A) × Value x))
one_error (Ok x) Value why spelled read only = record {
  ok = λ y same. (y, spelled y same);
  some = λ value. (value.0, read value.0 value.1);
  err = λ e same. absurd (cc);
  refused = λ e (same, none). absurd (none (x, spelled x refl));
}
one_error (Err found) Value why spelled read only = record {
  ok = λ y same. absurd (cc);
  some = λ value. (value.0, read value.0 value.1);
  err = λ e same. (only e same, λ value. let bad = read value.0 value.1 in absurd (cc));
  refused = λ e (same, none). ap Err (only found refl ∙ sym same);
}

-- if `ok_or` turns a missing value into the error `why`, the result has no error other than `why`
only_error : {A : Type 0} (o : Option A) (why e : RowError) → ok_or o why ≡ Err e → e ≡ why
only_error (Some x) why e same = absurd (cc)
only_error None why e same = cc

-- If two reading steps together gave an error, one of the steps gave it. This is the first step, or
-- the second step with the value of the first.
first_error : {A B : Type 0} (r : Result A RowError) (f : A → Result B RowError) (e : RowError) → (r >>= f) ≡ Err e → (r ≡ Err e) ⊎ ((x : A) × (r ≡ Ok x) × (f x ≡ Err e))
first_error (Ok x) f e same = inr (x, refl, same)
first_error (Err found) f e same = inl (cc)

-- Let a test choose between a value and the error `why`. If the result is an error, this error is
-- `why`.
limit_error : {A : Type 0} (b : Bool) (n : A) (why e : RowError) → cond b (Ok n) (Err why) ≡ Err e → e ≡ why
limit_error true n why e same = absurd (cc)
limit_error false n why e same = cc

-- a result can't be both a value and an error
different : {A : Type 0} (r : Result A RowError) (x : A) (e : RowError) → r ≡ Ok x → r ≡ Err e → ⊥
different (Ok y) x e value refusal = cc refusal
different (Err f) x e value refusal = cc value

-- a number that isn't below 8 is refused with the error `Priority`
above : (b : Bool) (n : ℕ) → ltb n 8 ≡ b → (n < 8 → ⊥) → cond b (Ok n) (Err error.Priority) ≡ Err error.Priority
above true n is high = absurd (high (ltb-true n 8 is))
above false n is high = refl

-- a result has only one value
same_value : {A : Type 0} (r : Result A RowError) (x y : A) → r ≡ Ok x → r ≡ Ok y → x ≡ y
same_value (Ok v) x y one other = cc
same_value (Err f) x y one other = absurd (cc one)

same_refusal : {A : Type 0} (r : Result A RowError) (e f : RowError) → r ≡ Err e → r ≡ Err f → e ≡ f
same_refusal (Ok v) e f one other = absurd (cc one)
same_refusal (Err found) e f one other = cc

-- The lemmas of this module are `IsSortRead` for each sort: a field is read as a value if its text
-- spells one. Otherwise it is refused with the error of its sort.
module _ (texts : AreTextsRead) (fields : List (List ℕ)) (place : ℕ) where
  number_error : (e : RowError) → number_at fields place ≡ Err e → e ≡ error.Number place
  unfolding number_at
  number_error e read = only_error _ (error.Number place) e read

  address_error : (e : RowError) → address_at fields place ≡ Err e → e ≡ error.Address place
  unfolding address_at
  address_error e read = only_error _ (error.Address place) e read

  mask_error : (e : RowError) → mask_at fields place ≡ Err e → e ≡ error.Mask place
  unfolding mask_at
  mask_error e read = only_error _ (error.Mask place) e read

  small_number_error : (e : RowError) → small_number_at fields place ≡ Err e → e ≡ error.Number place
  unfolding small_number_at
  small_number_error e read = elim (first_error _ _ e read) [
    | inl bad ↦ number_error e bad
    | inr wide ↦ limit_error _ _ (error.Number place) e wide.2
  ]

  flag_error : (e : RowError) → flag_at fields place ≡ Err e → e ≡ error.Number place
  unfolding flag_at
  flag_error e read = elim (first_error _ _ e read) [
    | inl bad ↦ small_number_error e bad
    | inr wide ↦ limit_error _ _ (error.Number place) e wide.2
  ]

  pub number_read : IsSortRead (number_at fields place) (SpellsSort number (field fields place)) (IsFieldRefused number place (field fields place))
  number_read = one_error (number_at fields place) (SpellsNumber (2 ^ 64) (field fields place)) (error.Number place) (spelled-number_at texts fields place) (number_at-spelled texts fields place) number_error

  pub small_number_read : IsSortRead (small_number_at fields place) (SpellsSort small_number (field fields place)) (IsFieldRefused small_number place (field fields place))
  small_number_read = one_error (small_number_at fields place) (SpellsNumber (2 ^ 32) (field fields place)) (error.Number place) (spelled-small_number_at texts fields place) (small_number_at-spelled texts fields place) small_number_error

  pub address_read : IsSortRead (address_at fields place) (SpellsSort address (field fields place)) (IsFieldRefused address place (field fields place))
  address_read = one_error (address_at fields place) (SpellsAddress (field fields place)) (error.Address place) (spelled-address_at texts fields place) (address_at-spelled texts fields place) address_error

  pub flag_read : IsSortRead (flag_at fields place) (SpellsSort flag (field fields place)) (IsFieldRefused flag place (field fields place))
  flag_read = one_error (flag_at fields place) (SpellsFlag (field fields place)) (error.Number place) (spelled-flag_at texts fields place) (flag_at-spelled texts fields place) flag_error

  pub mask_read : IsSortRead (mask_at fields place) (SpellsSort mask (field fields place)) (IsFieldRefused mask place (field fields place))
  mask_read = one_error (mask_at fields place) (SpellsMask (field fields place)) (error.Mask place) (spelled-mask_at texts fields place) (mask_at-spelled texts fields place) mask_error

  pub priority_read : IsSortRead (priority_at fields place) (SpellsSort priority (field fields place)) (IsFieldRefused priority place (field fields place))
  unfolding priority_at
  priority_read = record {
    ok = λ n read. (n, spelled-priority_at texts fields place n read);
    some = λ value. (value.0, priority_at-spelled texts fields place value.0 value.1);
    err = λ e read. elim (first_error _ _ e read) [
      | inl bad ↦ inl (small_number_read.err e bad)
      | inr wide ↦ inr (
        limit_error _ _ error.Priority e wide.2,
        (wide.0, spelled-small_number_at texts fields place wide.0 wide.1),
        λ value. let bad = priority_at-spelled texts fields place value.0 value.1 in different _ value.0 e bad read,
      )
    ];
    refused = λ e why. elim why [
      | inl bad ↦ rw (small_number_read.refused e bad) refl
      | inr high ↦
          let (is, (n, wide), none) = high in
          rw (small_number_at-spelled texts fields place n wide, is) (above (ltb n 8) n refl (λ small. none (n, record { small = small; written = wide.written })))
    ];
  }

  pub hops_read : IsSortRead (hops_at fields place) (SpellsSort hops (field fields place)) (IsFieldRefused hops place (field fields place))
  unfolding hops_at
  hops_read = record {
    ok = λ list read. (list, spelled-hops_at texts fields place list read);
    some = λ value. (value.0, hops_at-spelled texts fields place value.0 value.1);
    err = λ e read.
        let (why, bad, is) = mapped_error _ error.Hops e read in
        (why, sym is, fault_told (field fields place) why bad);
    refused = λ e (why, is, told). rw (told_fault (field fields place) why told, is) refl;
  }

-- A record is refused with the error of its next field. If this field is read as a value, the
-- record is refused with the error of the fields after it.
step : {A : Type 0} (read : Result A RowError) (f : A → Result Row RowError) {Spelled : Type 0} {Refused Rest : RowError → Type 0} → IsSortRead read Spelled Refused
    → ((x : A) → read ≡ Ok x → (e : RowError) → (f x ≡ Err e) ↔ Rest e) → (e : RowError) → ((read >>= f) ≡ Err e) ↔ (Refused e ⊎ (Spelled × Rest e))
step (Ok x) f sort rest e = (
  λ same. inr (sort.ok x refl, (rest x refl e).0 same),
  λ why. elim why [
    | inl bad ↦ let found = sort.refused e bad in absurd (cc)
    | inr both ↦ (rest x refl e).1 both.1
  ],
)
step (Err found) f sort rest e = (
  λ same.
      let is : found ≡ e = cc in
      inl (sort.err e (ap Err is)),
  λ why. elim why [
    | inl bad ↦ ap Err (same_refusal _ found e refl (sort.refused e bad))
    | inr both ↦ let some = sort.some both.0 in absurd (different _ some.0 found some.1 refl)
  ],
)

-- As `step`, for two fields at once. If both fields are read as values, the error is the error of
-- the later checks.
two_steps : {A B : Type 0} (first : Result A RowError) (second : Result B RowError) (f : A → B → Result Row RowError) {One Two : Type 0} {NotOne NotTwo Rest : RowError → Type 0}
    → IsSortRead first One NotOne → IsSortRead second Two NotTwo → ((x : A) → first ≡ Ok x → (y : B) → second ≡ Ok y → (e : RowError) → (f x y ≡ Err e) ↔ Rest e)
    → (e : RowError) → ((first >>= (λ x. second >>= (λ y. f x y))) ≡ Err e) ↔ (NotOne e ⊎ (One × (NotTwo e ⊎ (Two × Rest e))))
two_steps first second f one two rest = step _ _ one (λ x is_x. step _ _ two (λ y is_y. rest x is_x y is_y))

-- two fields are read as the same address exactly if their texts spell the same address
one_address : AreTextsRead → (fields : List (List ℕ)) (place other : ℕ) (a b : ℕ) → address_at fields place ≡ Ok a → address_at fields other ≡ Ok b
    → (a ≡ b) ↔ SpellOneAddress (field fields place) (field fields other)
one_address texts fields place other a b first second = (
  λ same. (a, spelled-address_at texts fields place a first, spelled-address_at texts fields other a (second ∙ ap Ok (sym same))),
  λ (n, one, two). same_value _ a n first (address_at-spelled texts fields place n one) ∙ sym (same_value _ b n second (address_at-spelled texts fields other n two)),
)

-- a `put` row whose fields spell the attributes of a link is refused exactly if both endpoints of
-- the link are the same router
put_ends : AreTextsRead → (fields : List (List ℕ)) (link : LinkFields) (eight : length link.free ≡ 8) → address_at fields 2 ≡ Ok link.from → address_at fields 4 ≡ Ok link.to
    → (e : RowError) → (put link eight ≡ Err e) ↔ AreEndsRefused put_kind fields e
unfolding put
put_ends texts fields link eight from to e = (self (ℕ_discrete link.from link.to), λ why. put-self link eight (one.1 why.1) ∙ ap Err (sym why.0))
  where
    one : (link.from ≡ link.to) ↔ SpellOneAddress (field fields 2) (field fields 4)
    one = one_address texts fields 2 4 link.from link.to from to

    self : (ends : Dec (link.from ≡ link.to)) → put_between link eight ends ≡ Err e → AreEndsRefused put_kind fields e
    self (yes same) refused = (cc, one.0 same)
    self (no apart) refused = absurd (cc)

-- a request with a valid setup priority is refused exactly if head-end and tail-end are the same
-- router
ask_ends : AreTextsRead → (fields : List (List ℕ)) (request : RequestFields) → address_at fields 3 ≡ Ok request.from → address_at fields 4 ≡ Ok request.to → priority_at fields 5 ≡ Ok request.setup
    → (e : RowError) → (ask request ≡ Err e) ↔ AreEndsRefused ask_kind fields e
unfolding ask
ask_ends texts fields request from to setup e = (same_ends (dec_le (suc request.setup) 8) (ℕ_discrete request.from request.to), λ why. ask-same request low (one.1 why.1) ∙ ap Err (sym why.0))
  where
    low : request.setup < 8
    low = (spelled-priority_at texts fields 5 request.setup setup).small

    one : (request.from ≡ request.to) ↔ SpellOneAddress (field fields 3) (field fields 4)
    one = one_address texts fields 3 4 request.from request.to from to

    same_ends : (below : Dec (request.setup < 8)) (ends : Dec (request.from ≡ request.to)) → ask_between request below ends ≡ Err e → AreEndsRefused ask_kind fields e
    same_ends (no above) ends refused = absurd (above low)
    same_ends (yes below) (yes same) refused = (cc, one.0 same)
    same_ends (yes below) (no apart) refused = absurd (cc)

-- a record that is read as a row isn't refused with any error
read_whole : (r : Row) (e : RowError) → (Ok r ≡ Err e) ↔ ⊥
read_whole r e = (λ same. cc, λ none. absurd none)

put_refused : AreTextsRead → (fields : List (List ℕ)) (e : RowError) → (put_row_of fields ≡ Err e) ↔ AreFieldsRefused put_kind 2 (sorts_of put_kind) fields e
unfolding put_row_of
put_refused texts fields =
    two_steps _ _ _ (address_read texts fields 2) (address_read texts fields 3) (λ from is_from local is_local.
    two_steps _ _ _ (address_read texts fields 4) (address_read texts fields 5) (λ to is_to remote is_remote.
    two_steps _ _ _ (small_number_read texts fields 6) (mask_read texts fields 7) (λ metric is_metric group is_group.
    two_steps _ _ _ (number_read texts fields 8) (number_read texts fields 9) (λ u0 is_u0 u1 is_u1.
    two_steps _ _ _ (number_read texts fields 10) (number_read texts fields 11) (λ u2 is_u2 u3 is_u3.
    two_steps _ _ _ (number_read texts fields 12) (number_read texts fields 13) (λ u4 is_u4 u5 is_u5.
    two_steps _ _ _ (number_read texts fields 14) (number_read texts fields 15) (λ u6 is_u6 u7 is_u7.
    put_ends texts fields _ _ is_from is_to)))))))

-- If the first of two fields is refused, `row_of_two` refuses the record with the same error. If
-- the first field is read as a value, `row_of_two` refuses the record exactly with the error of the
-- second field.
two_refused : {A B : Type 0} {first : Result A RowError} {second : Result B RowError} (make : A → B → Row) {One Two : Type 0} {NotOne NotTwo : RowError → Type 0}
    → IsSortRead first One NotOne → IsSortRead second Two NotTwo → (e : RowError) → (row_of_two first second make ≡ Err e) ↔ (NotOne e ⊎ (One × (NotTwo e ⊎ (Two × ⊥))))
two_refused make one two = two_steps _ _ _ one two (λ x is_x y is_y. read_whole (make x y))

drop_refused : AreTextsRead → (fields : List (List ℕ)) (e : RowError) → (drop_row_of fields ≡ Err e) ↔ AreFieldsRefused drop_kind 2 (sorts_of drop_kind) fields e
unfolding drop_row_of
drop_refused texts fields = two_refused row.Remove (address_read texts fields 2) (address_read texts fields 3)

node_refused : AreTextsRead → (fields : List (List ℕ)) (e : RowError) → (node_row_of fields ≡ Err e) ↔ AreFieldsRefused node_kind 2 (sorts_of node_kind) fields e
unfolding node_row_of
node_refused texts fields = two_refused row.Node (address_read texts fields 2) (flag_read texts fields 3)

end_refused : AreTextsRead → (fields : List (List ℕ)) (e : RowError) → (end_row_of fields ≡ Err e) ↔ AreFieldsRefused end_kind 2 (sorts_of end_kind) fields e
unfolding end_row_of
end_refused texts fields = two_refused row.End (small_number_read texts fields 2) (small_number_read texts fields 3)

ask_refused : AreTextsRead → (fields : List (List ℕ)) (e : RowError) → (ask_row_of fields ≡ Err e) ↔ AreFieldsRefused ask_kind 2 (sorts_of ask_kind) fields e
unfolding ask_row_of
ask_refused texts fields =
    step _ _ (number_read texts fields 2) (λ id is_id.
    two_steps _ _ _ (address_read texts fields 3) (address_read texts fields 4) (λ from is_from to is_to.
    two_steps _ _ _ (priority_read texts fields 5) (number_read texts fields 6) (λ setup is_setup bandwidth is_bandwidth.
    two_steps _ _ _ (mask_read texts fields 7) (mask_read texts fields 8) (λ exclude_any is_exclude_any include_any is_include_any.
    two_steps _ _ _ (mask_read texts fields 9) (hops_read texts fields 10) (λ include_all is_include_all list is_list.
    ask_ends texts fields _ is_from is_to is_setup)))))

-- A record is refused with `Fields` if it doesn't have the number of fields of its kind. Otherwise
-- the record is refused exactly with the error that reading its fields gives.
counted : (kind : Kind) (fields : List (List ℕ)) (read : Result Row RowError) (e : RowError) → (read ≡ Err e) ↔ AreFieldsRefused kind 2 (sorts_of kind) fields e
    → (cond (eqb (length fields) (1 + length (sorts_of kind))) read (Err error.Fields) ≡ Err e) ↔ IsRefusedAs kind fields e
counted kind fields read e rest = (there (eqb (length fields) (1 + length (sorts_of kind))) refl, back)
  where
    there : (test : Bool) → eqb (length fields) (1 + length (sorts_of kind)) ≡ test → cond test read (Err error.Fields) ≡ Err e → IsRefusedAs kind fields e
    there true is same = inr (eqb-true _ _ is, rest.0 same)
    there false is same = inl (cc, eqb-false _ _ is)

    back : IsRefusedAs kind fields e → cond (eqb (length fields) (1 + length (sorts_of kind))) read (Err error.Fields) ≡ Err e
    back (inl (is, other)) = rw (ne_eqb _ _ other, is) refl
    back (inr (same, why)) = rw (eq-eqb _ _ same) (rest.1 why)

-- Let a record be read as `x` if its first field is the word `name`, and as `y` otherwise. If the
-- result is the error `e`, a claim follows once it is shown for each of the two cases.
at_word : {G : Type 0} (text name : List ℕ) (x y : Result Row RowError) (e : RowError) (b : Bool) → b ≡ bytes_eq text name → cond b x y ≡ Err e
    → (text ≡ name → x ≡ Err e → G) → (text ≢ name → y ≡ Err e → G) → G
at_word text name x y e true is read here there = here ((bytes_eq-Decides text name).0 (sym is)) read
at_word text name x y e false is read here there = there (λ same. let bad = (bytes_eq-Decides text name).1 same in absurd (cc)) read

other_word : (text name : List ℕ) → text ≢ name → bytes_eq text name ≡ false
other_word text name other = false_from_ne_true _ (λ same. other ((bytes_eq-Decides text name).0 same))

pub rows_refused : AreTextsRead → AreRowsRefused
unfolding row_of
rows_refused texts fields e = (there, back)
  where
    none : field fields 1 ≢ codes "put" → field fields 1 ≢ codes "drop" → field fields 1 ≢ codes "node" → field fields 1 ≢ codes "end" → field fields 1 ≢ codes "ask" → (kind : Kind) → field fields 1 ≢ word_of kind
    none p d n e a put_kind = p
    none p d n e a drop_kind = d
    none p d n e a node_kind = n
    none p d n e a end_kind = e
    none p d n e a ask_kind = a

    there : row_of fields ≡ Err e → IsRefused fields e
    there read =
        at_word (field fields 1) (codes "put") _ _ e _ refl read (λ word h. inr (put_kind, word, (counted put_kind fields _ e (put_refused texts fields e)).0 h)) (λ no_put h1.
        at_word (field fields 1) (codes "drop") _ _ e _ refl h1 (λ word h. inr (drop_kind, word, (counted drop_kind fields _ e (drop_refused texts fields e)).0 h)) (λ no_drop h2.
        at_word (field fields 1) (codes "node") _ _ e _ refl h2 (λ word h. inr (node_kind, word, (counted node_kind fields _ e (node_refused texts fields e)).0 h)) (λ no_node h3.
        at_word (field fields 1) (codes "end") _ _ e _ refl h3 (λ word h. inr (end_kind, word, (counted end_kind fields _ e (end_refused texts fields e)).0 h)) (λ no_end h4.
        at_word (field fields 1) (codes "ask") _ _ e _ refl h4 (λ word h. inr (ask_kind, word, (counted ask_kind fields _ e (ask_refused texts fields e)).0 h)) (λ no_ask h5.
        inl (cc, none no_put no_drop no_node no_end no_ask))))))

    back : IsRefused fields e → row_of fields ≡ Err e
    back (inl (is, none_of)) =
        rw (other_word _ _ (none_of put_kind), other_word _ _ (none_of drop_kind), other_word _ _ (none_of node_kind), other_word _ _ (none_of end_kind), other_word _ _ (none_of ask_kind), is) refl
    back (inr (put_kind, word, why)) = rw word ((counted put_kind fields _ e (put_refused texts fields e)).1 why)
    back (inr (drop_kind, word, why)) = rw word ((counted drop_kind fields _ e (drop_refused texts fields e)).1 why)
    back (inr (node_kind, word, why)) = rw word ((counted node_kind fields _ e (node_refused texts fields e)).1 why)
    back (inr (end_kind, word, why)) = rw word ((counted end_kind fields _ e (end_refused texts fields e)).1 why)
    back (inr (ask_kind, word, why)) = rw word ((counted ask_kind fields _ e (ask_refused texts fields e)).1 why)

pub refused_once : AreTextsRead → IsRefusedOnce
refused_once texts fields e other first second =
    let one : row_of fields ≡ Err e = (rows_refused texts fields e).1 first in
    let two : row_of fields ≡ Err other = (rows_refused texts fields other).1 second in
    cc (sym one ∙ two)
