-- A run over the texts of accepted rows ends with the same book as the run over all rows.
use Rattle.std.proofs.Common.{◌≡◌, ◌==◌, ℕ, zero, suc, ◌+◌, ◌≤◌, ◌<◌, ◌^◌, Bool, true, false, cond, List, [], ◌∷◌, ◌++◌, map, length, codes, slice_index, Result, Ok, Err, inl, inr, refl, sym, ap, subst, ◌∙◌, append_assoc, append-nil, eq-eqb, arith}
use Rattle.std.proofs.lemmas.Bool.{cases_Bool, eqb-true}
use Rattle.std.proofs.lemmas.Grind.{flat_map-append}
use Rattle.std.proofs.lemmas.List.{length-append, length-map}
use Rattle.std.proofs.lemmas.Slice.Eq.{bytes_eq-Decides}
use Rattle.std.specs.List.{flat_map, AllByRecursion}
use Rattle.std.specs.Result.{result_map_both}
use Rattle.csv.specs.Records.{field_at}
use Rattle.csv.specs.Writing.{default_writer, row_text}
use Rattle.cspf_addr.specs.MaskText.{SpellsMask}
use Rattle.cspf_addr.proofs.MaskLemmas.{short_value}
use Rattle.cspf_model.specs.Best.{Answer, route}
use Rattle.cspf_model.specs.declared.batch.Change.{Change}
use Rattle.cspf_model.specs.declared.batch.Change.TheVariants as change
use Rattle.cspf_model.specs.declared.link.Link.{Link}
use Rattle.cspf_model.specs.declared.request.Request.{Request}
use Rattle.cspf_rows.specs.BatchText.{change_fields, batch_records}
use Rattle.cspf_rows.specs.FieldValues.{field, number_at}
use Rattle.cspf_rows.specs.JournalLaws.{IsChangeInRange}
use Rattle.cspf_rows.specs.Rows.{ask_row_of, is_kind, row_of}
use Rattle.cspf_rows.specs.Says.{AreRowsRead, Says, SaysPut}
use Rattle.cspf_rows.specs.Written.{end_fields}
use Rattle.cspf_rows.specs.declared.row.Row.{Row}
use Rattle.cspf_rows.specs.declared.row.Row.TheVariants as row
use Rattle.cspf_rows.specs.declared.row_error.RowError.{RowError}
use Rattle.cspf_rows.specs.declared.row_error.RowError.TheVariants as error
use Rattle.cspf_rows.proofs.BatchRecords.{AreRowsReadBack, change_row_of}
use Rattle.cspf_stream.specs.RowAnswers.{AreAnswered}
use Rattle.cspf_rows.specs.Steps.{step_of}
use Rattle.cspf_rows.specs.declared.step.Step.{Step}
use Rattle.cspf_rows.specs.declared.step.Step.TheVariants as step
use Rattle.cspf_book.specs.declared.path.Passed.{Passed}
use Rattle.cspf_book.specs.declared.placement.Placement.{Placement}
use Rattle.cspf_book.specs.LinkFigures.{figures_at}
use Rattle.cspf_book.specs.Placements.{placement_of}
use Rattle.cspf_book.specs.BookState.{BookState, IsAnswerPlaced}
use Rattle.cspf_book_run.specs.declared.book_row.BookRow.{BookRow}
use Rattle.cspf_book_run.specs.declared.book_row.BookRow.TheVariants as book_row
use Rattle.cspf_book_run.specs.declared.book_row_error.BookRowError.{BookRowError}
use Rattle.cspf_book_run.specs.declared.book_row_error.BookRowError.TheVariants as refused
use Rattle.cspf_book_run.specs.BookRows.{held_as_asked, held_request_of, held_placement, held_route_of, held_as_read, id_row_of, left_key_of, place_row_of, release_row_of, held_row_of, offer_row_of, show_row_of, left_row_of, other_row_of, book_row_of}
use Rattle.cspf_book_run.specs.BookScript.{BookRunState, book_answers, open_base_batch, after_refusal, after_open_change, after_answer, after_base_batch, IsBaseAccepted, AreBaseLines, IsPlaceAnswered, IsBookStepAnswered, IsBookRowAnswered}
use Rattle.cspf_book_run.specs.Kept.{kept_answers, kept_of, text_of_row, text_of_step}
use Rattle.cspf_book_run.specs.KeptLaws.{kept_or_out_answers}
use Rattle.cspf_book_run.specs.OutOfMemory.{after_memory}
use Rattle.cspf_book_run.specs.declared.row_name.RowName.{RowName}
use Rattle.cspf_book_run.specs.declared.row_name.RowName.TheVariants as name
use Rattle.cspf_book_run.proofs.BookSteps.{another_version}
use Rattle.cspf_book_run.proofs.Looks.{Looks, shown_looks, left_looks, look_same}
use Rattle.cspf_book_run.proofs.KeptTexts.{StartsPlain, IsPlainRecord, change_plain, end_plain, lines_rows, rows_start}

-- ---- the ranges of the numbers in a row

-- The numbers of a change or of an end row are in the ranges of their types. Nothing is required of
-- a request.
abbrev pub IsStepInRange : Step → Type 0
IsStepInRange (step.Change c) = IsChangeInRange c
IsStepInRange (step.End number count) = (number < 2 ^ 32) × (count < 2 ^ 32)
IsStepInRange (step.Ask q) = Unit {0}

free_in_range : (fields : List (List ℕ)) (link : Link) → SaysPut fields link → (p : ℕ) → p < 8 → slice_index link.free p < 2 ^ 64
free_in_range fields link s zero below = s.free_0.small
free_in_range fields link s (suc zero) below = s.free_1.small
free_in_range fields link s (suc (suc zero)) below = s.free_2.small
free_in_range fields link s (suc (suc (suc zero))) below = s.free_3.small
free_in_range fields link s (suc (suc (suc (suc zero)))) below = s.free_4.small
free_in_range fields link s (suc (suc (suc (suc (suc zero))))) below = s.free_5.small
free_in_range fields link s (suc (suc (suc (suc (suc (suc zero)))))) below = s.free_6.small
free_in_range fields link s (suc (suc (suc (suc (suc (suc (suc zero))))))) below = s.free_7.small
free_in_range fields link s (suc (suc (suc (suc (suc (suc (suc (suc p)))))))) below = absurd (omega arith)

mask_small : (text : List ℕ) (n : ℕ) → SpellsMask text n → n < 2 ^ 32
mask_small text n s = rw s.value (short_value s.digits s.most s.hexadecimal)

pub row_in_range : (fields : List (List ℕ)) (r : Row) → Says fields r → IsStepInRange (step_of r)
row_in_range fields (row.Put link) s = (
  record {
    from = s.from.small;
    local = s.local.small;
    to = s.to.small;
    remote = s.remote.small;
    metric = s.metric.small;
    free = free_in_range fields link s;
  },
  mask_small (field fields 7) link.group s.group,
)
row_in_range fields (row.Remove from local) s = (s.from.small, s.local.small)
row_in_range fields (row.Node router transit) s = s.router.small
row_in_range fields (row.End number count) s = (s.number.small, s.has.small)
row_in_range fields (row.Ask q) s = tt

-- ---- the kinds of rows

-- What holds of a record that is read as this row. `row_of` reads a row of the base as the same row.
-- The record of a row that may be accepted begins with a plain word (`StartsPlain`).
abbrev pub IsReadAs : List (List ℕ) → BookRow → Type 0
IsReadAs fields (book_row.Base b) = row_of fields ≡ Ok b
IsReadAs fields (book_row.Place q hold) = StartsPlain fields
IsReadAs fields (book_row.Release id) = StartsPlain fields
IsReadAs fields (book_row.Held p) = StartsPlain fields
IsReadAs fields other = Unit {0}

counted : (b : Bool) (x : Result BookRow RowError) (r : BookRow) → cond b x (Err error.Fields) ≡ Ok r → (b ≡ true) × (x ≡ Ok r)
counted true x r is = (refl, is)
counted false x r is = absurd (cc)

-- the result of reading a record as this row
abbrev read_as : BookRow → Result BookRow RowError
read_as r = Ok r

abbrev read_whole : BookRow → Result BookRow BookRowError
read_whole r = Ok r

ok_same : (x y : BookRow) → read_as x ≡ read_as y → x ≡ y
ok_same x y e = cc

ok_whole : (x y : BookRow) → read_whole x ≡ read_whole y → x ≡ y
ok_whole x y e = cc

of_made : {A : Type 0} (make : A → BookRow) (x : Result A RowError) (r : BookRow) → result_map_both make (λ e. e) x ≡ Ok r → (a : A) × (r ≡ make a) × (x ≡ Ok a)
of_made make (Ok a) r is = (a, sym (ok_same (make a) r is), refl)
of_made make (Err e) r is = absurd (cc)

-- A row of a request has 10 fields. A row of an id has 2 fields.
from_asked : (make : Request → ℕ → BookRow) (fields : List (List ℕ)) (r : BookRow) → result_map_both (λ (p : Request × ℕ). make p.0 p.1) (λ e. e) (held_request_of 10 fields) ≡ Ok r
    → (length fields ≡ 10) × (p : Request × ℕ) × (r ≡ make p.0 p.1)
from_asked make fields r is =
    let made = of_made (λ (p : Request × ℕ). make p.0 p.1) (held_request_of 10 fields) r is in
    (ten_fields (length fields == 10) (held_as_asked (ask_row_of fields)) made.0 made.2 refl, made.0, made.1)
  where
    ten_fields : (b : Bool) (x : Result (Request × ℕ) RowError) (p : Request × ℕ) → cond b x (Err error.Fields) ≡ Ok p → (length fields == 10) ≡ b → length fields ≡ 10
    ten_fields true x p is ten = eqb-true (length fields) 10 ten
    ten_fields false x p is ten = absurd (cc)

from_id : (make : ℕ → BookRow) (fields : List (List ℕ)) (r : BookRow) → id_row_of make fields ≡ Ok r → (length fields ≡ 2) × (id : ℕ) × (r ≡ make id)
from_id make fields r is =
    let n = counted (length fields == 2) (result_map_both make (λ e. e) (number_at fields 2)) r is in
    let made = of_made make (number_at fields 2) r n.1 in
    (eqb-true (length fields) 2 n.0, made.0, made.1)

from_key : (fields : List (List ℕ)) (r : BookRow) → left_row_of fields ≡ Ok r → (k : ℕ × ℕ) × (r ≡ book_row.Left k.0 k.1)
from_key fields r is =
    let n = counted (length fields == 3) (result_map_both (λ (k : ℕ × ℕ). book_row.Left k.0 k.1) (λ e. e) (left_key_of fields)) r is in
    let made = of_made (λ (k : ℕ × ℕ). book_row.Left k.0 k.1) (left_key_of fields) r n.1 in
    (made.0, made.1)

-- A record with at least two fields is a list of its first field, its second field and the other
-- fields.
word_first : (fields : List (List ℕ)) (word : List ℕ) → 2 ≤ length fields → field fields 1 ≡ word → (second : List ℕ) × (others : List (List ℕ)) × (fields ≡ word ∷ second ∷ others)
unfolding field_at
word_first (x ∷ y ∷ ys) word two is = (y, ys, ap (λ w. w ∷ y ∷ ys) is)
word_first other word two is = absurd (omega arith)

-- ---- `held` rows

of_route : (q : Request) (x : Result (List Passed) BookRowError) (r : BookRow) → result_map_both (λ path. book_row.Held (held_placement q path)) (λ e. e) x ≡ Ok r → (p : Placement) × (r ≡ book_row.Held p)
of_route q (Ok path) r is = (held_placement q path, sym (ok_whole (book_row.Held (held_placement q path)) r is))
of_route q (Err e) r is = absurd (cc)

-- A `held` row has 11 fields.
of_held : (fields : List (List ℕ)) (b : Bool) (x : Result Row RowError) (r : BookRow) → held_as_read fields (cond b x (Err error.Fields)) ≡ Ok r → (b ≡ true) × (p : Placement) × (r ≡ book_row.Held p)
of_held fields true (Ok (row.Ask q)) r is = let made = of_route q (held_route_of q (field fields 11)) r is in (refl, made.0, made.1)
of_held fields true (Ok other) r is = absurd (cc)
of_held fields true (Err e) r is = absurd (cc)
of_held fields false x r is = absurd (cc)

read_held : (fields : List (List ℕ)) (r : BookRow) → field fields 1 ≡ codes "held" → held_row_of fields ≡ Ok r → IsReadAs fields r
read_held fields r word is =
    let made = of_held fields (length fields == 11) (ask_row_of fields) r is in
    let w = word_first fields (codes "held") (omega (arith, eqb-true (length fields) 11 made.0)) word in
    subst (IsReadAs fields) (sym made.2) (record { a = 104; b = 101; c = 108; word = 100 ∷ []; second = w.0; others = w.1; is = w.2; no_mark = refl; plain = refl })

-- ---- other rows

read_place : (fields : List (List ℕ)) (r : BookRow) → field fields 1 ≡ codes "place" → place_row_of fields ≡ Ok r → IsReadAs fields r
read_place fields r word is =
    let made = from_asked book_row.Place fields r is in
    let w = word_first fields (codes "place") (omega (arith, made.0)) word in
    subst (IsReadAs fields) (sym made.2) (record { a = 112; b = 108; c = 97; word = 99 ∷ 101 ∷ []; second = w.0; others = w.1; is = w.2; no_mark = refl; plain = refl })

read_release : (fields : List (List ℕ)) (r : BookRow) → field fields 1 ≡ codes "release" → release_row_of fields ≡ Ok r → IsReadAs fields r
read_release fields r word is =
    let made = from_id book_row.Release fields r is in
    let w = word_first fields (codes "release") (omega (arith, made.0)) word in
    subst (IsReadAs fields) (sym made.2) (record { a = 114; b = 101; c = 108; word = 101 ∷ 97 ∷ 115 ∷ 101 ∷ []; second = w.0; others = w.1; is = w.2; no_mark = refl; plain = refl })

read_offer : (fields : List (List ℕ)) (r : BookRow) → offer_row_of fields ≡ Ok r → IsReadAs fields r
read_offer fields r is = let made = from_asked book_row.Offer fields r is in subst (IsReadAs fields) (sym made.2) tt

read_show : (fields : List (List ℕ)) (r : BookRow) → show_row_of fields ≡ Ok r → IsReadAs fields r
read_show fields r is = let made = from_id book_row.Show fields r is in subst (IsReadAs fields) (sym made.2) tt

read_left : (fields : List (List ℕ)) (r : BookRow) → left_row_of fields ≡ Ok r → IsReadAs fields r
read_left fields r is = let made = from_key fields r is in subst (IsReadAs fields) (sym made.1) tt

read_base : (fields : List (List ℕ)) (r : BookRow) → result_map_both book_row.Base (λ e. e) (row_of fields) ≡ Ok r → IsReadAs fields r
read_base fields r is = let made = of_made book_row.Base (row_of fields) r is in subst (IsReadAs fields) (sym made.1) made.2

of_kind : (fields : List (List ℕ)) (word : List ℕ) → is_kind fields word ≡ true → field fields 1 ≡ word
of_kind fields word is = (bytes_eq-Decides (field fields 1) word).0 is

read_other : (fields : List (List ℕ)) (r : BookRow) → other_row_of fields ≡ Ok r → IsReadAs fields r
read_other fields r is = elim (cases_Bool (is_kind fields (codes "place"))) [
  | inl place ↦ read_place fields r (of_kind fields (codes "place") place) (rw place at is)
  | inr a ↦ elim (cases_Bool (is_kind fields (codes "release"))) [
    | inl release ↦ read_release fields r (of_kind fields (codes "release") release) (rw (a, release) at is)
    | inr b ↦ elim (cases_Bool (is_kind fields (codes "offer"))) [
      | inl offer ↦ read_offer fields r (rw (a, b, offer) at is)
      | inr c ↦ elim (cases_Bool (is_kind fields (codes "show"))) [
        | inl show ↦ read_show fields r (rw (a, b, c, show) at is)
        | inr d ↦ elim (cases_Bool (is_kind fields (codes "left"))) [
          | inl left ↦ read_left fields r (rw (a, b, c, d, left) at is)
          | inr none ↦ read_base fields r (rw (a, b, c, d, none) at is)
        ]
      ]
    ]
  ]
]

of_other : (x : Result BookRow RowError) (r : BookRow) → result_map_both (λ (y : BookRow). y) refused.Row x ≡ Ok r → x ≡ Ok r
of_other (Ok y) r is = ap read_as (ok_whole y r is)
of_other (Err e) r is = absurd (cc)

pub read_row : (fields : List (List ℕ)) (r : BookRow) → book_row_of fields ≡ Ok r → IsReadAs fields r
unfolding book_row_of
read_row fields r is = elim (cases_Bool (is_kind fields (codes "held"))) [
  | inl held ↦ read_held fields r (of_kind fields (codes "held") held) (rw held at is)
  | inr other ↦ read_other fields r (of_other (other_row_of fields) r (rw other at is))
]

-- ---- rows that are answered one after the other

pub append_answered : (xs ys : List (List (List ℕ))) (p : ℕ) (s m t : BookRunState) (l k : List ℕ) → AreAnswered book_answers p s xs l m
    → ((q : ℕ) → AreAnswered book_answers q m ys k t) → AreAnswered book_answers p s (xs ++ ys) (l ++ k) t
unfolding AreAnswered
append_answered [] ys p s m t l k a rest =
    subst (λ (x : BookRunState). AreAnswered book_answers p x ys (l ++ k) t) a.1 (subst (λ (z : List ℕ). AreAnswered book_answers p m ys (z ++ k) t) (sym a.0) (rest p))
append_answered (x ∷ xs) ys p s m t l k a rest =
    (a.0, a.1, a.2 ++ k, a.3, ap (λ (z : List ℕ). z ++ k) a.4 ∙ append_assoc a.0 a.2 k, append_answered xs ys (suc p) a.1 m t a.2 k a.5 rest)

pub one_answered : (p : ℕ) (s t : BookRunState) (fields : List (List ℕ)) (line : List ℕ) → book_answers p s fields line t → AreAnswered book_answers p s (fields ∷ []) line t
unfolding AreAnswered
one_answered p s t fields line a = (line, t, [], a, sym (append-nil line), (refl, refl))

pub none_answered : (p : ℕ) (s t : BookRunState) → t ≡ s → AreAnswered book_answers p s [] [] t
unfolding AreAnswered
none_answered p s t same = (refl, same)

-- the state with these open changes, which are the changes since the last end row
abbrev opened : BookRunState → List Change → BookRunState
opened s cs = record s { changes = cs }

module _ (laws : AreRowsReadBack) where
  -- The record of a change is answered with no line. It adds the change to the open changes.
  change_taken : (p : ℕ) (s : BookRunState) (c : Change) → IsChangeInRange c → book_answers p s (change_fields c) [] (after_open_change s c)
  unfolding book_row_of field_at
  change_taken p s (change.Put link) range = rw (change_row_of laws (change.Put link) range) (refl, refl)
  change_taken p s other range = rw (change_row_of laws other range) (refl, refl)

  pub changes_taken : (cs : List Change) (p : ℕ) (s : BookRunState) → AllByRecursion IsChangeInRange cs → AreAnswered book_answers p s (map change_fields cs) [] (opened s (s.changes ++ cs))
  unfolding AreAnswered
  changes_taken [] p s range = (refl, ap (opened s) (append-nil s.changes))
  changes_taken (c ∷ cs) p s range = (
    [],
    after_open_change s c,
    [],
    change_taken p s c range.0,
    refl,
    subst (λ (opens : List Change). AreAnswered book_answers (suc p) (after_open_change s c) (map change_fields cs) [] (opened s opens)) (append_assoc s.changes (c ∷ []) cs)
        (changes_taken cs (suc p) (after_open_change s c) range.1),
  )

  -- The record of an end row is answered as the batch is accepted.
  pub end_answered : (p : ℕ) (s : BookRunState) (number : ℕ) → number < 2 ^ 32 → length s.changes < 2 ^ 32 → IsBaseAccepted s number (length s.changes) → (line : List ℕ) → AreBaseLines s number line
      → book_answers p s (end_fields number (length s.changes)) line (after_base_batch s)
  unfolding book_row_of field_at
  end_answered p s number small few accepted line lines = rw (laws.ends number (length s.changes) small few) (inl (accepted, lines, refl))

  -- Take the end row of an accepted batch. A run over the texts of accepted rows answers it with
  -- the same lines as the run that wrote these texts.
  end_taken : (p : ℕ) (s : BookRunState) (number count : ℕ) (line : List ℕ) → number < 2 ^ 32 → length s.changes < 2 ^ 32 → IsBaseAccepted s number count → AreBaseLines s number line
      → (answers : ℕ) → let from : BookRunState = record { book = s.book; batches = s.batches; restored = s.restored; changes = s.changes; answers = answers; refused = 0; skipped = s.skipped } in
      book_answers p from (end_fields number (length s.changes)) line (after_base_batch from)
  unfolding book_row_of field_at
  end_taken p s number count line small few accepted lines answers =
      rw (laws.ends number (length s.changes) small few)
      (inl (record { room = accepted.room; next = accepted.next; counted = refl; fits = accepted.fits }, lines, refl))

  pub records_plain : (cs : List Change) (number count : ℕ) → AllByRecursion IsChangeInRange cs → number < 2 ^ 32 → count < 2 ^ 32
      → AllByRecursion IsPlainRecord (map change_fields cs ++ (end_fields number count ∷ []))
  records_plain [] number count range small few = (end_plain number count small few, tt)
  records_plain (c ∷ cs) number count range small few = (change_plain laws c range.0, records_plain cs number count range.1 small few)

-- ---- the texts of accepted rows

-- The state of a run over the texts of accepted rows, between the texts of two rows. It has the book
-- of the state `s` of the run that wrote these texts, and as many base batches and restored
-- placements.
abbrev pub bare : BookRunState → ℕ → BookRunState
bare s answers = record { book = s.book; batches = s.batches; restored = s.restored; changes = []; answers = answers; refused = 0; skipped = s.skipped }

-- Let n rows lead from the state `s` to the state `t`, and let `text` have the texts of their
-- accepted rows. Then `text` is the text of some records, and a run over these records leads from
-- the book of `s` to the book of `t`. The number of records plus the number of open changes of `t`
-- is at most n plus the number of open changes of `s`. Open changes are changes since the last end
-- row.
pub record Remakes (n : ℕ) (s t : BookRunState) (text : List ℕ) : Type 0 where
  pub records : List (List (List ℕ))
  pub is : text ≡ flat_map (row_text default_writer) records
  pub plain : AllByRecursion StartsPlain records
  pub few : length records + length t.changes ≤ length s.changes + n
  pub runs : (a : ℕ) → (b : ℕ) × (lines : List ℕ) × ((p : ℕ) → AreAnswered book_answers p (bare s a) records lines (bare t b))

-- The book, both counts and the skipped versions are unchanged.
abbrev pub SameBook : BookRunState → BookRunState → Type 0
SameBook s t = (t.book ≡ s.book) × (t.batches ≡ s.batches) × (t.restored ≡ s.restored) × (t.skipped ≡ s.skipped)

-- the state of a run over the texts of accepted rows that has this book and these counts
abbrev bare_of : BookState → ℕ → ℕ → ℕ → ℕ → BookRunState
bare_of book batches restored skipped answers =
    record { book = book; batches = batches; restored = restored; changes = []; answers = answers; refused = 0; skipped = skipped }

bare_same : (s t : BookRunState) (a : ℕ) → SameBook s t → bare t a ≡ bare s a
bare_same s t a (book, batches, restored, skipped) =
    ap (λ (b : BookState). bare_of b t.batches t.restored t.skipped a) book ∙ ap (λ (n : ℕ). bare_of s.book n t.restored t.skipped a) batches
    ∙ ap (λ (n : ℕ). bare_of s.book s.batches n t.skipped a) restored ∙ ap (λ (n : ℕ). bare_of s.book s.batches s.restored n a) skipped

no_text : (s t : BookRunState) (text : List ℕ) → text ≡ [] → SameBook s t → length t.changes ≤ length s.changes + 1 → Remakes 1 s t text
no_text s t text none same few = record {
  records = [];
  is = none;
  plain = tt;
  few = omega (arith, few);
  runs = λ a. (a, [], λ p. none_answered p (bare s a) (bare t a) (bare_same s t a same));
}

nothing_kept : (s t : BookRunState) (text : List ℕ) → SameBook s t → length t.changes ≤ length s.changes + 1
    → Remakes 1 s t (cond (t.book.version == s.book.version) [] text)
nothing_kept s t text same few =
    no_text s t (cond (t.book.version == s.book.version) [] text) (rw (eq-eqb t.book.version s.book.version (ap (λ (b : BookState). b.version) same.0)) refl) same few

-- Let a row make a new version of the book, and let its text for the writer `keep` be the text of
-- the row itself. If a run over just this row leads to the same book, `Remakes` holds for this row.
row_kept : (s t : BookRunState) (fields : List (List ℕ)) (line : List ℕ) (more : ℕ → ℕ) → t.book.version ≡ s.book.version + 1 → length t.changes ≤ length s.changes → StartsPlain fields
    → ((p a : ℕ) → book_answers p (bare s a) fields line (bare t (more a)))
    → Remakes 1 s t (cond (t.book.version == s.book.version) [] (row_text default_writer fields))
row_kept s t fields line more rises few starts answered = record {
  records = fields ∷ [];
  is = rw (another_version s.book.version t.book.version rises) (sym (append-nil (row_text default_writer fields)));
  plain = (starts, tt);
  few = omega (arith, few);
  runs = λ a. (more a, line, λ p. one_answered p (bare s a) (bare t (more a)) fields line (answered p a));
}

-- The numbers of the changes since the last end row are in the ranges of their types.
abbrev AreOpenInRange : BookRunState → Type 0
AreOpenInRange s = AllByRecursion IsChangeInRange s.changes

pub one_more_in_range : (cs : List Change) (c : Change) → AllByRecursion IsChangeInRange cs → IsChangeInRange c → AllByRecursion IsChangeInRange (cs ++ c ∷ [])
one_more_in_range [] c range here = (here, tt)
one_more_in_range (x ∷ cs) c range here = (range.0, one_more_in_range cs c range.1 here)

same_changes : (s t : BookRunState) → t.changes ≡ s.changes → AreOpenInRange s → AreOpenInRange t
same_changes s t same range = subst (AllByRecursion IsChangeInRange) (sym same) range

-- A refused row has no text for the writer `keep`, and leaves the book unchanged.
refused_remakes : (s t : BookRunState) (text : List ℕ) → AreOpenInRange s → t ≡ after_refusal s → Remakes 1 s t (cond (t.book.version == s.book.version) [] text) × AreOpenInRange t
refused_remakes s t text range after =
    let opens = ap (λ (x : BookRunState). x.changes) after in (
      nothing_kept s t text (ap (λ (x : BookRunState). x.book) after, ap (λ (x : BookRunState). x.batches) after, ap (λ (x : BookRunState). x.restored) after, ap (λ (x : BookRunState). x.skipped) after) (rw opens (omega arith)),
      same_changes s t opens range,
    )

-- A row that is refused by `memory` has no text for the writer `keep`, and leaves the book unchanged.
memory_remakes : (s t : BookRunState) (text : List ℕ) (called : RowName) → AreOpenInRange s → text ≡ [] → t ≡ after_memory s called → Remakes 1 s t text × AreOpenInRange t
memory_remakes s t text (name.Batch number) range none after =
    let opens = ap (λ (x : BookRunState). x.changes) after in (
      no_text s t text none (ap (λ (x : BookRunState). x.book) after, ap (λ (x : BookRunState). x.batches) after, ap (λ (x : BookRunState). x.restored) after, ap (λ (x : BookRunState). x.skipped) after) (rw opens (omega arith)),
      subst (AllByRecursion IsChangeInRange) (sym opens) tt,
    )
memory_remakes s t text other range none after =
    let opens = ap (λ (x : BookRunState). x.changes) after in (
      no_text s t text none (ap (λ (x : BookRunState). x.book) after, ap (λ (x : BookRunState). x.batches) after, ap (λ (x : BookRunState). x.restored) after, ap (λ (x : BookRunState). x.skipped) after) (rw opens (omega arith)),
      same_changes s t opens range,
    )

-- A row that only looks has no text for the writer `keep`, and leaves the book unchanged.
looked_remakes : (s t : BookRunState) (text : List ℕ) → AreOpenInRange s → Looks s t → Remakes 1 s t (cond (t.book.version == s.book.version) [] text) × AreOpenInRange t
looked_remakes s t text range look =
    let opens = look_same (λ (x : BookRunState). x.changes) s t refl look in (
      nothing_kept s t text
          (look_same (λ (x : BookRunState). x.book) s t refl look, look_same (λ (x : BookRunState). x.batches) s t refl look, look_same (λ (x : BookRunState). x.restored) s t refl look, look_same (λ (x : BookRunState). x.skipped) s t refl look)
          (rw opens (omega arith)),
      same_changes s t opens range,
    )

module _ (read : AreRowsRead) (laws : AreRowsReadBack) where
  batch_kept : (s t : BookRunState) (number count : ℕ) (line : List ℕ) → AreOpenInRange s → number < 2 ^ 32 → count < 2 ^ 32 → IsBaseAccepted s number count → AreBaseLines s number line
      → t ≡ after_base_batch s → Remakes 1 s t (cond (t.book.version == s.book.version) [] (text_of_step s (step.End number count)))
  batch_kept s t number count line range small few accepted lines after =
      let short : length s.changes < 2 ^ 32 = omega (arith, accepted.counted, few) in
      let all = records_plain laws s.changes number (length s.changes) range small short in
      let version = ap (λ (x : BookRunState). x.book.version) after in
      let none = ap (λ (x : BookRunState). x.changes) after in
      record {
        records = batch_records (open_base_batch s number);
        is = rw (another_version s.book.version t.book.version version) (lines_rows (batch_records (open_base_batch s number)) all);
        plain = rows_start (batch_records (open_base_batch s number)) all;
        few = rw none (simp (length-append, length-map) (omega arith));
        runs = λ a. (
          a,
          line,
          λ p.
              let from : BookRunState = record { book = s.book; batches = s.batches; restored = s.restored; changes = s.changes; answers = a; refused = 0; skipped = s.skipped } in
              let ended : (q : ℕ) → AreAnswered book_answers q from (end_fields number (length s.changes) ∷ []) line (after_base_batch from) =
              λ q. one_answered q from (after_base_batch from) (end_fields number (length s.changes)) line (end_taken laws q s number count line small short accepted lines a) in
              subst (λ (x : BookRunState). AreAnswered book_answers p (bare s a) (batch_records (open_base_batch s number)) line (bare x a)) (sym after)
              (append_answered (map change_fields s.changes) (end_fields number (length s.changes) ∷ []) p (bare s a) from (after_base_batch from) [] line
              (changes_taken laws s.changes p (bare s a) range) ended),
        );
      }

  step_remakes : (s t : BookRunState) (r : Step) (line : List ℕ) → AreOpenInRange s → IsStepInRange r → IsBookStepAnswered s r line t
      → Remakes 1 s t (cond (t.book.version == s.book.version) [] (text_of_step s r)) × AreOpenInRange t
  step_remakes s t (step.Change c) line range here a =
      let opens = ap (λ (x : BookRunState). x.changes) a.1 in (
        nothing_kept s t [] (ap (λ (x : BookRunState). x.book) a.1, ap (λ (x : BookRunState). x.batches) a.1, ap (λ (x : BookRunState). x.restored) a.1, ap (λ (x : BookRunState). x.skipped) a.1) (rw opens (simp length-append (omega arith))),
        subst (AllByRecursion IsChangeInRange) (sym opens) (one_more_in_range s.changes c range here),
      )
  step_remakes s t (step.Ask q) line range here a =
      let opens = ap (λ (x : BookRunState). x.changes) a.3 in (
        nothing_kept s t [] (ap (λ (x : BookRunState). x.book) a.3, ap (λ (x : BookRunState). x.batches) a.3, ap (λ (x : BookRunState). x.restored) a.3, ap (λ (x : BookRunState). x.skipped) a.3) (rw opens (omega arith)),
        same_changes s t opens range,
      )
  step_remakes s t (step.End number count) line range here (inl (accepted, lines, after)) = (
    batch_kept s t number count line range here.0 here.1 accepted lines after,
    subst (AllByRecursion IsChangeInRange) (sym (ap (λ (x : BookRunState). x.changes) after)) tt,
  )
  step_remakes s t (step.End number count) line range here (inr (why, kept, is, line_is, after)) =
      let opens = ap (λ (x : BookRunState). x.changes) after in (
        nothing_kept s t (text_of_step s (step.End number count)) (ap (λ (x : BookRunState). x.book) after, ap (λ (x : BookRunState). x.batches) after, ap (λ (x : BookRunState). x.restored) after, ap (λ (x : BookRunState). x.skipped) after) (rw opens (omega arith)),
        subst (AllByRecursion IsChangeInRange) (sym opens) tt,
      )

  -- If a `place` row is answered, a run over its text for the writer `keep` leads to the same book
  -- as the row (`Remakes`).
  placed_remakes : (s t : BookRunState) (fields : List (List ℕ)) (q : Request) (hold : ℕ) (line : List ℕ) (x : IsPlaceAnswered s q hold line t.book) (answer : Answer) → IsAnswerPlaced s.book q hold answer t.book
      → t ≡ after_answer s t.book → book_row_of fields ≡ Ok (book_row.Place q hold) → Remakes 1 s t (cond (t.book.version == s.book.version) [] (row_text default_writer fields))
  placed_remakes s t fields q hold line x (route walk) placed after is =
      row_kept s t fields line (λ a. a + 1) placed.version (rw (ap (λ (y : BookRunState). y.changes) after) (omega arith)) (read_row fields (book_row.Place q hold) is) (λ p a.
      subst (λ (r : Result BookRow BookRowError). IsBookRowAnswered p (bare s a) r line (bare t (a + 1))) (sym is)
      (inl (
        record { room = x.room; few = x.few; answer = x.answer; best = x.best; placed = x.placed; reply = x.reply },
        ap (λ (y : BookRunState). bare_of t.book y.batches y.restored y.skipped (a + 1)) after,
      )))
  placed_remakes s t fields q hold line x other placed after is =
      nothing_kept s t (row_text default_writer fields) (placed, ap (λ (y : BookRunState). y.batches) after, ap (λ (y : BookRunState). y.restored) after, ap (λ (y : BookRunState). y.skipped) after) (rw (ap (λ (y : BookRunState). y.changes) after) (omega arith))

  row_remakes : (p : ℕ) (s t : BookRunState) (fields : List (List ℕ)) (r : Result BookRow BookRowError) (line : List ℕ) → AreOpenInRange s → book_row_of fields ≡ r → IsBookRowAnswered p s r line t
      → Remakes 1 s t (cond (t.book.version == s.book.version) [] (text_of_row s fields r)) × AreOpenInRange t
  row_remakes p s t fields (Err e) line range is a = refused_remakes s t [] range a.1
  row_remakes p s t fields (Ok (book_row.Base b)) line range is a =
      step_remakes s t (step_of b) line range (row_in_range fields b ((read fields b).0 (read_row fields (book_row.Base b) is))) a
  row_remakes p s t fields (Ok (book_row.Place q hold)) line range is (inl (x, after)) = (
    placed_remakes s t fields q hold line x x.answer x.placed after is,
    same_changes s t (ap (λ (y : BookRunState). y.changes) after) range,
  )
  row_remakes p s t fields (Ok (book_row.Place q hold)) line range is (inr (why, refused, line_is, after)) =
      refused_remakes s t (row_text default_writer fields) range after
  row_remakes p s t fields (Ok (book_row.Release id)) line range is (inl (room, has, line_is, after)) =
      let opens = ap (λ (x : BookRunState). x.changes) after in (
        row_kept s t fields line (λ a. a) (ap (λ (x : BookRunState). x.book.version) after) (rw opens (omega arith)) (read_row fields (book_row.Release id) is) (λ q a.
            subst (λ (r : Result BookRow BookRowError). IsBookRowAnswered q (bare s a) r line (bare t a)) (sym is)
            (inl (room, has, line_is, ap (λ (x : BookRunState). bare x a) after))),
        same_changes s t opens range,
      )
  row_remakes p s t fields (Ok (book_row.Release id)) line range is (inr (why, refused, line_is, after)) =
      refused_remakes s t (row_text default_writer fields) range after
  row_remakes p s t fields (Ok (book_row.Held q)) line range is (inl (room, may, line_is, after)) =
      let opens = ap (λ (x : BookRunState). x.changes) after in (
        row_kept s t fields line (λ a. a) (ap (λ (x : BookRunState). x.book.version) after) (rw opens (omega arith)) (read_row fields (book_row.Held q) is) (λ n a.
            subst (λ (r : Result BookRow BookRowError). IsBookRowAnswered n (bare s a) r line (bare t a)) (sym is)
            (inl (room, may, line_is, ap (λ (x : BookRunState). bare x a) after))),
        same_changes s t opens range,
      )
  row_remakes p s t fields (Ok (book_row.Held q)) line range is (inr (why, refused, line_is, after)) =
      refused_remakes s t (row_text default_writer fields) range after
  row_remakes p s t fields (Ok (book_row.Offer q hold)) line range is (inl (x, after)) =
      let opens = ap (λ (y : BookRunState). y.changes) after in (
        nothing_kept s t (row_text default_writer fields) (ap (λ (y : BookRunState). y.book) after, ap (λ (y : BookRunState). y.batches) after, ap (λ (y : BookRunState). y.restored) after, ap (λ (y : BookRunState). y.skipped) after) (rw opens (omega arith)),
        same_changes s t opens range,
      )
  row_remakes p s t fields (Ok (book_row.Offer q hold)) line range is (inr (why, refused, line_is, after)) =
      refused_remakes s t (row_text default_writer fields) range after
  row_remakes p s t fields (Ok (book_row.Show id)) line range is a =
      looked_remakes s t (row_text default_writer fields) range (shown_looks s t id (placement_of id s.book.placements) line a)
  row_remakes p s t fields (Ok (book_row.Left from local)) line range is a =
      looked_remakes s t (row_text default_writer fields) range (left_looks s t (from, local) (figures_at s.book.base s.book.placements (from, local)) line a)

pub plain_append : (xs ys : List (List (List ℕ))) → AllByRecursion StartsPlain xs → AllByRecursion StartsPlain ys → AllByRecursion StartsPlain (xs ++ ys)
plain_append [] ys a b = b
plain_append (x ∷ xs) ys a b = (a.0, plain_append xs ys a.1 b)

both_remake : (n k : ℕ) (s m t : BookRunState) (x y : List ℕ) → Remakes n s m x → Remakes k m t y → Remakes (n + k) s t (x ++ y)
both_remake n k s m t x y a b = record {
  records = a.records ++ b.records;
  is = rw (a.is, b.is) (sym (flat_map-append (row_text default_writer) a.records b.records));
  plain = plain_append a.records b.records a.plain b.plain;
  few = simp length-append (omega (arith, a.few, b.few));
  runs = λ from.
      let first = a.runs from in
      let second = b.runs first.0 in
      (second.0, first.1 ++ second.1, λ p. append_answered a.records b.records p (bare s from) (bare m first.0) (bare t second.0) first.1 second.1 (first.2 p) second.2);
}

no_rows : (s t : BookRunState) (text : List ℕ) → text ≡ [] → t ≡ s → Remakes 0 s t text
no_rows s t text none same = record {
  records = [];
  is = none;
  plain = tt;
  few = rw same (omega arith);
  runs = λ a. (a, [], λ p. none_answered p (bare s a) (bare t a) (ap (λ (x : BookRunState). bare x a) same));
}

one_remakes : AreRowsRead → AreRowsReadBack → (p : ℕ) (s t : BookRunState) (fields : List (List ℕ)) (text : List ℕ) → AreOpenInRange s → kept_or_out_answers p s fields text t → Remakes 1 s t text × AreOpenInRange t
one_remakes read laws p s t fields text range (inl (line, answer, kept_is)) =
    let row = row_remakes read laws p s t fields (book_row_of fields) line range refl answer in
    (subst (Remakes 1 s t) (sym kept_is) row.0, row.1)
one_remakes read laws p s t fields text range (inr (none, line, out)) = memory_remakes s t text out.called range none out.after

pub rows_remake : AreRowsRead → AreRowsReadBack → (rows : List (List (List ℕ))) (p : ℕ) (s t : BookRunState) (text : List ℕ) → AreOpenInRange s → AreAnswered kept_or_out_answers p s rows text t → Remakes (length rows) s t text
unfolding AreAnswered
rows_remake read laws [] p s t text range a = no_rows s t text a.0 a.1
rows_remake read laws (fields ∷ rows) p s t text range (kept, next, more, a, whole, rest) =
    let first = one_remakes read laws p s next fields kept range a in
    let others = rows_remake read laws rows (suc p) next t more first.1 rest in
    let both = both_remake 1 (length rows) s next t kept more first.0 others in
    let count : 1 + length rows ≡ suc (length rows) = omega arith in
    rw whole (subst (λ (n : ℕ). Remakes n s t (kept ++ more)) count both)

-- Rows that are answered are answered or refused by `memory`.
pub kept_rows : (rows : List (List (List ℕ))) (p : ℕ) (s t : BookRunState) (text : List ℕ) → AreAnswered kept_answers p s rows text t → AreAnswered kept_or_out_answers p s rows text t
unfolding AreAnswered
kept_rows [] p s t text a = a
kept_rows (fields ∷ rows) p s t text (kept, next, more, a, whole, rest) = (kept, next, more, inl a, whole, kept_rows rows (suc p) next t more rest)
