-- How a text is cut after its last whole line that begins with `end,`, `place,`, `release,` or `held,`.
use Rattle.std.proofs.Common.{◌≡◌, ◌==◌, ℕ, suc, ◌+◌, ◌<◌, ◌≤◌, true, false, List, [], ◌∷◌, ◌++◌, length, take, drop, Option, Some, None, inl, inr, refl, sym, ap, subst, ◌∙◌, append_assoc, append-nil, position, IsTrue, arith}
use Rattle.std.proofs.lemmas.Bool.{cases_Bool, eqb-true, eqb-false}
use Rattle.std.proofs.lemmas.Grind.{flat_map-append}
use Rattle.std.proofs.lemmas.List.{length-append, length-take, take-append-drop, take_at}
use Rattle.std.proofs.Math.Numerals.{one-add}
use Rattle.std.specs.List.{position_or_len, AllByRecursion}
use Rattle.std.specs.Option.{option_map}
use Rattle.cspf_addr.proofs.CutLemmas.{position_some, position_none}
use Rattle.cspf_book.proofs.MovedBatches.{all_append}
use Rattle.cspf_book_run.specs.Settled.{is_settling, line_length, LacksFeed, IsWholeLine, text_of_lines, EndsSettled, IsSettledPart}

-- ---- one line

abbrev feed_at : List ℕ → ℕ
feed_at text = position_or_len (λ byte. byte == 10) text

-- The bytes up to the first line feed are a whole line.
line_at : (text : List ℕ) → feed_at text < length text → IsWholeLine (take (suc (feed_at text)) text)
line_at [] less = absurd (omega (arith, less))
line_at (b ∷ bs) less = elim (cases_Bool (b == 10)) [
  | inl is ↦ rw is (record { body = []; feed = ap (λ (n : ℕ). n ∷ []) (eqb-true b 10 is); plain = tt })
  | inr off ↦
      let within : feed_at bs < length bs = omega (arith, rw off at less) in
      let rest = line_at bs within in
      let more : IsWholeLine (b ∷ take (suc (feed_at bs)) bs) = record { body = b ∷ rest.body; feed = ap (λ (xs : List ℕ). b ∷ xs) rest.feed; plain = (eqb-false b 10 off, rest.plain) } in
      rw off (subst (λ (n : ℕ). IsWholeLine (b ∷ take n bs)) (sym (one-add (feed_at bs))) more)
]

-- Without a line feed, no byte is one.
none_at : (text : List ℕ) → length text ≤ feed_at text → LacksFeed text
none_at [] most = tt
none_at (b ∷ bs) most = elim (cases_Bool (b == 10)) [
  | inl is ↦ absurd (omega (arith, rw is at most))
  | inr off ↦ (eqb-false b 10 off, none_at bs (omega (arith, rw off at most)))
]

-- how long the first line is
length_of : (p : Option ℕ) (size : ℕ) → option_map (λ at. at + 1) p ≡ Some size → (at : ℕ) × (p ≡ Some at) × (size ≡ at + 1)
length_of (Some at) size is = (at, refl, cc)
length_of None size is = absurd (cc)

no_length : (p : Option ℕ) → option_map (λ at. at + 1) p ≡ None → p ≡ None
no_length (Some at) is = absurd (cc)
no_length None is = refl

pub first_line : (text : List ℕ) (size : ℕ) → line_length text ≡ Some size → IsWholeLine (take size text) × (size ≤ length text) × (0 < size)
first_line text size is =
    let found = length_of (position (λ byte. byte == 10) text) size is in
    let at = position_some 10 text found.0 found.1 in
    let within : feed_at text < length text = omega (arith, at.0, at.1) in
    let same : suc (feed_at text) ≡ size = omega (arith, at.0, found.2) in
    (subst (λ (n : ℕ). IsWholeLine (take n text)) same (line_at text within), omega (arith, same, within), omega (arith, same))

no_line : (text : List ℕ) → line_length text ≡ None → LacksFeed text
no_line text is = none_at text (omega (arith, position_none 10 text (no_length (position (λ byte. byte == 10) text) is)))

-- ---- all lines

-- The text is cut into whole lines and the rest. The lines have `at` bytes. The first of them, up to
-- the last that begins with `end,`, `place,`, `release,` or `held,`, have `settled` bytes.
pub record IsCutInto (text rest : List ℕ) (at settled : ℕ) : Type 0 where
  pub lines : List (List ℕ)
  pub more : List (List ℕ)
  pub whole : text ≡ text_of_lines (lines ++ more) ++ rest
  pub size : at ≡ length (text_of_lines (lines ++ more))
  pub front : settled ≡ length (text_of_lines lines)
  pub cut : AllByRecursion IsWholeLine (lines ++ more)
  pub ends : EndsSettled lines
  pub none : AllByRecursion (λ line. ¬ IsTrue (is_settling line)) more

pub cut_at_first : (text : List ℕ) → IsCutInto text text 0 0
cut_at_first text = record { lines = []; more = []; whole = refl; size = refl; front = refl; cut = tt; ends = record { ends = inl refl }; none = tt }

one_line : (line : List ℕ) → text_of_lines (line ∷ []) ≡ line
one_line line = append-nil line

module _ (text rest : List ℕ) (at settled size : ℕ) (c : IsCutInto text rest at settled) (is : line_length rest ≡ Some size) where
  abbrev line : List ℕ
  line = take size rest

  abbrev all : List (List ℕ)
  all = c.lines ++ c.more

  text_on : text_of_lines (all ++ line ∷ []) ≡ text_of_lines all ++ line
  text_on = flat_map-append (λ (l : List ℕ). l) all (line ∷ []) ∙ ap (λ (x : List ℕ). text_of_lines all ++ x) (one_line line)

  whole_on : text ≡ text_of_lines (all ++ line ∷ []) ++ drop size rest
  whole_on =
      c.whole ∙ ap (λ (x : List ℕ). text_of_lines all ++ x) (sym (take-append-drop size rest)) ∙ sym (append_assoc (text_of_lines all) line (drop size rest))
      ∙ ap (λ (x : List ℕ). x ++ drop size rest) (sym text_on)

  size_on : at + size ≡ length (text_of_lines (all ++ line ∷ []))
  size_on =
      let few = (first_line rest size is).1 in
      omega (arith, c.size, ap length text_on, length-append (text_of_lines all) line, length-take size rest, few)

  cut_on : AllByRecursion IsWholeLine (all ++ line ∷ [])
  cut_on = all_append IsWholeLine all (line ∷ []) c.cut ((first_line rest size is).0, tt)

  -- The line begins with `end,`, `place,`, `release,` or `held,`.
  pub cut_settled : is_settling line ≡ true → IsCutInto text (drop size rest) (at + size) (at + size)
  cut_settled settles =
      let same : (all ++ line ∷ []) ++ [] ≡ all ++ line ∷ [] = append-nil (all ++ line ∷ []) in
      record {
        lines = all ++ line ∷ [];
        more = [];
        whole = rw same whole_on;
        size = rw same size_on;
        front = size_on;
        cut = rw same cut_on;
        ends = record { ends = inr (all, line, refl, settles) };
        none = tt;
      }

  -- The line begins otherwise.
  pub cut_other : is_settling line ≡ false → IsCutInto text (drop size rest) (at + size) settled
  cut_other other =
      let same : c.lines ++ (c.more ++ line ∷ []) ≡ all ++ line ∷ [] = sym (append_assoc c.lines c.more (line ∷ [])) in
      record {
        lines = c.lines;
        more = c.more ++ line ∷ [];
        whole = rw same whole_on;
        size = rw same size_on;
        front = c.front;
        cut = rw same cut_on;
        ends = c.ends;
        none = all_append (λ (l : List ℕ). ¬ IsTrue (is_settling l)) c.more (line ∷ []) c.none (λ yes. let no : is_settling line ≡ true = yes in absurd (cc), tt);
      }

  -- the counted bytes are no more than the text has
  pub counted_on : (at + size ≤ length text) × (length rest ≡ size + length (drop size rest))
  counted_on =
      let few = (first_line rest size is).1 in
      let split = take-append-drop size rest in (
        omega (arith, size_on, ap length whole_on, length-append (text_of_lines (all ++ line ∷ [])) (drop size rest)),
        omega (arith, few, ap length split, length-append line (drop size rest), length-take size rest),
      )

pub settled_in : (text rest : List ℕ) (at settled : ℕ) → IsCutInto text rest at settled → settled ≤ length text
settled_in text rest at settled c =
    omega (
      arith,
      c.front,
      ap length c.whole,
      length-append (text_of_lines (c.lines ++ c.more)) rest,
      ap length (flat_map-append (λ (l : List ℕ). l) c.lines c.more),
      length-append (text_of_lines c.lines) (text_of_lines c.more),
    )

-- After the last whole line, the part up to `settled` is what is asked for.
pub settled_at_last : (text rest : List ℕ) (at settled : ℕ) (c : IsCutInto text rest at settled) → line_length rest ≡ None → IsSettledPart text (take settled text)
settled_at_last text rest at settled c none =
    let apart : text ≡ text_of_lines c.lines ++ (text_of_lines c.more ++ rest) =
    c.whole ∙ ap (λ (x : List ℕ). x ++ rest) (flat_map-append (λ (l : List ℕ). l) c.lines c.more) ∙ append_assoc (text_of_lines c.lines) (text_of_lines c.more) rest in
    record {
      lines = c.lines;
      more = c.more;
      torn = rest;
      whole = c.whole;
      front = ap (take settled) apart ∙ take_at (text_of_lines c.lines) (text_of_lines c.more ++ rest) settled (sym c.front);
      cut = c.cut;
      rest = no_line rest none;
      ends = c.ends;
      none = c.none;
    }

pub settled_short : (text part : List ℕ) → IsSettledPart text part → length part ≤ length text
settled_short text part s =
    omega (
      arith,
      ap length s.whole,
      ap length s.front,
      length-append (text_of_lines (s.lines ++ s.more)) s.torn,
      ap length (flat_map-append (λ (l : List ℕ). l) s.lines s.more),
      length-append (text_of_lines s.lines) (text_of_lines s.more),
    )
