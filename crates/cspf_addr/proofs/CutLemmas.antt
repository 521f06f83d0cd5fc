-- How a text is cut at its first byte `mark`.
use Rattle.std.proofs.Common.{◌≡◌, ◌≢◌, ℕ, ◌+◌, ◌-◌, ◌<◌, ◌≤◌, Bool, true, false, cond, ltb, eqb, List, [], ◌∷◌, ◌++◌, length, get_or, take, drop, add-one, suc, Some, None, refl, sym, ap, ◌∙◌, arith}
use Rattle.std.proofs.lemmas.Bool.{ltb-true, ltb-false, eqb-true, eq-eqb, ne_eqb}
use Rattle.std.proofs.lemmas.List.{take_rest, drop_all, take_at, length-drop}
use Rattle.std.proofs.lemmas.List.Sums.{prefix_len-le-length, split_at_first, passes_at_first}
use Rattle.std.proofs.lemmas.Str.Parse.{digit_from_value}
use Rattle.std.specs.Str.Parse.{AllDigits}
use Rattle.std.proofs.Math.Seq.{take-length}
use Rattle.std.proofs.Math.Numerals.{one-add}
use Rattle.std.specs.List.{position, position_or_len, AllByRecursion}
use Rattle.cspf_addr.specs.AddressText.{text_before, text_after}

place_some : (place whole at : ℕ) (b : Bool) → ltb place whole ≡ b
    → cond b (Some place) None ≡ Some at → (place ≡ at) × (at < whole)
place_some place whole at true test found =
    let same : place ≡ at = cc in (same, rw same at (ltb-true _ _ test))
place_some place whole at false test found = absurd (cc)

place_none : (place whole : ℕ) (b : Bool) → ltb place whole ≡ b → place ≤ whole
    → cond b (Some place) None ≡ None → place ≡ whole
place_none place whole true test most found = absurd (cc)
place_none place whole false test most found = omega (arith, ltb-false _ _ test)

-- If a search for the byte `mark` finds the index `at`, then `at` is the index of the first byte
-- `mark`.
pub position_some : (mark : ℕ) (text : List ℕ) (at : ℕ)
    → position (λ byte. eqb byte mark) text ≡ Some at
    → (position_or_len (λ byte. eqb byte mark) text ≡ at) × (at < length text)
position_some mark text at found = place_some _ _ at _ refl found

-- If a search for the byte `mark` finds nothing, `position_or_len` gives the length of the text.
pub position_none : (mark : ℕ) (text : List ℕ) → position (λ byte. eqb byte mark) text ≡ None
    → position_or_len (λ byte. eqb byte mark) text ≡ length text
position_none mark text found = place_none _ _ _ refl (prefix_len-le-length _ text) found

-- If a search for the byte `mark` finds the index `at`, the first `at` bytes of the text are
-- `text_before mark text`.
pub before_some : (mark : ℕ) (text : List ℕ) (at : ℕ)
    → position (λ byte. eqb byte mark) text ≡ Some at → take at text ≡ text_before mark text
unfolding text_before
before_some mark text at found = ap (λ n. take n text) (sym (position_some mark text at found).0)

-- If a search for the byte `mark` finds the index `at`, the bytes of the text after this index are
-- `text_after mark text`.
pub after_some : (mark : ℕ) (text : List ℕ) (at : ℕ)
    → position (λ byte. eqb byte mark) text ≡ Some at
    → take (length text - (at + 1)) (drop (at + 1) text) ≡ text_after mark text
unfolding text_after
after_some mark text at found =
    take_rest text (at + 1) ∙ ap (λ n. drop (n + 1) text) (sym (position_some mark text at found).0)

-- The next two lemmas: if no byte of a text is `mark`, `text_before` gives the whole text, and
-- `text_after` gives the empty text.
pub before_none : (mark : ℕ) (text : List ℕ) → position (λ byte. eqb byte mark) text ≡ None
    → text ≡ text_before mark text
unfolding text_before
before_none mark text found =
    sym (take-length text) ∙ ap (λ n. take n text) (sym (position_none mark text found))

pub after_none : (mark : ℕ) (text : List ℕ) → position (λ byte. eqb byte mark) text ≡ None
    → [] ≡ text_after mark text
unfolding text_after
after_none mark text found = sym (drop_all _ text (omega (arith, position_none mark text found)))

-- No byte of the text is `mark`.
abbrev pub Lacks : ℕ → List ℕ → Type 0
Lacks mark text = AllByRecursion (λ byte. byte ≢ mark) text

-- If a text has only decimal digits, and `mark` is below 48 (the byte of the digit 0), no byte of
-- the text is `mark`.
pub Lacks-digits : (mark : ℕ) (text : List ℕ) → mark < 48 → AllDigits 10 text → Lacks mark text
Lacks-digits mark [] low digits = tt
Lacks-digits mark (byte ∷ rest) low digits =
    (λ same. omega (arith, same, digit_from_value byte digits.0), Lacks-digits mark rest low digits.1)

-- If the text `front`, which lacks `mark`, is followed by `mark`, the index of the first `mark` is
-- the length of `front`.
position-front : (mark : ℕ) (front back : List ℕ) → Lacks mark front
    → position_or_len (λ byte. eqb byte mark) (front ++ mark ∷ back) ≡ length front
position-front mark [] back lacks = rw (eq-eqb mark mark refl) refl
position-front mark (byte ∷ front) back lacks =
    rw (ne_eqb byte mark lacks.0, position-front mark front back lacks.1) (one-add (length front))

drop_behind : (mark : ℕ) (front back : List ℕ)
    → drop (length front + 1) (front ++ mark ∷ back) ≡ back
drop_behind mark front back = rw add-one (behind mark front back)
  where
    behind : (mark : ℕ) (front back : List ℕ)
        → drop (suc (length front)) (front ++ mark ∷ back) ≡ back
    behind mark [] back = refl
    behind mark (byte ∷ front) back = behind mark front back

-- The next two lemmas: if the text `front`, which lacks `mark`, is followed by `mark` and the bytes
-- `back`, `text_before` gives `front`, and `text_after` gives `back`.
pub before-front : (mark : ℕ) (front back : List ℕ) → Lacks mark front
    → text_before mark (front ++ mark ∷ back) ≡ front
unfolding text_before
before-front mark front back lacks =
    take_at front (mark ∷ back) _ (sym (position-front mark front back lacks))

pub after-front : (mark : ℕ) (front back : List ℕ) → Lacks mark front
    → text_after mark (front ++ mark ∷ back) ≡ back
unfolding text_after
after-front mark front back lacks =
    ap (λ at. drop (at + 1) (front ++ mark ∷ back)) (position-front mark front back lacks)
    ∙ drop_behind mark front back

-- If bytes follow the first `mark` of a text, the text consists of the part before this `mark`, the
-- `mark`, and the part after it.
pub cut_whole : (mark : ℕ) (text : List ℕ) → 0 < length (text_after mark text)
    → text ≡ text_before mark text ++ mark ∷ text_after mark text
unfolding text_before text_after
cut_whole mark text some =
    let within : position_or_len (λ byte. eqb byte mark) text < length text = inside mark text some in
    let at : get_or text (position_or_len (λ byte. eqb byte mark) text) 0 ≡ mark = eqb-true _ _ (passes_at_first (λ byte. eqb byte mark) text 0 within) in
    rw at at (split_at_first (λ byte. eqb byte mark) text 0 within)
  where
    inside : (mark : ℕ) (text : List ℕ)
        → 0 < length (drop (position_or_len (λ byte. eqb byte mark) text + 1) text)
        → position_or_len (λ byte. eqb byte mark) text < length text
    inside mark text some = omega (arith, simp length-drop at some)

-- If no byte of two texts is `mark`, no byte of their concatenation is `mark`.
pub Lacks-append : (mark : ℕ) (front back : List ℕ) → Lacks mark front → Lacks mark back
    → Lacks mark (front ++ back)
Lacks-append mark [] back lacks_front lacks_back = lacks_back
Lacks-append mark (byte ∷ front) back lacks_front lacks_back =
    (lacks_front.0, Lacks-append mark front back lacks_front.1 lacks_back)
