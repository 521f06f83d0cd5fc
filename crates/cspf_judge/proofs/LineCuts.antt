-- A text is read line by line.
use Rattle.std.proofs.Common.{◌≡◌, ◌≢◌, ℕ, ◌+◌, ◌-◌, ◌⊎◌, Bool, true, false, cond, eqb, nat_lt, ◌&&◌, List, [], ◌∷◌, ◌++◌, length, take, get_or, Option, Some, None, IfSome, inl, inr, refl, sym, ap, ◌∙◌, subst, append_assoc, append-nil, length-append, arith}
use Rattle.std.proofs.lemmas.Bool.{eqb-true, eqb-false, eq-eqb, ne_eqb, lt-ltb}
use Rattle.std.proofs.lemmas.List.{take_at}
use Rattle.std.specs.Io.BufRead.{take_through, drop_through, ends_with_byte, strip_last, DropsThrough}
use Rattle.cspf_rows.specs.declared.limits.TheConstants.{MOST_ROWS}
use Rattle.cspf_judge.specs.Lines.{HasNoFeed, AreLines, IsLastLine, HasTooManyLines}
use Rattle.cspf_judge.specs.LineReading.{IsLineBefore, TakesLine, AreSeen}

-- ---- each text consists of lines

put_first : (x : ℕ) (text : List ℕ) → x ≢ 10 → (lines : List (List ℕ)) → AreLines text lines → (more : List (List ℕ)) × AreLines (x ∷ text) more
put_first x text other [] are = ((x ∷ []) ∷ [], ((other, tt), inl ((rw are refl, λ same. absurd (cc)), refl)))
put_first x text other (line ∷ lines) (none, inl last) = ((x ∷ line) ∷ lines, ((other, none), inl ((ap (λ t. x ∷ t) last.0.0, λ same. absurd (cc)), last.1)))
put_first x text other (line ∷ lines) (none, inr more) = ((x ∷ line) ∷ lines, ((other, none), inr (more.0, ap (λ t. x ∷ t) more.1, more.2)))

pub has_lines : (text : List ℕ) → (lines : List (List ℕ)) × AreLines text lines
has_lines [] = ([], refl)
has_lines (x ∷ text) = go (eqb x 10) refl (has_lines text)
  where
    go : (b : Bool) → eqb x 10 ≡ b → ((lines : List (List ℕ)) × AreLines text lines) → (lines : List (List ℕ)) × AreLines (x ∷ text) lines
    go true same rest = ([] ∷ rest.0, (tt, inr (text, rw (eqb-true x 10 same) refl, rest.1)))
    go false other rest = put_first x text (eqb-false x 10 other) rest.0 rest.1

-- ---- the first line of a text is read

last_byte : (x : ℕ) (line : List ℕ) → HasNoFeed (x ∷ line) → get_or (x ∷ line) (length line) 0 ≢ 10
last_byte x [] none = none.0
last_byte x (y ∷ line) none = last_byte y line none.1

ends_as : (xs : List ℕ) (k : ℕ) → length xs ≡ k + 1 → ends_with_byte 10 xs ≡ eqb (get_or xs k 0) 10
ends_as xs k len =
    let some : nat_lt 0 (length xs) ≡ true = lt-ltb 0 (length xs) (omega (arith, len)) in
    let last : length xs - 1 ≡ k = omega (arith, len) in
    ap (λ b. b && eqb (get_or xs (length xs - 1) 0) 10) some ∙ ap (λ i. eqb (get_or xs i 0) 10) last

no_feed_ends : (line : List ℕ) → HasNoFeed line → strip_last 10 line ≡ line
no_feed_ends [] none = refl
no_feed_ends (x ∷ line) none = go (ends_with_byte 10 (x ∷ line)) (ends_as (x ∷ line) (length line) (omega arith) ∙ ne_eqb _ 10 (last_byte x line none))
  where
    go : (b : Bool) → b ≡ false → cond b (take (length (x ∷ line) - 1) (x ∷ line)) (x ∷ line) ≡ x ∷ line
    go true same = absurd (cc)
    go false same = refl

feed_at_end : (line : List ℕ) → get_or (line ++ 10 ∷ []) (length line) 0 ≡ 10
feed_at_end [] = refl
feed_at_end (x ∷ line) = feed_at_end line

feed_ends : (line : List ℕ) → strip_last 10 (line ++ 10 ∷ []) ≡ line
feed_ends line =
    go (ends_with_byte 10 (line ++ 10 ∷ [])) (ends_as (line ++ 10 ∷ []) (length line) (length-append line (10 ∷ [])) ∙ eq-eqb _ 10 (feed_at_end line))
  where
    go : (b : Bool) → b ≡ true → cond b (take (length (line ++ 10 ∷ []) - 1) (line ++ 10 ∷ [])) (line ++ 10 ∷ []) ≡ line
    go true same = take_at line (10 ∷ []) (length (line ++ 10 ∷ []) - 1) (rw (length-append line (10 ∷ [])) (omega arith))
    go false same = absurd (cc)

abbrev IsCut : List ℕ → Type 0
IsCut text =
    (HasNoFeed text × (take_through 10 text ≡ text) × (drop_through 10 text ≡ []))
    ⊎ ((line : List ℕ) × (rest : List ℕ) × HasNoFeed line × (text ≡ line ++ 10 ∷ rest) × (take_through 10 text ≡ line ++ 10 ∷ []) × (drop_through 10 text ≡ rest))

is_cut : (text : List ℕ) → IsCut text
is_cut [] = inl (tt, refl, refl)
is_cut (x ∷ text) = go (eqb x 10) refl (is_cut text)
  where
    go : (b : Bool) → eqb x 10 ≡ b → IsCut text → IsCut (x ∷ text)
    go true same cut = inr ([], text, tt, rw (eqb-true x 10 same) refl, rw (same, eqb-true x 10 same) refl, rw same refl)
    go false other (inl whole) = inl ((eqb-false x 10 other, whole.0), rw (other, whole.1) refl, rw (other, whole.2) refl)
    go false other (inr parts) =
        inr (x ∷ parts.0, parts.1, (eqb-false x 10 other, parts.2), ap (λ t. x ∷ t) parts.3, rw (other, parts.4) refl, rw (other, parts.5) refl)

-- if a reader read at least one byte, the list of the bytes read isn't empty
pub some_bytes : (bytes : List ℕ) (n : ℕ) → length bytes ≡ 0 + n → n ≢ 0 → bytes ≢ []
some_bytes bytes n counted read empty = read (omega (arith, counted, ap length empty))

-- the bytes up to a line feed, without that line feed, are the first line
pub takes_line : (old new : Option (List ℕ)) (bytes line : List ℕ) → IfSome old (λ text. bytes ≡ take_through 10 text) → DropsThrough old new 10 → bytes ≢ []
    → line ≡ strip_last 10 bytes → TakesLine old new (Some line)
takes_line None new bytes line read drops some cut = tt
takes_line (Some text) None bytes line read drops some cut = absurd (cc)
takes_line (Some text) (Some rest) bytes line read drops some cut = go (is_cut text)
  where
    left : rest ≡ drop_through 10 text
    left = cc

    go : IsCut text → IsLineBefore text line rest
    go (inl (none, all, nothing)) =
        let same : line ≡ text = cut ∙ ap (strip_last 10) (read ∙ all) ∙ no_feed_ends text none in
        (subst HasNoFeed (sym same) none, inl ((sym same, λ empty. some (read ∙ all ∙ sym same ∙ empty)), left ∙ nothing))
    go (inr (first, after, none, is, took, behind)) =
        let same : line ≡ first = cut ∙ ap (strip_last 10) (read ∙ took) ∙ feed_ends first in
        (subst HasNoFeed (sym same) none, inr (rw (same, left, behind) is))

-- ---- the lines are read one after the other

pub sees_none : (all : Option (List ℕ)) → AreSeen all all []
sees_none None = tt
sees_none (Some all) = λ more are. are

pub sees_more : (all left next : Option (List ℕ)) (seen : List (List ℕ)) (line : List ℕ) → AreSeen all left seen → TakesLine left next (Some line) → AreSeen all next (seen ++ line ∷ [])
sees_more None left next seen line before takes = tt
sees_more (Some all) None next seen line before takes = absurd before
sees_more (Some all) (Some left) None seen line before takes = absurd takes
sees_more (Some all) (Some left) (Some rest) seen line before takes = λ more are.
    subst (AreLines all) (sym (append_assoc seen (line ∷ []) more)) (before (line ∷ more) (takes.0, go takes.1 more are))
  where
    go : (IsLastLine left line × (rest ≡ [])) ⊎ (left ≡ line ++ 10 ∷ rest) → (more : List (List ℕ)) → AreLines rest more
        → (IsLastLine left line × (more ≡ [])) ⊎ ((after : List ℕ) × (left ≡ line ++ 10 ∷ after) × AreLines after more)
    go (inl last) [] are = inl (last.0, refl)
    go (inl last) (next_line ∷ more) (none, inl end) = absurd (end.0.1 (sym end.0.0 ∙ last.1))
    go (inl last) (next_line ∷ more) (none, inr parts) = absurd (no_front next_line parts.0 (sym parts.1 ∙ last.1))
      where
        no_front : (front back : List ℕ) → front ++ 10 ∷ back ≢ []
        no_front [] back same = absurd (cc)
        no_front (x ∷ front) back same = absurd (cc)
    go (inr feed) more are = inr (rest, feed, are)

pub sees_all : (all left next : Option (List ℕ)) (seen : List (List ℕ)) → AreSeen all left seen → TakesLine left next None → IfSome all (λ bytes. AreLines bytes seen)
sees_all None left next seen before takes = tt
sees_all (Some all) None next seen before takes = absurd before
sees_all (Some all) (Some left) next seen before takes = subst (AreLines all) (append-nil seen) (before [] takes)

pub sees_too_many : (all left next : Option (List ℕ)) (seen : List (List ℕ)) (line : List ℕ) → AreSeen all left seen → TakesLine left next (Some line) → length seen ≡ MOST_ROWS
    → IfSome all HasTooManyLines
sees_too_many all left next seen line before takes whole = go all next (sees_more all left next seen line before takes)
  where
    go : (all next : Option (List ℕ)) → AreSeen all next (seen ++ line ∷ []) → IfSome all HasTooManyLines
    go None next after = tt
    go (Some all) None after = absurd after
    go (Some all) (Some rest) after =
        let more = has_lines rest in
        ((seen ++ line ∷ []) ++ more.0, after more.0 more.1, rw (length-append (seen ++ line ∷ []) more.0, length-append seen (line ∷ []), whole) (omega arith))
