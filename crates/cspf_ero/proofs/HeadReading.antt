-- How the two numbers at the start of a reply line, the id and the version, are read one after the
-- other.
use Rattle.std.proofs.Common.{◌≡◌, ◌≢◌, ℕ, ◌+◌, ◌^◌, ◌<◌, true, false, Bool, cond, ltb, eqb, ◌-◌, List, [], ◌∷◌, ◌++◌, codes, length, take, drop, get_or, Some, None, refl, sym, ap, ◌∙◌, subst, length-append, append_assoc, arith}
use Rattle.std.proofs.Math.Numerals.{one-add}
use Rattle.std.proofs.lemmas.Bool.{ne_eqb, eqb-true, ltb-true, lt-ltb}
use Rattle.std.proofs.lemmas.Fmt.{decimal_is_IsNumeral, decimal_injective}
use Rattle.std.proofs.lemmas.List.{take_at, take_rest, take-append-drop}
use Rattle.std.proofs.lemmas.List.Sums.{split_at_first, passes_at_first}
use Rattle.std.proofs.lemmas.Slice.Eq.{bytes_eq-Decides}
use Rattle.std.proofs.lemmas.Str.Parse.{digit_from_value}
use Rattle.std.specs.Cmp.Lexicographic.{pointwise}
use Rattle.std.specs.Fmt.{decimal}
use Rattle.std.specs.List.{position, position_or_len, AllByRecursion}
use Rattle.std.specs.Str.Parse.{AllDigits}
use Rattle.cspf_ero.specs.ReplyHead.{HasOneHead}

-- a text without spaces
abbrev IsWord : List ℕ → Type 0
IsWord text = AllByRecursion (λ byte. byte ≢ 32) text

digits_word : (text : List ℕ) → AllDigits 10 text → IsWord text
digits_word [] digits = tt
digits_word (byte ∷ rest) digits = (λ same. omega (arith, same, digit_from_value byte digits.0), digits_word rest digits.1)

decimal_word : (n : ℕ) → n < 2 ^ 64 → IsWord (decimal n)
decimal_word n small = digits_word (decimal n) (decimal_is_IsNumeral n small).0.1

-- if two equal texts each consist of a word, a space and further bytes, both words are equal, and
-- so are the further bytes
one_word : (a b c d : List ℕ) → IsWord a → IsWord b → a ++ 32 ∷ c ≡ b ++ 32 ∷ d → (a ≡ b) × (c ≡ d)
one_word [] [] c d wa wb same = (refl, cc)
one_word [] (y ∷ b) c d wa wb same = absurd (wb.0 (cc))
one_word (x ∷ a) [] c d wa wb same = absurd (wa.0 (cc))
one_word (x ∷ a) (y ∷ b) c d wa wb same =
    let head : x ≡ y = cc in
    let tail : a ++ 32 ∷ c ≡ b ++ 32 ∷ d = cc in
    let both = one_word a b c d wa.1 wb.1 tail in
    (rw (head, both.0) refl, both.1)

-- if two equal texts each consist of a decimal number, a space and further bytes, both numbers are
-- equal, and so are the further bytes
pub one_number : (m n : ℕ) (c d : List ℕ) → m < 2 ^ 64 → n < 2 ^ 64 → decimal m ++ 32 ∷ c ≡ decimal n ++ 32 ∷ d → (m ≡ n) × (c ≡ d)
one_number m n c d small other same =
    let both = one_word (decimal m) (decimal n) c d (decimal_word m small) (decimal_word n other) same in
    (decimal_injective m n small other both.0, both.1)

-- if a text begins with a word and a space, the index of its first space is the length of this word
place_of_space : (word rest : List ℕ) → IsWord word → position_or_len (λ byte. eqb byte 32) (word ++ 32 ∷ rest) ≡ length word
place_of_space [] rest w = refl
place_of_space (byte ∷ word) rest w = rw (ne_eqb byte 32 w.0, place_of_space word rest w.1) (one-add (length word))

module _ (n : ℕ) (text rest : List ℕ) (small : n < 2 ^ 64) (whole : text ≡ decimal n ++ 32 ∷ rest) where
  -- if a text begins with a decimal number and a space, its first space follows this number
  -- directly
  pub space_behind : position (λ byte. eqb byte 32) text ≡ Some (length (decimal n))
  space_behind = subst (λ t. position (λ byte. eqb byte 32) t ≡ Some (length (decimal n))) (sym whole) (rw (place_of_space (decimal n) rest (decimal_word n small), length-append (decimal n) (32 ∷ rest), lt-ltb (length (decimal n)) (length (decimal n) + length (32 ∷ rest)) (omega arith)) refl)

  -- the bytes before the first space of the text are the digits of the number `n`
  pub number_before : (at : ℕ) → position (λ byte. eqb byte 32) text ≡ Some at → take at text ≡ decimal n
  number_before at found =
      let there = space_behind in
      let place : at ≡ length (decimal n) = cc in
      rw (place, whole) (take_at (decimal n) (32 ∷ rest) (length (decimal n)) refl)

place_some : (place whole at : ℕ) (b : Bool) → ltb place whole ≡ b → cond b (Some place) None ≡ Some at → (place ≡ at) × (at < whole)
place_some place whole at true test found =
    let same : place ≡ at = cc in (same, rw same at (ltb-true _ _ test))
place_some place whole at false test found = absurd (cc)

-- a text with a space consists of the bytes before its first space, this space, and the bytes after
-- this space
pub cut_at_space : (text : List ℕ) (at : ℕ) → position (λ byte. eqb byte 32) text ≡ Some at
    → text ≡ take at text ++ 32 ∷ take (length text - (at + 1)) (drop (at + 1) text)
cut_at_space text at found =
    let (place, within) = place_some _ _ at _ refl found in
    let inside : position_or_len (λ byte. eqb byte 32) text < length text = rw place within in
    let space : get_or text (position_or_len (λ byte. eqb byte 32) text) 0 ≡ 32 = eqb-true _ _ (passes_at_first (λ byte. eqb byte 32) text 0 inside) in
    let parts : text ≡ take at text ++ 32 ∷ drop (at + 1) text = rw place at (rw space at (split_at_first (λ byte. eqb byte 32) text 0 inside)) in
    parts ∙ ap (λ rest. take at text ++ 32 ∷ rest) (sym (take_rest text (at + 1)))

-- a text that begins with `front` is `front`, followed by the rest of the text
pub starts_whole : (front text : List ℕ) → pointwise eqb (take (length front) text) front ≡ true → text ≡ front ++ drop (length front) text
starts_whole front text same =
    let begins : take (length front) text ≡ front = (bytes_eq-Decides (take (length front) text) front).0 same in
    sym (take-append-drop (length front) text) ∙ ap (λ begun. begun ++ drop (length front) text) begins

regroup : (id version rest : List ℕ) → codes "ask " ++ (id ++ (codes " v" ++ (version ++ (codes " " ++ rest)))) ≡ codes "ask " ++ id ++ codes " v" ++ version ++ codes " " ++ rest
regroup id version rest = simp append_assoc

regrouped : (id version : ℕ) (rest : List ℕ) → codes "ask " ++ (decimal id ++ 32 ∷ (118 ∷ (decimal version ++ 32 ∷ rest))) ≡ codes "ask " ++ decimal id ++ codes " v" ++ decimal version ++ codes " " ++ rest
regrouped id version rest = regroup (decimal id) (decimal version) rest

-- if a line is read as `ask `, a number, `v` and another number, it begins with these two numbers
-- as its id and its version
pub head_whole : (line behind more rest : List ℕ) (id version : ℕ) → line ≡ codes "ask " ++ behind → behind ≡ decimal id ++ 32 ∷ more → more ≡ codes "v" ++ (decimal version ++ 32 ∷ rest)
    → line ≡ codes "ask " ++ decimal id ++ codes " v" ++ decimal version ++ codes " " ++ rest
head_whole line behind more rest id version front first second =
    rw (front, first, second) (regrouped id version rest)

-- a line begins with at most one pair of an id and a version
pub one_head : HasOneHead
one_head line head other begins also =
    let same : codes "ask " ++ (decimal head.id ++ 32 ∷ (118 ∷ (decimal head.version ++ 32 ∷ begins.rest))) ≡ codes "ask " ++ (decimal other.id ++ 32 ∷ (118 ∷ (decimal other.version ++ 32 ∷ also.rest))) =
    regrouped head.id head.version begins.rest ∙ sym begins.whole ∙ also.whole ∙ sym (regrouped other.id other.version also.rest) in
    let ids = one_number head.id other.id (118 ∷ (decimal head.version ++ 32 ∷ begins.rest)) (118 ∷ (decimal other.version ++ 32 ∷ also.rest)) begins.id also.id (ap (drop 4) same) in
    let versions = one_number head.version other.version begins.rest also.rest (omega (arith, begins.version)) (omega (arith, also.version)) (ap (drop 1) ids.1) in
    rw (ids.0, versions.0) refl
