-- If an `over` line is found in the lines of a base batch, it is one of the `over` lines that the
-- batch wrote. An `over` line reports too little bandwidth.
use Rattle.std.proofs.Common.{◌≡◌, ◌≢◌, ℕ, zero, suc, ◌+◌, ◌/◌, ◌%◌, ◌<◌, ◌^◌, Bool, true, false, cond, not, ◌||◌, ◌&&◌, ◌==◌, List, [], ◌∷◌, ◌++◌, map, codes, refl, sym, subst, ◌∙◌, append_assoc, append-nil, lt-ltb, ne_eqb, arith}
use Rattle.std.proofs.lemmas.Bool.{and_parts, eqb-false}
use Rattle.std.proofs.lemmas.Fmt.{decimal_injective}
use Rattle.std.proofs.lemmas.List.{append_cancel_left}
use Rattle.std.proofs.lemmas.List.Folds.{list_any-append}
use Rattle.std.specs.Fmt.{decimal, digits, digits_onto, digit_glyph}
use Rattle.std.specs.Int.{w32, to_be_bytes}
use Rattle.std.specs.List.{Contains, flat_map, join_with_byte, list_any}
use Rattle.cspf_addr.specs.AddressText.{address_text, IsAddressTextInjective}
use Rattle.cspf_book.specs.declared.over.Over.{Over}
use Rattle.cspf_book_run.specs.BookLines.{over_line, lost_line, base_line}

-- ---- texts that lack a certain byte

-- No byte of the text is `mark`.
abbrev pub IsFree : ℕ → List ℕ → Type 0
IsFree mark text = list_any (λ byte. byte == mark) text ≡ false

both_false : (x y : Bool) → x ≡ false → y ≡ false → (x || y) ≡ false
both_false true y a b = a
both_false false y a b = b

pub each_false : (x y : Bool) → (x || y) ≡ false → (x ≡ false) × (y ≡ false)
each_false true y both = absurd (cc)
each_false false y both = (refl, both)

-- The byte `mark` is neither a digit nor a point.
pub record IsMark (mark : ℕ) : Type 0 where
  digit : (d : ℕ) → d < 10 → 48 + d ≢ mark
  point : (46 == mark) ≡ false

feed : IsMark 10
feed = record { digit = λ d small same. omega (arith, small, same); point = refl }

space : IsMark 32
space = record { digit = λ d small same. omega (arith, small, same); point = refl }

comma : IsMark 44
comma = record { digit = λ d small same. omega (arith, small, same); point = refl }

pub letter_o : IsMark 111
letter_o = record { digit = λ d small same. omega (arith, small, same); point = refl }

module _ (mark : ℕ) (no : IsMark mark) where
  free_append : (xs ys : List ℕ) → IsFree mark xs → IsFree mark ys → IsFree mark (xs ++ ys)
  free_append xs ys a b = rw (list_any-append (λ byte. byte == mark) xs ys) (both_false _ _ a b)

  free_glyph : (d : ℕ) → d < 10 → (digit_glyph false d == mark) ≡ false
  free_glyph d small = rw (lt-ltb d 10 small) (ne_eqb (48 + d) mark (no.digit d small))

  free_onto : (k n : ℕ) (more : List ℕ) → IsFree mark more → IsFree mark (digits_onto k 10 false n more)
  free_onto zero n more free = free
  free_onto (suc k) n more free =
      let small : n % 10 < 10 = omega arith in
      let next : IsFree mark (digit_glyph false (n % 10) ∷ more) = both_false _ _ (free_glyph (n % 10) small) free in
      elim (n / 10 == 0) as (λ b. IsFree mark (cond b (digit_glyph false (n % 10) ∷ more) (digits_onto k 10 false (n / 10) (digit_glyph false (n % 10) ∷ more)))) [
        | true ↦ next
        | false ↦ free_onto k (n / 10) (digit_glyph false (n % 10) ∷ more) next
      ]

  pub free_decimal : (n : ℕ) → IsFree mark (decimal n)
  unfolding digits
  free_decimal n = free_onto 64 n [] refl

  abbrev AreFree : List (List ℕ) → Type 0
  AreFree [] = Unit {0}
  AreFree (x ∷ xs) = IsFree mark x × AreFree xs

  free_join : (xs : List (List ℕ)) → AreFree xs → IsFree mark (join_with_byte 46 xs)
  free_join [] all = refl
  free_join (x ∷ []) all = all.0
  free_join (x ∷ y ∷ ys) all = free_append x (46 ∷ join_with_byte 46 (y ∷ ys)) all.0 (both_false _ _ no.point (free_join (y ∷ ys) all.1))

  free_decimals : (ns : List ℕ) → AreFree (map decimal ns)
  free_decimals [] = tt
  free_decimals (n ∷ ns) = (free_decimal n, free_decimals ns)

  pub free_address : (n : ℕ) → IsFree mark (address_text n)
  unfolding address_text
  free_address n = free_join (map decimal (to_be_bytes w32 n)) (free_decimals (to_be_bytes w32 n))

-- A text has only one split at its first byte `mark`.
cut_once : (mark : ℕ) (u v r q : List ℕ) → IsFree mark u → IsFree mark v → u ++ mark ∷ r ≡ v ++ mark ∷ q → (u ≡ v) × (r ≡ q)
cut_once mark [] [] r q a b same = let rest : r ≡ q = cc in (refl, rest)
cut_once mark [] (d ∷ v) r q a b same =
    let head : d ≡ mark = cc in absurd (eqb-false d mark (each_false _ _ b).0 head)
cut_once mark (c ∷ u) [] r q a b same =
    let head : c ≡ mark = cc in absurd (eqb-false c mark (each_false _ _ a).0 head)
cut_once mark (c ∷ u) (d ∷ v) r q a b same =
    let head : c ≡ d = cc in
    let rest : u ++ mark ∷ r ≡ v ++ mark ∷ q = cc in
    let more = cut_once mark u v r q (each_false _ _ a).1 (each_false _ _ b).1 rest in
    let front : c ∷ u ≡ d ∷ v = λ i. head i ∷ more.0 i in
    (front, more.1)

-- ---- the words of an `over` line

-- the text of an `over` line between `ov` and the line feed
abbrev pub words : Over → List ℕ
words o = codes "er " ++ address_text o.from ++ codes "," ++ address_text o.local ++ codes " " ++ decimal o.priority

module _ (mark : ℕ) (no : IsMark mark) (word : IsFree mark (codes "er ")) (between : IsFree mark (codes ",")) (blank : IsFree mark (codes " ")) where
  free_words : (o : Over) → IsFree mark (words o)
  free_words o =
      free_append mark no (codes "er " ++ address_text o.from ++ codes "," ++ address_text o.local ++ codes " ") (decimal o.priority)
      (free_append mark no (codes "er " ++ address_text o.from ++ codes "," ++ address_text o.local) (codes " ")
      (free_append mark no (codes "er " ++ address_text o.from ++ codes ",") (address_text o.local)
      (free_append mark no (codes "er " ++ address_text o.from) (codes ",")
      (free_append mark no (codes "er ") (address_text o.from) word (free_address mark no o.from)) between) (free_address mark no o.local)) blank)
      (free_decimal mark no o.priority)

-- The words of an `over` line: first the text before the comma, then the comma, and then the
-- address, a space and the priority.
words_cut : (o : Over) → words o ≡ (codes "er " ++ address_text o.from) ++ 44 ∷ (address_text o.local ++ 32 ∷ decimal o.priority)
words_cut o =
    let first : List ℕ = codes "er " ++ address_text o.from in
    append_assoc (first ++ codes "," ++ address_text o.local) (codes " ") (decimal o.priority)
    ∙ append_assoc (first ++ codes ",") (address_text o.local) (32 ∷ decimal o.priority)
    ∙ append_assoc first (codes ",") (address_text o.local ++ 32 ∷ decimal o.priority)

-- If two `over` lines have the same words, they have the same router, the same address and the same
-- priority.
pub words_once : IsAddressTextInjective → (x y : Over) → x.from < 2 ^ 32 → x.local < 2 ^ 32 → x.priority < 8 → y.from < 2 ^ 32 → y.local < 2 ^ 32 → y.priority < 8
    → words x ≡ words y → (x.from ≡ y.from) × (x.local ≡ y.local) × (x.priority ≡ y.priority)
words_once one x y xf xl xp yf yl yp same =
    let first = cut_once 44 (codes "er " ++ address_text x.from) (codes "er " ++ address_text y.from) (address_text x.local ++ 32 ∷ decimal x.priority) (address_text y.local ++ 32 ∷ decimal y.priority)
    (free_append 44 comma (codes "er ") (address_text x.from) refl (free_address 44 comma x.from)) (free_append 44 comma (codes "er ") (address_text y.from) refl (free_address 44 comma y.from))
    (sym (words_cut x) ∙ same ∙ words_cut y) in
    let second = cut_once 32 (address_text x.local) (address_text y.local) (decimal x.priority) (decimal y.priority) (free_address 32 space x.local) (free_address 32 space y.local) first.1 in
    let from = append_cancel_left (codes "er ") (address_text x.from) (address_text y.from) first.0 in
    (one x.from y.from xf yf from, one x.local y.local xl yl second.0, decimal_injective x.priority y.priority (omega arith) (omega arith) second.1)

-- ---- where an `over` line may begin

-- No `ov` starts within this text, whatever text follows it. Each `over` line begins with `ov`.
abbrev pub Skips : List ℕ → Type 0
Skips text = (rest before z : List ℕ) → text ++ rest ≡ before ++ 111 ∷ 118 ∷ z → (other : List ℕ) × (rest ≡ other ++ 111 ∷ 118 ∷ z)

pub skips_none : Skips []
skips_none rest before z same = (before, same)

pub skips_byte : (c : ℕ) (text : List ℕ) → (c == 111) ≡ false → Skips text → Skips (c ∷ text)
skips_byte c text apart skips rest [] z same = let head : c ≡ 111 = cc in absurd (eqb-false c 111 apart head)
skips_byte c text apart skips rest (b ∷ before) z same =
    let tail : text ++ rest ≡ before ++ 111 ∷ 118 ∷ z = cc in skips rest before z tail

pub skips_free : (text : List ℕ) → IsFree 111 text → Skips text
skips_free [] free = skips_none
skips_free (c ∷ text) free = skips_byte c text (each_false _ _ free).0 (skips_free text (each_false _ _ free).1)

pub skips_append : (v w : List ℕ) → Skips v → Skips w → Skips (v ++ w)
skips_append v w first second rest before z same =
    let one = first (w ++ rest) before z (sym (append_assoc v w rest) ∙ same) in second rest one.0 z one.1

-- ---- texts in which no `v` directly follows an `o`

-- The text isn't empty, and its first byte isn't `v`.
abbrev pub is_other : List ℕ → Bool
is_other [] = false
is_other (d ∷ text) = not (d == 118)

-- Each letter `o` in the text is followed by a byte that isn't `v`.
abbrev pub is_plain : List ℕ → Bool
is_plain [] = true
is_plain (c ∷ text) = cond (c == 111) (is_other text) true && is_plain text

second_apart : (text rest z : List ℕ) → is_other text ≡ true → text ++ rest ≡ 118 ∷ z → ⊥
second_apart [] rest z other same = absurd (cc)
second_apart (d ∷ text) rest z other same =
    let head : d ≡ 118 = cc in
    let none : false ≡ true = subst (λ n. not (n == 118) ≡ true) head other in absurd (cc)

pub skips_plain : (text : List ℕ) → is_plain text ≡ true → Skips text
skips_plain [] plain rest before z same = skips_none rest before z same
skips_plain (c ∷ text) plain rest [] z same =
    let head : c ≡ 111 = cc in
    let tail : text ++ rest ≡ 118 ∷ z = cc in
    let parts = and_parts (cond (c == 111) (is_other text) true) (is_plain text) plain in
    let other : is_other text ≡ true = subst (λ n. cond (n == 111) (is_other text) true ≡ true) head parts.0 in
    absurd (second_apart text rest z other tail)
skips_plain (c ∷ text) plain rest (b ∷ before) z same =
    let tail : text ++ rest ≡ before ++ 111 ∷ 118 ∷ z = cc in
    skips_plain text (and_parts (cond (c == 111) (is_other text) true) (is_plain text) plain).1 rest before z tail

pub skips_number : (n : ℕ) → Skips (decimal n)
skips_number n = skips_free (decimal n) (free_decimal 111 letter_o n)

pub named : (name : List ℕ) (n : ℕ) → is_plain name ≡ true → Skips (name ++ decimal n)
named name n plain = skips_append name (decimal n) (skips_plain name plain) (skips_number n)

pub word_after : (text word : List ℕ) → Skips text → is_plain word ≡ true → Skips (text ++ word)
word_after text word skips plain = skips_append text word skips (skips_plain word plain)

-- A text consists of a word, a number, ` v` and a version. If `is_plain` holds for the word, no
-- `ov` starts within the text (`Skips`).
pub versioned : (name : List ℕ) (n version : ℕ) → is_plain name ≡ true → Skips (name ++ decimal n ++ codes " v" ++ decimal version)
versioned name n version plain =
    skips_append (name ++ decimal n ++ codes " v") (decimal version) (word_after (name ++ decimal n) (codes " v") (named name n plain) refl) (skips_number version)

skips_lost : (id : ℕ) → Skips (lost_line id)
skips_lost id = word_after (codes "lost " ++ decimal id) (codes "\n") (named (codes "lost ") id refl) refl

skips_losts : (ids : List ℕ) → Skips (flat_map lost_line ids)
skips_losts [] = skips_none
skips_losts (id ∷ ids) = skips_append (lost_line id) (flat_map lost_line ids) (skips_lost id) (skips_losts ids)

skips_base : (number version : ℕ) → Skips (base_line number version)
skips_base number version =
    word_after (codes "base " ++ decimal number ++ codes " v" ++ decimal version) (codes "\n") (versioned (codes "base ") number version refl) refl

pub none_left : (other z : List ℕ) → [] ≡ other ++ 111 ∷ 118 ∷ z → ⊥
none_left [] z same = cc
none_left (b ∷ other) z same = cc

-- Let a text have some `over` lines, and then a tail in which no `ov` starts (`Skips`). If an
-- `over` line is found in this text, it has the words of one of these `over` lines.
found : (os : List Over) (tail : List ℕ) → Skips tail → (x : Over) (before after : List ℕ)
    → flat_map over_line os ++ tail ≡ before ++ 111 ∷ 118 ∷ ((words x ++ 10 ∷ []) ++ after) → (y : Over) × Contains os y × (words y ≡ words x)
found [] tail skips x before after same =
    let left = skips [] before ((words x ++ 10 ∷ []) ++ after) (append-nil tail ∙ same) in absurd (none_left left.0 _ left.1)
found (y ∷ os) tail skips x [] after same =
    let rest : List ℕ = flat_map over_line os ++ tail in
    let joined : 111 ∷ 118 ∷ ((words y ++ 10 ∷ []) ++ rest) ≡ 111 ∷ 118 ∷ ((words x ++ 10 ∷ []) ++ after) =
    sym (append_assoc (over_line y) (flat_map over_line os) tail) ∙ same in
    let inner : (words y ++ 10 ∷ []) ++ rest ≡ (words x ++ 10 ∷ []) ++ after = cc in
    let cut = cut_once 10 (words y) (words x) rest after (free_words 10 feed refl refl refl y) (free_words 10 feed refl refl refl x)
    (sym (append_assoc (words y) (10 ∷ []) rest) ∙ inner ∙ append_assoc (words x) (10 ∷ []) after) in
    (y, (0, omega arith, refl), cut.0)
found (y ∷ os) tail skips x (b ∷ before) after same =
    let z : List ℕ = (words x ++ 10 ∷ []) ++ after in
    let rest : List ℕ = flat_map over_line os ++ tail in
    let joined : 111 ∷ 118 ∷ ((words y ++ 10 ∷ []) ++ rest) ≡ b ∷ (before ++ 111 ∷ 118 ∷ z) =
    sym (append_assoc (over_line y) (flat_map over_line os) tail) ∙ same in
    let behind : 118 ∷ ((words y ++ 10 ∷ []) ++ rest) ≡ before ++ 111 ∷ 118 ∷ z = cc in
    let skipped = skips_byte 118 (words y ++ 10 ∷ []) refl
    (skips_append (words y) (10 ∷ []) (skips_free (words y) (free_words 111 letter_o refl refl refl y)) (skips_free (10 ∷ []) refl)) rest before z behind in
    let more = found os tail skips x skipped.0 after skipped.1 in
    (more.0, (suc more.1.0, omega (arith, more.1.1), more.1.2), more.2)

-- Let an `over` line be found in the lines of a base batch. Then the batch wrote an `over` line
-- with the same words.
pub named_among : (os : List Over) (ids : List ℕ) (number version : ℕ) (x : Over) (before after : List ℕ)
    → flat_map over_line os ++ flat_map lost_line ids ++ base_line number version ≡ before ++ over_line x ++ after
    → (y : Over) × Contains os y × (words y ≡ words x)
named_among os ids number version x before after same =
    let tail : List ℕ = flat_map lost_line ids ++ base_line number version in
    found os tail (skips_append (flat_map lost_line ids) (base_line number version) (skips_losts ids) (skips_base number version)) x before after
    (sym (append_assoc (flat_map over_line os) (flat_map lost_line ids) (base_line number version)) ∙ same ∙ append_assoc before (over_line x) after)
