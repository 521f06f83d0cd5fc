-- Lemmas on the texts of hops: which text is read as which hop.
use Rattle.std.proofs.Common.{◌≡◌, ℕ, ◌-◌, Bool, true, false, List, [], ◌∷◌, ◌++◌, length, get_or, Option, Some, None, Ok, refl, sym, arith, Result, ◌∙◌, ap, ◌<◌, ◌+◌, cond, eqb, take, lit<}
use Rattle.std.proofs.lemmas.List.{take_at, take_all, take_more, length_push}
use Rattle.std.proofs.lemmas.Bool.{eqb-true}
use Rattle.std.specs.Option.{option_and_then}
use Rattle.std.specs.Result.{result_ok}
use Rattle.cspf_addr.specs.declared.prefix.PrefixError.{PrefixError}
use Rattle.cspf_addr.specs.PrefixParts.{PrefixParts}
use Rattle.cspf_addr.specs.Prefixes.{prefix_of, prefix_text}
use Rattle.cspf_addr.specs.HopText.{hop_letter, loose_of, hop_of, hop_text, IsHopText, AreHopTextsRead, AreHopsReadBack}
use Rattle.cspf_addr.specs.declared.hop.Hop.{Hop}
use Rattle.cspf_addr.proofs.PrefixLemmas.{prefix_of-prefix_text}

nothing_after : {A B : Type 0} (first : Option A) → option_and_then {U = B} (λ _. None) first ≡ None
nothing_after None = refl
nothing_after (Some x) = refl

-- The empty text isn't a hop.
pub hop_of-empty : (text : List ℕ) → length text ≡ 0 → None ≡ hop_of text
unfolding hop_of loose_of
hop_of-empty [] empty = sym (nothing_after _)
hop_of-empty (byte ∷ rest) empty = absurd (omega arith)

-- The letter of a strict hop is read as strict, and the letter of a loose hop as loose.
loose_of-letter : (loose : Bool) → loose_of (hop_letter loose) ≡ Some loose
unfolding loose_of
loose_of-letter true = refl
loose_of-letter false = refl

last_byte : (front : List ℕ) (letter : ℕ)
    → get_or (front ++ (letter ∷ [])) (length front) 0 ≡ letter
last_byte [] letter = refl
last_byte (byte ∷ front) letter = last_byte front letter

-- If a text is read as the prefix of a hop, this text followed by the hop's letter is read as the
-- hop.
hop_of-front : (front : List ℕ) (hop : Hop) → prefix_of front ≡ Ok hop.prefix
    → hop_of (front ++ (hop_letter hop.loose ∷ [])) ≡ Some hop
unfolding hop_of
hop_of-front front hop read =
    let at : length (front ++ (hop_letter hop.loose ∷ [])) - 1 ≡ length front = omega (arith, length_push front (hop_letter hop.loose)) in
    rw (at, take_at front (hop_letter hop.loose ∷ []) (length front) refl, read, last_byte front (hop_letter hop.loose), loose_of-letter hop.loose) refl

-- A hop is read in two steps: its prefix and its letter. If both steps together give a hop, the
-- first step gives the hop's prefix, and the second step says whether the hop is loose.
two_steps : (found : Result PrefixParts PrefixError) (letter : Option Bool) (hop : Hop)
    → option_and_then (λ prefix. option_and_then (λ loose. Some (record { prefix = prefix; loose = loose })) letter) (result_ok found) ≡ Some hop
    → (found ≡ Ok hop.prefix) × (letter ≡ Some hop.loose)
two_steps (Ok prefix) (Some loose) hop same =
    let whole : record { prefix = prefix; loose = loose } ≡ hop = cc in
    (ap (λ (h : Hop). Ok h.prefix) whole, ap (λ (h : Hop). Some h.loose) whole)
two_steps found letter hop same = absurd (cc)

letter_cases : (letter : ℕ) (is_loose is_strict loose : Bool) → eqb letter 108 ≡ is_loose
    → eqb letter 115 ≡ is_strict
    → cond is_loose (Some true) (cond is_strict (Some false) None) ≡ Some loose
    → letter ≡ hop_letter loose
letter_cases letter true is_strict true first second found = eqb-true letter 108 first
letter_cases letter true is_strict false first second found = absurd (cc)
letter_cases letter false true true first second found = absurd (cc)
letter_cases letter false true false first second found = eqb-true letter 115 second
letter_cases letter false false loose first second found = absurd (cc)

-- If a letter is read as strict, it is the letter of a strict hop. If a letter is read as loose, it
-- is the letter of a loose hop.
letter_of-loose : (letter : ℕ) (loose : Bool) → loose_of letter ≡ Some loose
    → letter ≡ hop_letter loose
unfolding loose_of
letter_of-loose letter loose found = letter_cases letter _ _ loose refl refl found

-- A text that isn't empty consists of the text without its last byte, and this byte.
all_but_last : (text : List ℕ) → 0 < length text
    → text ≡ take (length text - 1) text ++ (get_or text (length text - 1) 0 ∷ [])
all_but_last text some =
    sym (take_all (length text - 1 + 1) text (omega arith))
    ∙ take_more text (length text - 1) 0 (omega arith)

letter_some : (loose : Bool) → 0 < hop_letter loose
letter_some true = lit< tt
letter_some false = lit< tt

-- If the last byte of a text isn't 0, the text isn't empty. (For the empty text, the last byte is
-- read as 0.)
some_text : (text : List ℕ) → 0 < get_or text (length text - 1) 0 → 0 < length text
some_text [] letter = letter
some_text (byte ∷ rest) letter = omega arith

hop_of-text : (text : List ℕ) (hop : Hop) → hop_of text ≡ Some hop → IsHopText text hop
unfolding hop_of
hop_of-text text hop found =
    let steps = two_steps (prefix_of (take (length text - 1) text)) (loose_of (get_or text (length text - 1) 0)) hop found in
    let letter = letter_of-loose _ _ steps.1 in
    let some = some_text text (omega (arith, letter, letter_some hop.loose)) in
    record {
      front = take (length text - 1) text;
      whole =
          all_but_last text some ∙ ap (λ byte. take (length text - 1) text ++ (byte ∷ [])) letter;
      prefix = steps.0;
    }

-- A text is read as a hop exactly if it consists of a text of the hop's prefix and the hop's
-- letter.
pub hop_texts_read : AreHopTextsRead
hop_texts_read text hop =
    (hop_of-text text hop, λ h. ap hop_of h.whole ∙ hop_of-front h.front hop h.prefix)

-- If the prefix of a hop is read back from its text, the hop is read back from its text.
pub hop_of-written : (hop : Hop) → prefix_of (prefix_text hop.prefix) ≡ Ok hop.prefix
    → hop_of (hop_text hop) ≡ Some hop
unfolding hop_text
hop_of-written hop read = hop_of-front (prefix_text hop.prefix) hop read

-- A hop is read back from its text.
pub hop_of-hop_text : AreHopsReadBack
hop_of-hop_text hop proper = hop_of-written hop (prefix_of-prefix_text hop.prefix proper)
