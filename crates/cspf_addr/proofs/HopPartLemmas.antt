-- Lemmas on the texts of lists of hops: a text is cut at its spaces, and each part is read as a
-- hop.
use Rattle.std.proofs.Common.{◌≡◌, ◌≢◌, ℕ, suc, ◌+◌, ◌<◌, ◌≤◌, ◌⊎◌, inl, inr, Bool, true, false, cond, eqb, ltb, List, [], ◌∷◌, ◌++◌, length, map, Option, Some, None, Result, Ok, Err, refl, sym, ap, subst, ◌∙◌, length-append, arith}
use Rattle.std.proofs.lemmas.Bool.{ne_eqb, eqb-false, le-ltb, lt-ltb, ltb-true, ltb-false}
use Rattle.std.proofs.lemmas.List.{length_push}
use Rattle.std.proofs.lemmas.List.Elements.{All-from_recursion}
use Rattle.std.proofs.lemmas.List.Splits.{slice_split_none, slice_split_at, join_with_byte-slice_split}
use Rattle.std.specs.List.{slice_split, onto_first, join_with_byte, All, AllByRecursion}
use Rattle.cspf_addr.specs.PrefixParts.{IsPrefix}
use Rattle.cspf_addr.specs.HopText.{hop_of, hop_text, hop_letter, IsHopText}
use Rattle.cspf_addr.specs.HopLists.{parts_of, hops_from, hops_of, hops_text, AreHopListsReadBack}
use Rattle.cspf_addr.specs.HopListLaws.{AreHopTexts, IsHopListText, AreParts, HasBadHop, HasTooManyParts, AreHopListsRead, AreBadHopsNamed, AreTooManyRefused}
use Rattle.cspf_addr.specs.declared.hop.Hop.{Hop}
use Rattle.cspf_addr.specs.declared.hop_reader.HopsError.{HopsError}
use Rattle.cspf_addr.specs.declared.hop_reader.HopsError.TheVariants.{BadHop, TooManyHops}
use Rattle.cspf_addr.proofs.CutLemmas.{Lacks, Lacks-append}
use Rattle.cspf_addr.proofs.PrefixLemmas.{lacks_in_prefix_text}
use Rattle.cspf_addr.proofs.HopLemmas.{hop_texts_read, hop_of-hop_text}

-- If a text lacks `mark`, the byte at each index of the text isn't `mark`.
lacks_by_place : (mark : ℕ) (piece : List ℕ) → Lacks mark piece
    → All (λ byte. eqb byte mark ≡ false) piece
lacks_by_place mark piece lacks =
    All-from_recursion (λ byte. eqb byte mark ≡ false) piece (each piece lacks)
  where
    each : (text : List ℕ) → Lacks mark text → AllByRecursion (λ byte. eqb byte mark ≡ false) text
    each [] lacks = tt
    each (byte ∷ rest) lacks = (ne_eqb byte mark lacks.0, each rest lacks.1)

-- If texts without spaces are joined by spaces, cutting the result at its spaces gives these texts.
pub split_join : (pieces : List (List ℕ)) → 0 < length pieces → AllByRecursion (Lacks 32) pieces
    → slice_split (λ byte. eqb byte 32) (join_with_byte 32 pieces) ≡ pieces
split_join [] some lacks = absurd (omega arith)
split_join (piece ∷ []) some lacks =
    slice_split_none (λ byte. eqb byte 32) piece (lacks_by_place 32 piece lacks.0)
split_join (piece ∷ next ∷ pieces) some lacks =
    slice_split_at (λ byte. eqb byte 32) piece 32 (join_with_byte 32 (next ∷ pieces))
    (lacks_by_place 32 piece lacks.0) refl
    ∙ ap (λ rest. piece ∷ rest) (split_join (next ∷ pieces) (omega arith) lacks.1)

-- No part of a text that is cut at its spaces has a space.
parts_lack : (text : List ℕ) → AllByRecursion (Lacks 32) (slice_split (λ byte. eqb byte 32) text)
parts_lack [] = (tt, tt)
parts_lack (byte ∷ text) = by_first (parts_lack text) (eqb byte 32) refl
  where
    onto : (parts : List (List ℕ)) → byte ≢ 32 → AllByRecursion (Lacks 32) parts
        → AllByRecursion (Lacks 32) (onto_first byte parts)
    onto [] apart lacks = ((apart, tt), tt)
    onto (part ∷ parts) apart lacks = ((apart, lacks.0), lacks.1)

    by_first : AllByRecursion (Lacks 32) (slice_split (λ c. eqb c 32) text) → (b : Bool)
        → eqb byte 32 ≡ b
        → AllByRecursion (Lacks 32) (cond b ([] ∷ slice_split (λ c. eqb c 32) text) (onto_first byte (slice_split (λ c. eqb c 32) text)))
    by_first rest true test = (tt, rest)
    by_first rest false test = onto (slice_split (λ c. eqb c 32) text) (eqb-false byte 32 test) rest

-- The parts of a text have no spaces. Joining the parts by spaces gives the text.
parts_are : (text : List ℕ) → AreParts text (parts_of text)
unfolding parts_of
parts_are text =
    record { whole = sym (join_with_byte-slice_split 32 text); without_space = parts_lack text }

-- If joining parts without spaces by spaces gives a text, cutting this text at its spaces gives the
-- parts.
parts_only : (text : List ℕ) (parts : List (List ℕ)) → 0 < length parts → AreParts text parts
    → parts_of text ≡ parts
unfolding parts_of
parts_only text parts some are =
    ap (slice_split (λ byte. eqb byte 32)) are.whole ∙ split_join parts some are.without_space

-- The text of a hop has no space.
lacks_in_hop : (text : List ℕ) (hop : Hop) → IsHopText text hop → Lacks 32 text
lacks_in_hop text hop is =
    subst (Lacks 32) (sym is.whole)
    (Lacks-append 32 is.front (hop_letter hop.loose ∷ []) (lacks_in_prefix_text 32 is.front hop.prefix (omega arith) is.prefix) (letter hop.loose, tt))
  where
    letter : (loose : Bool) → hop_letter loose ≢ 32
    letter true same = omega (arith, same)
    letter false same = omega (arith, same)

lacks_in_hops : (texts : List (List ℕ)) (hops : List Hop) → AreHopTexts texts hops
    → AllByRecursion (Lacks 32) texts
lacks_in_hops [] [] each = tt
lacks_in_hops (text ∷ texts) (hop ∷ hops) each =
    (lacks_in_hop text hop each.0, lacks_in_hops texts hops each.1)
lacks_in_hops texts hops each = absurd each

length-AreHopTexts : (texts : List (List ℕ)) (hops : List Hop) → AreHopTexts texts hops
    → length texts ≡ length hops
length-AreHopTexts [] [] each = refl
length-AreHopTexts (text ∷ texts) (hop ∷ hops) each = ap suc (length-AreHopTexts texts hops each.1)
length-AreHopTexts texts hops each = absurd each

-- If texts are the texts of hops, they are read as these hops.
hops_from-texts : (at : ℕ) (texts : List (List ℕ)) (hops : List Hop) → AreHopTexts texts hops
    → hops_from at texts ≡ Ok hops
hops_from-texts at [] [] each = refl
hops_from-texts at (text ∷ texts) (hop ∷ hops) each =
    rw ((hop_texts_read text hop).1 each.0, hops_from-texts (at + 1) texts hops each.1) refl
hops_from-texts at texts hops each = absurd each

-- If texts are read as hops, they are the texts of these hops.
texts_of-hops_from : (at : ℕ) (texts : List (List ℕ)) (hops : List Hop)
    → hops_from at texts ≡ Ok hops → AreHopTexts texts hops
texts_of-hops_from at [] hops read = let none : [] ≡ hops = cc in subst (AreHopTexts []) none tt
texts_of-hops_from at (text ∷ texts) hops read =
    step (texts_of-hops_from (at + 1) texts) (hop_of text) refl (hops_from (at + 1) texts) refl
  where
    step : ((more : List Hop) → hops_from (at + 1) texts ≡ Ok more → AreHopTexts texts more)
        → (found : Option Hop) → hop_of text ≡ found → (rest : Result (List Hop) HopsError)
        → hops_from (at + 1) texts ≡ rest → AreHopTexts (text ∷ texts) hops
    step behind None first rest later = absurd (cc (rw first at read))
    step behind (Some hop) first (Err e) later = absurd (cc (rw (first, later) at read))
    step behind (Some hop) first (Ok more) later =
        let all : hop ∷ more ≡ hops = cc (rw (first, later) at read) in
        subst (AreHopTexts (text ∷ texts)) all
        ((hop_texts_read text hop).0 first, behind more later)

-- `place` is the number of the first part that isn't the text of a hop. The parts are numbered from
-- `at` on.
record IsNoHopFrom (at : ℕ) (parts : List (List ℕ)) (place : ℕ) : Type 0 where
  pub front : List (List ℕ)
  pub part : List ℕ
  pub behind : List (List ℕ)
  pub whole : parts ≡ front ++ part ∷ behind
  pub is_place : place ≡ length front + at
  pub hops : List Hop
  pub before : AreHopTexts front hops
  pub here : (hop : Hop) → ¬ IsHopText part hop

none_some : {A : Type 0} (x : A) → ◌≡◌ {A = Option A} None (Some x) → ⊥
none_some x e = cc

-- A part that isn't read as a hop isn't the text of a hop.
no_hop : (part : List ℕ) → hop_of part ≡ None → (hop : Hop) → ¬ IsHopText part hop
no_hop part none hop is = none_some hop (sym none ∙ (hop_texts_read part hop).1 is)

refused_at : (r : Result (List Hop) HopsError) (k place : ℕ) → r ≡ Err (BadHop k) → k ≡ place
    → r ≡ Err (BadHop place)
refused_at r k place is same = is ∙ ap (λ n. Err (BadHop n)) same

-- If a part that is a hop is put in front of the parts, the first part that isn't a hop stays the
-- same.
one_more : (at : ℕ) (part : List ℕ) (parts : List (List ℕ)) (place : ℕ) (hop : Hop)
    → hop_of part ≡ Some hop → IsNoHopFrom (at + 1) parts place
    → IsNoHopFrom at (part ∷ parts) place
one_more at part parts place hop first b = record {
  front = part ∷ b.front;
  part = b.part;
  behind = b.behind;
  whole = ap (λ ps. part ∷ ps) b.whole;
  is_place = omega (arith, b.is_place);
  hops = hop ∷ b.hops;
  before = ((hop_texts_read part hop).0 first, b.before);
  here = b.here;
}

-- If the reader refuses a part, this part is the first that isn't a hop.
no_hop-hops_from : (at : ℕ) (parts : List (List ℕ)) (place : ℕ)
    → hops_from at parts ≡ Err (BadHop place) → IsNoHopFrom at parts place
no_hop-hops_from at [] place read = absurd (cc)
no_hop-hops_from at (part ∷ parts) place read =
    step (no_hop-hops_from (at + 1) parts place) (hop_of part) refl (hops_from (at + 1) parts) refl
  where
    step : (hops_from (at + 1) parts ≡ Err (BadHop place) → IsNoHopFrom (at + 1) parts place)
        → (found : Option Hop) → hop_of part ≡ found → (rest : Result (List Hop) HopsError)
        → hops_from (at + 1) parts ≡ rest → IsNoHopFrom at (part ∷ parts) place
    step more None first rest later =
        let same : at ≡ place = cc (rw first at read) in
        record { front = []; part = part; behind = parts; whole = refl; is_place = omega (arith, same); hops = []; before = tt; here = no_hop part first }
    step more (Some hop) first (Ok hops) later = absurd (cc (rw (first, later) at read))
    step more (Some hop) first (Err TooManyHops) later = absurd (cc (rw (first, later) at read))
    step more (Some hop) first (Err (BadHop k)) later =
        let same : k ≡ place = cc (rw (first, later) at read) in
        one_more at part parts place hop first (more (refused_at _ k place later same))

-- If a part isn't a hop, and all preceding parts are texts of hops, the reader refuses this part.
hops_from-no_hop : (at : ℕ) (front : List (List ℕ)) (part : List ℕ) (behind : List (List ℕ)) (hops : List Hop) → AreHopTexts front hops → ((hop : Hop) → ¬ IsHopText part hop)
    → hops_from at (front ++ part ∷ behind) ≡ Err (BadHop (length front + at))
hops_from-no_hop at [] part behind hops before here = step (hop_of part) refl
  where
    step : (found : Option Hop) → hop_of part ≡ found
        → hops_from at (part ∷ behind) ≡ Err (BadHop (0 + at))
    step None first = rw first (ap (λ n. Err (BadHop n)) (omega arith))
    step (Some hop) first = absurd (here hop ((hop_texts_read part hop).0 first))
hops_from-no_hop at (text ∷ front) part behind (hop ∷ hops) before here =
    rw ((hop_texts_read text hop).1 before.0, hops_from-no_hop (at + 1) front part behind hops before.1 here)
    (ap (λ n. Err (BadHop n)) (omega arith))
hops_from-no_hop at (text ∷ front) part behind [] before here = absurd before

-- Reading the parts one by one never gives `TooManyHops`.
not_many : (at : ℕ) (parts : List (List ℕ)) → hops_from at parts ≢ Err TooManyHops
not_many at [] read = cc
not_many at (part ∷ parts) read =
    step (not_many (at + 1) parts) (hop_of part) refl (hops_from (at + 1) parts) refl
  where
    step : hops_from (at + 1) parts ≢ Err TooManyHops → (found : Option Hop) → hop_of part ≡ found
        → (rest : Result (List Hop) HopsError) → hops_from (at + 1) parts ≡ rest → ⊥
    step behind None first rest later = cc (rw first at read)
    step behind (Some hop) first (Ok more) later = cc (rw (first, later) at read)
    step behind (Some hop) first (Err (BadHop k)) later = cc (rw (first, later) at read)
    step behind (Some hop) first (Err TooManyHops) later = behind later

-- The length of a text with a first byte isn't 0.
longer_than_0 : (byte : ℕ) (text : List ℕ) → eqb (length (byte ∷ text)) 0 ≡ false
longer_than_0 byte text = ne_eqb (length (byte ∷ text)) 0 (λ none. omega (arith, none))

-- A text that isn't empty and has at most seven parts is read part by part.
hops_of-few : (text : List ℕ) → text ≢ [] → length (parts_of text) ≤ 7
    → hops_of text ≡ hops_from 1 (parts_of text)
unfolding hops_of
hops_of-few [] some few = absurd (some refl)
hops_of-few (byte ∷ text) some few =
    rw (longer_than_0 byte text, le-ltb 7 (length (parts_of (byte ∷ text))) few) refl

-- A text of more than seven parts is refused.
hops_of-many : (text : List ℕ) → 7 < length (parts_of text) → hops_of text ≡ Err TooManyHops
unfolding hops_of parts_of
hops_of-many [] many = absurd (omega arith)
hops_of-many (byte ∷ text) many =
    rw (longer_than_0 byte text, lt-ltb 7 (length (slice_split (λ c. eqb c 32) (byte ∷ text))) many)
    refl

-- A number is at most 7, or above 7.
few_or_many : (n : ℕ) → (n ≤ 7) ⊎ (7 < n)
few_or_many n = step (ltb 7 n) refl
  where
    step : (b : Bool) → ltb 7 n ≡ b → (n ≤ 7) ⊎ (7 < n)
    step true test = inr (ltb-true 7 n test)
    step false test = inl (ltb-false 7 n test)

hops_of-empty : hops_of [] ≡ Ok []
unfolding hops_of
hops_of-empty = refl

-- A text with a first byte isn't the empty text.
not_empty : (byte : ℕ) (text : List ℕ) → byte ∷ text ≢ []
not_empty byte text same = cc

-- The next two lemmas: the text of a hop isn't empty, and the text of one or more hops isn't empty.
hop_longer : (text : List ℕ) (hop : Hop) → IsHopText text hop → 0 < length text
hop_longer text hop is =
    omega (arith, ap length is.whole, length_push is.front (hop_letter hop.loose))

join_longer : (texts : List (List ℕ)) (hops : List Hop) → 0 < length texts → AreHopTexts texts hops
    → 0 < length (join_with_byte 32 texts)
join_longer [] hops some each = absurd (omega arith)
join_longer (text ∷ texts) [] some each = absurd each
join_longer (text ∷ []) (hop ∷ hops) some each = hop_longer text hop each.0
join_longer (text ∷ next ∷ texts) (hop ∷ hops) some each =
    omega
    (arith, hop_longer text hop each.0, length-append text (32 ∷ join_with_byte 32 (next ∷ texts)))

-- The texts of at most seven hops, joined by spaces, are read as these hops.
hops_of-join : (texts : List (List ℕ)) (hops : List Hop) → AreHopTexts texts hops → length hops ≤ 7
    → hops_of (join_with_byte 32 texts) ≡ Ok hops
hops_of-join [] [] each most = hops_of-empty
hops_of-join [] (hop ∷ hops) each most = absurd each
hops_of-join (text ∷ texts) hops each most =
    let parts = parts_only _ (text ∷ texts) (omega arith) (record { whole = refl; without_space = lacks_in_hops (text ∷ texts) hops each }) in
    let longer = join_longer (text ∷ texts) hops (omega arith) each in
    hops_of-few _ (λ none. omega (arith, ap length none, longer))
    (rw parts (omega (arith, length-AreHopTexts (text ∷ texts) hops each)))
    ∙ ap (hops_from 1) parts ∙ hops_from-texts 1 (text ∷ texts) hops each

-- The text has at most seven parts, and reading the text gives the same result as reading its parts
-- one after the other.
record IsReadByParts (text : List ℕ) : Type 0 where
  few : length (parts_of text) ≤ 7
  read : hops_of text ≡ hops_from 1 (parts_of text)

-- A text that isn't empty and isn't refused with `TooManyHops` is read part by part.
by_parts : (byte : ℕ) (text : List ℕ) → hops_of (byte ∷ text) ≢ Err TooManyHops
    → IsReadByParts (byte ∷ text)
by_parts byte text not = step (few_or_many _)
  where
    step : (length (parts_of (byte ∷ text)) ≤ 7) ⊎ (7 < length (parts_of (byte ∷ text)))
        → IsReadByParts (byte ∷ text)
    step (inr many) = absurd (not (hops_of-many (byte ∷ text) many))
    step (inl few) =
        record { few = few; read = hops_of-few (byte ∷ text) (not_empty byte text) few }

-- If a text is read as hops, it consists of the texts of these hops, separated by single spaces.
read_texts : (text : List ℕ) (hops : List Hop) → hops_of text ≡ Ok hops → IsHopListText text hops
read_texts [] hops read =
    let none : [] ≡ hops = cc hops_of-empty in
    record { parts = []; whole = refl; each = subst (AreHopTexts []) none tt; most = omega (arith, ap length none) }
read_texts (byte ∷ text) hops read =
    let by = by_parts byte text (λ many. cc) in
    let each = texts_of-hops_from 1 _ hops (sym by.read ∙ read) in
    record { parts = parts_of (byte ∷ text); whole = (parts_are (byte ∷ text)).whole; each = each; most = omega (arith, by.few, length-AreHopTexts _ hops each) }

-- A text is read as a list of hops exactly if it consists of the texts of these hops, separated by
-- single spaces.
pub hop_lists_read : AreHopListsRead
hop_lists_read text hops =
    (read_texts text hops, λ is. ap hops_of is.whole ∙ hops_of-join is.parts hops is.each is.most)

-- If the reader refuses the part with the number `place`, this part is the first of the text that
-- isn't a hop.
refused_part : (text : List ℕ) (place : ℕ) → hops_of text ≡ Err (BadHop place)
    → HasBadHop text place
refused_part [] place read = absurd (cc hops_of-empty)
refused_part (byte ∷ text) place read =
    let by = by_parts byte text (λ many. cc) in
    let b = no_hop-hops_from 1 _ place (sym by.read ∙ read) in
    record {
      some = not_empty byte text;
      parts = parts_of (byte ∷ text);
      are_parts = parts_are (byte ∷ text);
      most = by.few;
      bad =
          record { front = b.front; part = b.part; behind = b.behind; whole = b.whole; is_place = b.is_place; hops = b.hops; before = b.before; here = b.here };
    }

-- A list that has a part isn't empty.
some_parts : (parts front : List (List ℕ)) (part : List ℕ) (behind : List (List ℕ))
    → parts ≡ front ++ part ∷ behind → 0 < length parts
some_parts parts front part behind whole =
    omega (arith, ap length whole, length-append front (part ∷ behind))

part_refused : (text : List ℕ) (place : ℕ) → HasBadHop text place
    → hops_of text ≡ Err (BadHop place)
part_refused text place has =
    let bad = has.bad in
    let parts = parts_only text has.parts (some_parts has.parts bad.front bad.part bad.behind bad.whole) has.are_parts in
    hops_of-few text has.some (rw parts has.most) ∙ ap (hops_from 1) (parts ∙ bad.whole)
    ∙ hops_from-no_hop 1 bad.front bad.part bad.behind bad.hops bad.before bad.here
    ∙ ap (λ n. Err (BadHop n)) (sym bad.is_place)

-- A text is refused as `BadHop place` exactly if `HasBadHop` holds of the text and `place`.
pub bad_hops_named : AreBadHopsNamed
bad_hops_named text place = (refused_part text place, part_refused text place)

refused_many : (text : List ℕ) → hops_of text ≡ Err TooManyHops → HasTooManyParts text
refused_many [] read = absurd (cc hops_of-empty)
refused_many (byte ∷ text) read = step (few_or_many _)
  where
    step : (length (parts_of (byte ∷ text)) ≤ 7) ⊎ (7 < length (parts_of (byte ∷ text)))
        → HasTooManyParts (byte ∷ text)
    step (inr many) =
        record { parts = parts_of (byte ∷ text); are_parts = parts_are (byte ∷ text); many = many }
    step (inl few) =
        absurd (not_many 1 _ (sym (hops_of-few (byte ∷ text) (not_empty byte text) few) ∙ read))

-- A text is refused with `TooManyHops` exactly if it has more than seven parts.
pub too_many_refused : AreTooManyRefused
too_many_refused text = (
  refused_many text,
  λ has. hops_of-many text (rw (parts_only text has.parts (omega (arith, has.many)) has.are_parts) has.many),
)

-- `hop_text` of a hop is a text of this hop.
hop_texts : (hops : List Hop) → AllByRecursion (λ hop. IsPrefix hop.prefix) hops
    → AreHopTexts (map hop_text hops) hops
hop_texts [] proper = tt
hop_texts (hop ∷ hops) proper =
    ((hop_texts_read (hop_text hop) hop).0 (hop_of-hop_text hop proper.0), hop_texts hops proper.1)

-- A list of hops is read back from its text.
pub hops_of-hops_text : AreHopListsReadBack
unfolding hops_text
hops_of-hops_text hops most proper =
    hops_of-join (map hop_text hops) hops (hop_texts hops proper) most
