-- Which texts aren't exclusions, and how the parts of a field of exclusions are read.
use Rattle.std.proofs.Common.{◌≡◌, ℕ, ◌+◌, ◌<◌, List, [], ◌∷◌, ◌++◌, length, get_or, drop, Option, Some, None, Result, Ok, Err, append_assoc, append-nil, refl, sym, ap, ◌∙◌, arith}
use Rattle.std.specs.Option.{option_and_then}
use Rattle.std.proofs.lemmas.List.{drop_more, drop_all}
use Rattle.cspf_addr.specs.ResultSteps.{◌>>=◌}
use Rattle.cspf_exclusions.specs.declared.exclusion.Exclusion.{Exclusion}
use Rattle.cspf_questions.specs.ExclusionText.{exclusion_of, kind_of}
use Rattle.cspf_questions.specs.QuestionRows.{exclusions_from}
use Rattle.cspf_questions.specs.declared.error.ExceptFault.{ExceptFault}
use Rattle.cspf_questions.specs.declared.error.ExceptFault.TheVariants as fault

nothing_after : {A B : Type 0} (first : Option A) → option_and_then {U = B} (λ _. None) first ≡ None
nothing_after None = refl
nothing_after (Some x) = refl

-- The empty text isn't an exclusion.
pub exclusion_of-empty : (text : List ℕ) → length text ≡ 0 → None ≡ exclusion_of text
unfolding exclusion_of kind_of
exclusion_of-empty [] empty = sym (nothing_after _)
exclusion_of-empty (byte ∷ rest) empty = absurd (omega arith)

-- the result of a reader that has read `list`: these exclusions followed by those of the remaining
-- parts, or the error of the remaining parts
abbrev pub joined : List Exclusion → Result (List Exclusion) ExceptFault → Result (List Exclusion) ExceptFault
joined list (Ok more) = Ok (list ++ more)
joined list (Err e) = Err e

joined_more : (list : List Exclusion) (one : Exclusion) (rest : Result (List Exclusion) ExceptFault)
    → joined list (rest >>= (λ more. Ok (one ∷ more))) ≡ joined (list ++ one ∷ []) rest
joined_more list one (Ok more) = ap Ok (sym (append_assoc list (one ∷ []) more))
joined_more list one (Err e) = refl

part_here : (parts : List (List ℕ)) (n : ℕ) (part : List ℕ) → n < length parts
    → part ≡ get_or parts n part → drop n parts ≡ part ∷ drop (n + 1) parts
part_here parts n part within at =
    drop_more parts n part within ∙ ap (λ first. first ∷ drop (n + 1) parts) (sym at)

-- A reader has read the first `n` parts as `list`, and reads the next part as `one`. The result for
-- all parts is then `list`, `one` and the exclusions of the remaining parts, or the error of the
-- remaining parts.
pub read_more : (parts : List (List ℕ)) (n : ℕ) (part : List ℕ) (list : List Exclusion) (one : Exclusion)
    → n < length parts → part ≡ get_or parts n part → Some one ≡ exclusion_of part
    → joined list (exclusions_from (n + 1) (drop n parts)) ≡ exclusions_from 1 parts
    → joined (list ++ one ∷ []) (exclusions_from (n + 1 + 1) (drop (n + 1) parts)) ≡ exclusions_from 1 parts
read_more parts n part list one within at found before =
    sym (joined_more list one (exclusions_from (n + 1 + 1) (drop (n + 1) parts)))
    ∙ rw (part_here parts n part within at, ← found) at before

-- A reader has read the first `n` parts as `list`. If the next part isn't an exclusion, the text is
-- refused with the number `n + 1` of this part.
pub read_refused : (parts : List (List ℕ)) (n : ℕ) (part : List ℕ) (list : List Exclusion)
    → n < length parts → part ≡ get_or parts n part → None ≡ exclusion_of part
    → joined list (exclusions_from (n + 1) (drop n parts)) ≡ exclusions_from 1 parts
    → Err (fault.Part (n + 1)) ≡ exclusions_from 1 parts
read_refused parts n part list within at found before =
    rw (part_here parts n part within at, ← found) at before

-- If a reader has read all parts as `list`, the result for all parts is `list`.
pub read_all : (parts : List (List ℕ)) (n : ℕ) (list : List Exclusion) → n ≡ length parts
    → joined list (exclusions_from (n + 1) (drop n parts)) ≡ exclusions_from 1 parts
    → Ok list ≡ exclusions_from 1 parts
read_all parts n list end before =
    let none : drop n parts ≡ [] = drop_all n parts (omega arith) in
    ap Ok (sym (append-nil list)) ∙ rw none at before
