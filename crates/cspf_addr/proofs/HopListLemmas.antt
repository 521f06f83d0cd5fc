-- How lists of hops are stored in an array with seven items, and how they are read.
use Rattle.std.proofs.Common.{◌≡◌, ℕ, ◌+◌, ◌-◌, ◌<◌, List, [], ◌∷◌, ◌++◌, length, get_or, set, drop, replicate, Some, None, Result, Ok, Err, append_assoc, append-nil, refl, sym, ap, ◌∙◌, arith}
use Rattle.std.proofs.lemmas.List.{length-set, drop-set-lt, drop-drop, drop-replicate}
use Rattle.std.proofs.lemmas.List.{drop_more, drop_all}
use Rattle.cspf_addr.specs.HopText.{hop_of}
use Rattle.cspf_addr.specs.ResultSteps.{◌>>=◌}
use Rattle.cspf_addr.specs.HopLists.{hops_from}
use Rattle.cspf_addr.specs.declared.hop_reader.HopsError.{HopsError}
use Rattle.cspf_addr.specs.declared.hop_reader.HopsError.TheVariants as error
use Rattle.cspf_addr.specs.KeptHops.{AreKept, free_place}
use Rattle.cspf_addr.specs.declared.hop.Hop.{Hop}

one_less : (count : ℕ) → 7 - count - 1 ≡ 7 - (count + 1)
one_less count = omega arith

-- If an array stores `count` hops, and `count` is below 7, the array stores `count + 1` hops after
-- a hop is written at the index `count`.
pub kept_after_push : (places : List Hop) (count : ℕ) (hop : Hop) → AreKept places count → count < 7
    → AreKept (set places count hop) (count + 1)
kept_after_push places count hop kept room = record {
  seven = length-set places count hop ∙ kept.seven;
  most = omega arith;
  free =
      drop-set-lt (count + 1) places count hop (omega arith)
      ∙ (sym (drop-drop 1 count places)
      ∙ (ap (λ behind. drop 1 behind) kept.free
      ∙ (drop-replicate 1 (7 - count) free_place
      ∙ ap (λ n. replicate n free_place) (one_less count))));
}

-- the result of a reader that has read `hops`: these hops followed by the hops of the remaining
-- parts, or the error of the remaining parts
abbrev pub joined : List Hop → Result (List Hop) HopsError → Result (List Hop) HopsError
joined hops (Ok more) = Ok (hops ++ more)
joined hops (Err e) = Err e

joined_more : (hops : List Hop) (hop : Hop) (rest : Result (List Hop) HopsError)
    → joined hops (rest >>= (λ more. Ok (hop ∷ more))) ≡ joined (hops ++ hop ∷ []) rest
joined_more hops hop (Ok more) = ap Ok (sym (append_assoc hops (hop ∷ []) more))
joined_more hops hop (Err e) = refl

part_here : (parts : List (List ℕ)) (n : ℕ) (part : List ℕ) → n < length parts
    → part ≡ get_or parts n part → drop n parts ≡ part ∷ drop (n + 1) parts
part_here parts n part within at =
    drop_more parts n part within ∙ ap (λ first. first ∷ drop (n + 1) parts) (sym at)

-- A reader has read the first `n` parts as `hops`, and reads the next part as `hop`. The result for
-- all parts is then `hops`, `hop` and the hops of the remaining parts, or the error of the
-- remaining parts.
pub read_more : (parts : List (List ℕ)) (n : ℕ) (part : List ℕ) (hops : List Hop) (hop : Hop)
    → n < length parts → part ≡ get_or parts n part → Some hop ≡ hop_of part
    → joined hops (hops_from (n + 1) (drop n parts)) ≡ hops_from 1 parts
    → joined (hops ++ hop ∷ []) (hops_from (n + 1 + 1) (drop (n + 1) parts)) ≡ hops_from 1 parts
read_more parts n part hops hop within at found before =
    sym (joined_more hops hop (hops_from (n + 1 + 1) (drop (n + 1) parts)))
    ∙ rw (part_here parts n part within at, ← found) at before

-- A reader has read the first `n` parts as `hops`. If the next part isn't a hop, the text is
-- refused with the number `n + 1` of this part.
pub read_refused : (parts : List (List ℕ)) (n : ℕ) (part : List ℕ) (hops : List Hop)
    → n < length parts → part ≡ get_or parts n part → None ≡ hop_of part
    → joined hops (hops_from (n + 1) (drop n parts)) ≡ hops_from 1 parts
    → Err (error.BadHop (n + 1)) ≡ hops_from 1 parts
read_refused parts n part hops within at found before =
    rw (part_here parts n part within at, ← found) at before

-- If a reader has read all parts as `hops`, the result for all parts is `hops`.
pub read_all : (parts : List (List ℕ)) (n : ℕ) (hops : List Hop) → n ≡ length parts
    → joined hops (hops_from (n + 1) (drop n parts)) ≡ hops_from 1 parts
    → Ok hops ≡ hops_from 1 parts
read_all parts n hops end before =
    let none : drop n parts ≡ [] = drop_all n parts (omega arith) in
    ap Ok (sym (append-nil hops)) ∙ rw none at before
