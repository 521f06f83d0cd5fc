-- Lemmas on the loop that reads the hops one after the other.
use Rattle.std.proofs.Common.{◌≡◌, ℕ, suc, ◌+◌, ◌-◌, ◌*◌, ◌<◌, List, [], ◌∷◌, ◌++◌, length, drop, Result, Ok, Err, append_assoc, refl, sym, ap, ◌∙◌, arith}
use Rattle.cspf_addr.specs.declared.hop.Hop.{Hop}
use Rattle.cspf_ero.specs.declared.ero_error.EroError.{EroError}
use Rattle.cspf_addr.specs.ResultSteps.{◌>>=◌}
use Rattle.cspf_ero.specs.Reading.{hop_at, subobject_hops}

-- the result for all bytes: the hops `hops` that are read so far, followed by the hops of the
-- remaining bytes, or the error of the remaining bytes
abbrev pub behind : List Hop → Result (List Hop) EroError → Result (List Hop) EroError
behind hops (Ok more) = Ok (hops ++ more)
behind hops (Err e) = Err e

pub behind-nil : (rest : Result (List Hop) EroError) → behind [] rest ≡ rest
behind-nil (Ok more) = refl
behind-nil (Err e) = refl

behind_more : (hops : List Hop) (hop : Hop) (rest : Result (List Hop) EroError) → behind hops (rest >>= (λ more. Ok (hop ∷ more))) ≡ behind (hops ++ hop ∷ []) rest
behind_more hops hop (Ok more) = ap Ok (sym (append_assoc hops (hop ∷ []) more))
behind_more hops hop (Err e) = refl

-- if the first subobject is read as a hop, all bytes are read as this hop, followed by the hops of
-- the bytes after the subobject
pub hops_at-more : (most at : ℕ) (bytes : List ℕ) (hop : Hop) → 0 < length bytes → hop_at at bytes ≡ Ok hop
    → subobject_hops (suc most) at bytes ≡ (subobject_hops most (at + 8) (drop 8 bytes) >>= (λ more. Ok (hop ∷ more)))
hops_at-more most at [] hop some found = absurd (omega arith)
hops_at-more most at (byte ∷ bytes) hop some found = rw found refl

-- if the first subobject is refused, the bytes are refused with the same error
pub hops_at-refused : (most at : ℕ) (bytes : List ℕ) (e : EroError) → 0 < length bytes → hop_at at bytes ≡ Err e → subobject_hops (suc most) at bytes ≡ Err e
hops_at-refused most at [] e some found = absurd (omega arith)
hops_at-refused most at (byte ∷ bytes) e some found = rw found refl

-- after the loop reads one more hop, the hops that are read so far, followed by the hops of the
-- remaining bytes, are still the hops of `body`
pub read_more : (body rest : List ℕ) (hops : List Hop) (hop : Hop) → length hops < 7 → 0 < length rest → hop_at (4 + 8 * length hops) rest ≡ Ok hop
    → behind hops (subobject_hops (7 - length hops) (4 + 8 * length hops) rest) ≡ subobject_hops 7 4 body
    → behind (hops ++ hop ∷ []) (subobject_hops (7 - (length hops + 1)) (4 + 8 * (length hops + 1)) (drop 8 rest)) ≡ subobject_hops 7 4 body
read_more body rest hops hop room some found before =
    let left : 7 - length hops ≡ suc (7 - (length hops + 1)) = omega arith in
    let next : 4 + 8 * (length hops + 1) ≡ 4 + 8 * length hops + 8 = omega arith in
    rw next
    (sym (behind_more hops hop (subobject_hops (7 - (length hops + 1)) (4 + 8 * length hops + 8) (drop 8 rest)))
    ∙ sym (ap (behind hops) (hops_at-more (7 - (length hops + 1)) (4 + 8 * length hops) rest hop some found))
    ∙ (rw left at before))

-- if the loop comes to a subobject that is refused, `body` is refused with the same error
pub read_refused : (body rest : List ℕ) (hops : List Hop) (e : EroError) → length hops < 7 → 0 < length rest → hop_at (4 + 8 * length hops) rest ≡ Err e
    → behind hops (subobject_hops (7 - length hops) (4 + 8 * length hops) rest) ≡ subobject_hops 7 4 body → Err e ≡ subobject_hops 7 4 body
read_refused body rest hops e room some found before =
    let left : 7 - length hops ≡ suc (7 - (length hops + 1)) = omega arith in
    rw (left, hops_at-refused (7 - (length hops + 1)) (4 + 8 * length hops) rest e some found) at before
