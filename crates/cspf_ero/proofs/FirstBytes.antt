-- The first `FIRST_BYTES` bytes of an object decide which hops it has, or why it is refused.
use Rattle.std.proofs.Common.{◌≡◌, ℕ, zero, suc, ◌+◌, ◌-◌, ◌*◌, ◌<◌, ◌≤◌, inl, inr, false, leb, ltb, eqb, List, [], ◌∷◌, length, take, drop, get_or, Ok, Err, refl, sym, ap, ◌∙◌, arith}
use Rattle.std.proofs.lemmas.Bool.{le-leb, le-ltb, ne_eqb, cases_lt}
use Rattle.std.proofs.lemmas.List.{take_all, length-take-le, get_or-take, drop-take}
use Rattle.cspf_ero.specs.declared.ero_error.EroError.TheVariants as error
use Rattle.cspf_addr.specs.ResultSteps.{◌>>=◌}
use Rattle.cspf_ero.specs.Reading.{hop_at, subobject_hops, sized_ero_of}

-- the first 8 bytes of a subobject decide which hop it spells
hop_at-take : (at m : ℕ) (bytes : List ℕ) → 8 ≤ m → m ≤ length bytes → hop_at at (take m bytes) ≡ hop_at at bytes
unfolding hop_at
hop_at-take at m bytes eight more =
    let whole : leb 8 (length (take m bytes)) ≡ leb 8 (length bytes) =
    le-leb 8 (length (take m bytes)) (omega (arith, length-take-le m bytes more)) ∙ sym (le-leb 8 (length bytes) (omega arith)) in
    let same : (i : ℕ) → i < 8 → get_or (take m bytes) i 0 ≡ get_or bytes i 0 = λ i below. get_or-take m bytes i 0 (omega arith) in
    rw (whole, same 0 (omega arith), same 1 (omega arith), same 2 (omega arith), same 3 (omega arith), same 4 (omega arith), same 5 (omega arith), same 6 (omega arith)) refl

-- bytes that aren't empty are read as the hop of the first subobject, followed by the hops of the
-- later subobjects, unless one of the subobjects is refused
hops_at-some : (most at : ℕ) (bytes : List ℕ) → 0 < length bytes
    → subobject_hops (suc most) at bytes ≡ (hop_at at bytes >>= (λ hop. subobject_hops most (at + 8) (drop 8 bytes) >>= (λ hops. Ok (hop ∷ hops))))
hops_at-some most at [] some = absurd (omega arith)
hops_at-some most at (byte ∷ bytes) some = refl

hops_at-none : (at : ℕ) (bytes : List ℕ) → 0 < length bytes → subobject_hops zero at bytes ≡ Err error.TooManyHops
hops_at-none at [] some = absurd (omega arith)
hops_at-none at (byte ∷ bytes) some = refl

-- if `m` exceeds `8 * most`, the first `m` bytes are read with the same result as all bytes,
-- because at most `most` hops of 8 bytes each are read
hops_at-take : (most at m : ℕ) (bytes : List ℕ) → 8 * most < m → subobject_hops most at (take m bytes) ≡ subobject_hops most at bytes
hops_at-take zero at m bytes enough =
    elim (cases_lt m (length bytes)) [
      | inl more ↦
          hops_at-none at (take m bytes) (omega (arith, length-take-le m bytes (omega arith)))
          ∙ sym (hops_at-none at bytes (omega arith))
      | inr whole ↦ ap (subobject_hops zero at) (take_all m bytes (omega arith))
    ]
hops_at-take (suc most) at m bytes enough =
    elim (cases_lt m (length bytes)) [
      | inl more ↦
          let behind : drop 8 (take m bytes) ≡ take (m - 8) (drop 8 bytes) = ap (λ n. drop 8 (take n bytes)) (past_eight (omega arith)) ∙ drop-take 8 (m - 8) bytes in
          let rest = hops_at-take most (at + 8) (m - 8) (drop 8 bytes) (omega arith) in
          hops_at-some most at (take m bytes) (omega (arith, length-take-le m bytes (omega arith)))
          ∙ (rw (hop_at-take at m bytes (omega arith) (omega arith), behind, rest) (sym (hops_at-some most at bytes (omega arith))))
      | inr whole ↦ ap (subobject_hops (suc most) at) (take_all m bytes (omega arith))
    ]
  where
    past_eight : 8 ≤ m → m ≡ 8 + (m - 8)
    past_eight eight = omega arith

-- the first `FIRST_BYTES` bytes of an object and its number of bytes decide which hops it has
pub first_bytes_decide : (size : ℕ) (bytes : List ℕ) → sized_ero_of size (take 64 bytes) ≡ sized_ero_of size bytes
unfolding sized_ero_of
first_bytes_decide size bytes =
    elim (cases_lt 64 (length bytes)) [
      | inl more ↦
          let long : length (take 64 bytes) ≡ 64 = length-take-le 64 bytes (omega arith) in
          let same : (i : ℕ) → i < 4 → get_or (take 64 bytes) i 0 ≡ get_or bytes i 0 = λ i below. get_or-take 64 bytes i 0 (omega arith) in
          let enough : ltb (length bytes) 4 ≡ false = le-ltb (length bytes) 4 (omega arith) in
          let some : eqb (length bytes) 4 ≡ false = ne_eqb (length bytes) 4 (λ four. omega (arith, four)) in
          let body : subobject_hops 7 4 (drop 4 (take 64 bytes)) ≡ subobject_hops 7 4 (drop 4 bytes) = ap (subobject_hops 7 4) (drop-take 4 60 bytes) ∙ hops_at-take 7 4 60 (drop 4 bytes) (omega arith) in
          rw (long, same 0 (omega arith), same 1 (omega arith), same 2 (omega arith), same 3 (omega arith), enough, some, body) refl
      | inr whole ↦ ap (sized_ero_of size) (take_all 64 bytes (omega arith))
    ]
