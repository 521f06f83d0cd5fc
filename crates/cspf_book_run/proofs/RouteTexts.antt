-- How routes are read from the bytes of a route field, and read back from their texts.
use Rattle.std.proofs.Common.{◌≡◌, ℕ, zero, suc, ◌+◌, ◌*◌, ◌%◌, ◌<◌, true, List, [], ◌∷◌, ◌++◌, length, drop, map, slice_index, Some, refl, sym, ap, ◌∙◌, arith, append_assoc}
use Rattle.std.specs.Int.{w32, to_be_bytes, from_be_bytes}
use Rattle.std.specs.List.{flat_map, AllByRecursion}
use Rattle.std.proofs.lemmas.Bool.{eq-eqb, lt-ltb}
use Rattle.std.proofs.lemmas.Nat.{from_be_bytes-to_be_bytes_4}
use Rattle.hex.specs.Hex.{IsBytes}
use Rattle.hex.proofs.HexLemmas.{decode_of-encode_lower}
use Rattle.cspf_book.specs.declared.path.Passed.{Passed}
use Rattle.cspf_book.specs.PathsFrom.{passed_step}
use Rattle.cspf_book_run.specs.RouteText.{steps_in, are_links, steps_of, link_bytes, route_text_of, IsPassedInRange, AreRouteTextsReadBack}

-- the address in the four bytes from this index on
abbrev address_from : ℕ → List ℕ → ℕ
address_from at bytes =
    from_be_bytes w32 (slice_index bytes at ∷ slice_index bytes (at + 1) ∷ slice_index bytes (at + 2) ∷ slice_index bytes (at + 3) ∷ [])

-- the step that the first eight bytes give
abbrev pub first_step : List ℕ → ℕ × ℕ
first_step bytes = (address_from 0 bytes, address_from 4 bytes)

-- If there are 8 bytes for each link, and there are bytes, the first step is that of the first eight
-- bytes. The other steps are those of the bytes after them.
pub next_step : (rest : List ℕ) → length rest % 8 ≡ 0 → 0 < length rest → (steps_in rest ≡ first_step rest ∷ steps_in (drop 8 rest)) × (length (drop 8 rest) % 8 ≡ 0)
next_step [] whole some = absurd (omega arith)
next_step (a ∷ []) whole some = absurd (omega arith)
next_step (a ∷ b ∷ []) whole some = absurd (omega arith)
next_step (a ∷ b ∷ c ∷ []) whole some = absurd (omega arith)
next_step (a ∷ b ∷ c ∷ d ∷ []) whole some = absurd (omega arith)
next_step (a ∷ b ∷ c ∷ d ∷ e ∷ []) whole some = absurd (omega arith)
next_step (a ∷ b ∷ c ∷ d ∷ e ∷ f ∷ []) whole some = absurd (omega arith)
next_step (a ∷ b ∷ c ∷ d ∷ e ∷ f ∷ g ∷ []) whole some = absurd (omega arith)
next_step (a ∷ b ∷ c ∷ d ∷ e ∷ f ∷ g ∷ h ∷ more) whole some = (refl, omega arith)

-- The steps read so far and those of the rest are all steps. So they are after one more step.
pub more_steps : (all steps new : List (ℕ × ℕ)) (rest : List ℕ) → length rest % 8 ≡ 0 → 0 < length rest → new ≡ steps ++ first_step rest ∷ []
    → steps ++ steps_in rest ≡ all → new ++ steps_in (drop 8 rest) ≡ all
more_steps all steps new rest whole some pushed so_far =
    rw pushed (append_assoc steps (first_step rest ∷ []) (steps_in (drop 8 rest)) ∙ (ap (λ more. steps ++ more) (sym (next_step rest whole some).0) ∙ so_far))

-- ---- the texts of routes

bytes_more : (byte : ℕ) (bytes : List ℕ) → byte < 256 → IsBytes bytes → IsBytes (byte ∷ bytes)
bytes_more byte bytes small more zero = small
bytes_more byte bytes small more (suc i) = more i

bytes_before : (front back : List ℕ) → AllByRecursion (λ byte. byte < 256) front → IsBytes back → IsBytes (front ++ back)
bytes_before [] back small more = more
bytes_before (byte ∷ front) back small more = bytes_more byte (front ++ back) small.0 (bytes_before front back small.1 more)

four_bytes : (address : ℕ) → AllByRecursion (λ byte. byte < 256) (to_be_bytes w32 address)
four_bytes address = (omega arith, (omega arith, (omega arith, (omega arith, tt))))

bytes_none : IsBytes []
bytes_none i = omega arith

are_bytes : (path : List Passed) → IsBytes (flat_map link_bytes path)
are_bytes [] = bytes_none
are_bytes (l ∷ ls) =
    bytes_before (to_be_bytes w32 l.local) (to_be_bytes w32 l.to ++ flat_map link_bytes ls) (four_bytes l.local)
    (bytes_before (to_be_bytes w32 l.to) (flat_map link_bytes ls) (four_bytes l.to) (are_bytes ls))

steps_back : (path : List Passed) → AllByRecursion IsPassedInRange path → steps_in (flat_map link_bytes path) ≡ map passed_step path
steps_back [] range = refl
steps_back (l ∷ ls) range =
    rw (from_be_bytes-to_be_bytes_4 l.local range.0.local, from_be_bytes-to_be_bytes_4 l.to range.0.to, steps_back ls range.1) refl

length-links : (path : List Passed) → length (flat_map link_bytes path) ≡ 8 * length path
length-links [] = refl
length-links (l ∷ ls) = omega (arith, length-links ls)

pub route_texts_back : AreRouteTextsReadBack
unfolding steps_of route_text_of
route_texts_back path some range =
    let bytes = flat_map link_bytes path in
    let whole : are_links bytes ≡ true = rw (lt-ltb 0 (length bytes) (omega (arith, length-links path)), eq-eqb (length bytes % 8) 0 (omega (arith, length-links path))) refl in
    rw (decode_of-encode_lower bytes (are_bytes path)) (rw whole (ap Some (steps_back path range)))
