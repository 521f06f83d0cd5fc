-- The `over` lines of a base batch are exactly the lines of the links that the batch sets with too
-- little bandwidth.
use Rattle.std.proofs.Common.{◌≡◌, ℕ, zero, suc, ◌+◌, ◌<◌, true, false, cond, Some, None, List, [], ◌∷◌, ◌++◌, map, filter, slice_index, inl, inr, refl, sym, ap, subst, ◌∙◌, append_assoc, append-nil, lit<, arith}
use Rattle.std.proofs.lemmas.Bool.{ltb-true}
use Rattle.std.proofs.lemmas.List.Elements.{All-contains, All-from_recursion, Contains-append_cases, Contains-append_left, Contains-append_right}
use Rattle.std.specs.FinMap.{get-empty, get-insert}
use Rattle.std.specs.List.{AllByRecursion, Contains, flat_map}
use Rattle.cspf_addr.specs.AddressText.{IsAddressTextInjective}
use Rattle.cspf_model.specs.declared.batch.Change.{Change}
use Rattle.cspf_model.specs.declared.batch.Change.TheVariants.{Put}
use Rattle.cspf_model.specs.declared.link.Link.{Link}
use Rattle.cspf_model.specs.Database.{Key, key_of, key_cmp, link_at, IsLinkOf}
use Rattle.cspf_model.specs.Changes.{after_change, no_links}
use Rattle.cspf_model.proofs.Databases.Keys.{keys_total, key_itself}
use Rattle.cspf_rows.specs.JournalLaws.{IsChangeInRange}
use Rattle.cspf_rows.specs.Written.{IsLinkInRange}
use Rattle.cspf_book.specs.declared.over.Over.{Over}
use Rattle.cspf_book.specs.declared.placement.Placement.{Placement}
use Rattle.cspf_book.specs.Placements.{counted}
use Rattle.cspf_book.specs.OverLinks.{priorities, is_over, over_at, over_on, over_by, over}
use Rattle.cspf_book.specs.Laws.{AbsorbingKeepsCovered}
use Rattle.cspf_book_run.specs.BookLines.{over_line, lost_line, base_line}
use Rattle.cspf_book_run.specs.BookScript.{name_of}
use Rattle.cspf_book_run.specs.BookScriptLaws.{IsSaidOver, IsPutShort, BaseLinesAreExact}
use Rattle.cspf_book_run.proofs.BookCovered.{said_among, said_first}
use Rattle.cspf_book_run.proofs.LostOnce.{cases_in}
use Rattle.cspf_book_run.proofs.OverTexts.{words, words_once, named_among}

-- The database without links has no link.
pub none_at_first : (l : Link) → IsLinkOf no_links l → ⊥
none_at_first l is = let none : None ≡ Some l = sym (get-empty key_cmp (key_of l)) ∙ is in cc

pub all_below : AllByRecursion (λ p. p < 8) priorities
all_below = (lit< tt, (lit< tt, (lit< tt, (lit< tt, (lit< tt, (lit< tt, (lit< tt, (lit< tt, tt))))))))

module _ (placements : List Placement) where
  -- ---- each entry of the list is for a link that is set with too little bandwidth

  -- the entry `y` is for this link and priority `p`, and the link has less bandwidth there than the
  -- placements count
  abbrev IsShortAt : Link → Over → ℕ → Type 0
  IsShortAt m y p = (p < 8) × (is_over placements m p ≡ true) × (over_at m p ≡ y)

  kept : (m : Link) (y : Over) (ps : List ℕ) → AllByRecursion (λ p. p < 8) ps → Contains (map (over_at m) (filter (is_over placements m) ps)) y
      → (p : ℕ) × IsShortAt m y p
  kept m y [] all (k, within, is) = absurd (omega arith)
  kept m y (p ∷ ps) all there =
      elim (is_over placements m p) as (λ b. is_over placements m p ≡ b → Contains (map (over_at m) (cond b (p ∷ filter (is_over placements m) ps) (filter (is_over placements m) ps))) y → (n : ℕ) × IsShortAt m y n) [
        | true ↦ λ short has.
            elim (cases_in (over_at m p) (map (over_at m) (filter (is_over placements m) ps)) y has) [
              | inl here ↦ (p, (all.0, short, sym here))
              | inr later ↦ kept m y ps all.1 later
            ]
        | false ↦ λ _ has. kept m y ps all.1 has
      ] refl there

  -- The changes set this link, and the entry `y` is for this link and some priority. At this
  -- priority, the link has less bandwidth than the placements count.
  abbrev IsEntry : List Change → Over → Link → Type 0
  IsEntry changes y m = Contains changes (Put m) × (p : ℕ) × IsShortAt m y p

  by_change : (c : Change) (cs : List Change) (y : Over) → Contains (over_by placements c) y → (m : Link) × IsEntry (c ∷ cs) y m
  by_change (Put m) cs y here = let entry = kept m y priorities all_below here in (m, ((0, omega arith, refl), entry.0, entry.1))
  by_change other cs y here = absurd (omega (arith, here.1))

  put_short : (changes : List Change) (y : Over) → Contains (over placements changes) y → (m : Link) × IsEntry changes y m
  put_short [] y (k, within, is) = absurd (omega arith)
  put_short (c ∷ cs) y there =
      elim (Contains-append_cases (over_by placements c) (over placements cs) y there) [
        | inl here ↦ by_change c cs y here
        | inr later ↦ let more = put_short cs y later in (more.0, ((suc more.1.0.0, omega (arith, more.1.0.1), more.1.0.2), more.1.1, more.1.2))
      ]

  -- ---- each link that is set with too little bandwidth has its entry

  alone : (m : Link) → IsLinkOf (after_change no_links (Put m)) m
  alone m =
      get-insert keys_total no_links.links (key_of m) m (key_of m) ∙ ap (λ b. cond b (Some m) (link_at no_links (key_of m))) (key_itself (key_of m))

  entry_alone : AbsorbingKeepsCovered → (m : Link) (p : ℕ) → p < 8 → slice_index m.free p < counted placements (key_of m) p
      → Contains (over placements (Put m ∷ [])) (over_at m p)
  entry_alone absorbing m p small short =
      elim (absorbing no_links placements (Put m ∷ []) m p (alone m) small) [
        | inl was ↦ absurd (none_at_first m was)
        | inr after ↦ elim after [ inl covered ↦ absurd (omega (arith, covered, short)) | inr named ↦ named ]
      ]

  listed : (changes : List Change) (m : Link) (p : ℕ) → Contains changes (Put m) → Contains (over placements (Put m ∷ [])) (over_at m p)
      → Contains (over placements changes) (over_at m p)
  listed [] m p (k, within, is) entry = absurd (omega arith)
  listed (c ∷ cs) m p (zero, within, is) entry =
      Contains-append_left (over_by placements c) (over placements cs) (over_at m p) (subst (λ (d : Change). Contains (over_by placements d) (over_at m p)) (sym is)
      (subst (λ (os : List Over). Contains os (over_at m p)) (append-nil (over_on placements m)) entry))
  listed (c ∷ cs) m p (suc k, within, is) entry =
      Contains-append_right (over_by placements c) (over placements cs) (over_at m p) (listed cs m p (k, omega arith, is) entry)

link_in_range : (changes : List Change) (m : Link) → AllByRecursion IsChangeInRange changes → Contains changes (Put m) → IsLinkInRange m
link_in_range changes m range there = (All-contains IsChangeInRange changes (Put m) (All-from_recursion IsChangeInRange changes range) there).0

pub base_lines_exact : AbsorbingKeepsCovered → IsAddressTextInjective → BaseLinesAreExact
base_lines_exact absorbing one s number lines range (ids, lost, is) l priority from local small = (there, back)
  where
    there : IsSaidOver lines l priority → IsPutShort s l priority
    there said =
        let named = named_among (over s.book.placements s.changes) ids number (name_of s (s.book.version + 1)) (over_at l priority) said.0 said.1 (sym is ∙ said.2) in
        let put = put_short s.book.placements s.changes named.0 named.1 in
        let m : Link = put.0 in
        let p : ℕ = put.1.1 in
        let range_of : IsLinkInRange m = link_in_range s.changes m range put.1.0 in
        let same : words (over_at m p) ≡ words (over_at l priority) = ap words put.1.2.2 ∙ named.2 in
        let equal = words_once one (over_at m p) (over_at l priority) range_of.from range_of.local put.1.2.0 from local small same in (
          m,
          put.1.0,
          λ i. (equal.0 i, equal.1 i),
          subst (λ n. slice_index m.free n < counted s.book.placements (key_of m) n) equal.2 (ltb-true _ _ put.1.2.1),
        )

    back : IsPutShort s l priority → IsSaidOver lines l priority
    back (m, has, key, short) =
        let entry = listed s.book.placements s.changes m priority has (entry_alone s.book.placements absorbing m priority small short) in
        let same : over_at m priority ≡ over_at l priority = ap (λ (k : Key). record { from = k.0; local = k.1; priority = priority }) key in
        let said = said_among (over s.book.placements s.changes) (over_at l priority) (subst (Contains (over s.book.placements s.changes)) same entry) in
        let second : List ℕ = flat_map lost_line ids in
        let third : List ℕ = base_line number (name_of s (s.book.version + 1)) in
        said_first l priority lines (flat_map over_line (over s.book.placements s.changes)) (second ++ third) (is ∙ append_assoc (flat_map over_line (over s.book.placements s.changes)) second third) said
