-- At each version that a server with a book publishes, a link is covered, or its `over` line was
-- written.
use Rattle.std.proofs.Common.{◌≡◌, ℕ, zero, suc, ◌<◌, true, false, cond, List, [], ◌∷◌, ◌++◌, map, filter, Some, Result, Ok, Err, IfOk, inl, inr, refl, sym, ap, subst, ◌∙◌, arith}
use Rattle.std.proofs.lemmas.Bool.{cases_Bool, ltb-false}
use Rattle.std.proofs.lemmas.List.Elements.{Contains-append_left, Contains-append_right}
use Rattle.std.specs.FinMap as finite
use Rattle.std.specs.Ordering.{eq_by_cmp}
use Rattle.std.specs.List.{Contains, flat_map}
use Rattle.cspf_db.specs.Index.{links_of}
use Rattle.cspf_model.specs.Database.{Key, key_cmp, key_of}
use Rattle.cspf_model.specs.declared.link.Link.{Link}
use Rattle.cspf_stream.specs.RowAnswers.{AreAnswered}
use Rattle.cspf_book.specs.OverLinks.{over_at, over_on, is_over, priorities}
use Rattle.cspf_book.specs.declared.over.Over.{Over}
use Rattle.cspf_book.specs.declared.placement.Placement.{Placement}
use Rattle.cspf_book_run.specs.BookRows.{book_row_of}
use Rattle.cspf_book_run.specs.BookScript.{BookRunState, changers}
use Rattle.cspf_book_run.specs.BookScriptLaws.{IsSaidOver}
use Rattle.cspf_book_run.specs.KeptRuns.{by_fault}
use Rattle.cspf_book_run.specs.KeptStates.{IsAnsweredDone, IsAnsweredOrOut}
use Rattle.cspf_book_run.specs.declared.book_row.BookRow.{BookRow}
use Rattle.cspf_book_run.specs.declared.book_row_error.BookRowError.{BookRowError}
use Rattle.cspf_book_run.specs.BookStates.{IsReadable}
use Rattle.cspf_book_run.proofs.BookCovered.{KeepCovered, KeepsCover, stays, both_cover, row_covers, said_among, said_first, said_second}
use Rattle.cspf_book_run.proofs.BookRowLemmas.{readable_row}
use Rattle.cspf_book_serve.proofs.SameBooks.{HasSameBook, memory_has_same, unkept_has_same, stopped_has_same}
use Rattle.cspf_book_serve.specs.ServedBookLaws.{BeginningsSayOver, ServedRowsCoverSince, PublishedBooksAreCovered}
use Rattle.cspf_book_serve.specs.ServedBooks.{ServedBookState, served_book_answers, first_served, begin_lines}
use Rattle.cspf_book_serve.specs.ShownTexts.{shown_texts}

abbrev Rows : Type 0
Rows = List (List (List ℕ))

-- ---- the beginning

-- If a search of the entries finds a link, the link is in the list of the entries' links.
found_contains : (k : Key) (l : Link) (es : List (Key × Link)) → finite.find key_cmp k es ≡ Some l → Contains (map (λ e. e.1) es) l
found_contains k l [] found = cc
found_contains k l (e ∷ es) found =
    elim (eq_by_cmp key_cmp k e.0) as (λ b. cond b (Some e.1) (finite.find key_cmp k es) ≡ Some l → Contains (map (λ x. x.1) (e ∷ es)) l) [
      | true ↦ λ here. let same : e.1 ≡ l = cc in (0, omega arith, same)
      | false ↦ λ there. let rest = found_contains k l es there in (suc rest.0, omega (arith, rest.1), rest.2)
    ] found

-- The entry of a link with too little bandwidth at a priority is among the link's entries.
entry_of : (placements : List Placement) (l : Link) (priority : ℕ) (ps : List ℕ) → is_over placements l priority ≡ true → Contains ps priority
    → Contains (map (over_at l) (filter (is_over placements l) ps)) (over_at l priority)
entry_of placements l priority [] short (k, within, is) = absurd (omega arith)
entry_of placements l priority (p ∷ ps) short (zero, within, is) = rw (ap (is_over placements l) is ∙ short) (0, omega arith, ap (over_at l) is)
entry_of placements l priority (p ∷ ps) short (suc k, within, is) =
    let rest = entry_of placements l priority ps short (k, omega arith, is) in
    elim (is_over placements l p) as (λ b. Contains (map (over_at l) (cond b (p ∷ filter (is_over placements l) ps) (filter (is_over placements l) ps))) (over_at l priority)) [
      | true ↦ (suc rest.0, omega (arith, rest.1), rest.2)
      | false ↦ rest
    ]

each_priority : (priority : ℕ) → priority < 8 → Contains priorities priority
each_priority zero below = (0, omega arith, refl)
each_priority (suc zero) below = (1, omega arith, refl)
each_priority (suc (suc zero)) below = (2, omega arith, refl)
each_priority (suc (suc (suc zero))) below = (3, omega arith, refl)
each_priority (suc (suc (suc (suc zero)))) below = (4, omega arith, refl)
each_priority (suc (suc (suc (suc (suc zero))))) below = (5, omega arith, refl)
each_priority (suc (suc (suc (suc (suc (suc zero)))))) below = (6, omega arith, refl)
each_priority (suc (suc (suc (suc (suc (suc (suc zero))))))) below = (7, omega arith, refl)
each_priority (suc (suc (suc (suc (suc (suc (suc (suc p)))))))) below = absurd (omega arith)

-- The entries of a link of the list are among those of all links.
entry_among : (placements : List Placement) (x : Over) (l : Link) (links : List Link) → Contains links l → Contains (over_on placements l) x → Contains (flat_map (over_on placements) links) x
entry_among placements x l [] (k, within, is) there = absurd (omega arith)
entry_among placements x l (m ∷ links) (zero, within, is) there =
    Contains-append_left (over_on placements m) (flat_map (over_on placements) links) x (subst (λ (y : Link). Contains (over_on placements y) x) (sym is) there)
entry_among placements x l (m ∷ links) (suc k, within, is) there =
    Contains-append_right (over_on placements m) (flat_map (over_on placements) links) x (entry_among placements x l links (k, omega arith, is) there)

pub beginnings_say_over : BeginningsSayOver
beginnings_say_over s l priority there below = elim (cases_Bool (is_over s.placements l priority)) [
  | inl short ↦
      let within : Contains (links_of s.base) l = found_contains (key_of l) l (finite.entries s.base.links) (sym (finite.get-entries s.base.links (key_of l)) ∙ there) in
      let entry = entry_among s.placements (over_at l priority) l (links_of s.base) within (entry_of s.placements l priority priorities short (each_priority priority below)) in
      inr (said_among (flat_map (over_on s.placements) (links_of s.base)) (over_at l priority) entry)
  | inr enough ↦ inl (omega (arith, ltb-false _ _ enough))
]

-- ---- rows

module _ (l : Link) (priority : ℕ) where
  same_covers : (s t : BookRunState) (line : List ℕ) → HasSameBook s t → KeepsCover l priority s t line
  same_covers s t line same = stays l priority s t line (omega (arith, same.batches, same.restored)) same.book

  module _ (laws : KeepCovered) (below : priority < 8) where
    row_kept : (place : ℕ) (s t : ServedBookState) (fields : List (List ℕ)) (row : Result BookRow BookRowError) (line : List ℕ) → IfOk row IsReadable
        → IsAnsweredDone shown_texts place s.run fields row line t.run s.shown t.shown → KeepsCover l priority s.run t.run line
    row_kept place s t fields (Err e) line readable (a, same) = row_covers l priority laws below place s.run t.run (Err e) line readable a
    row_kept place s t fields (Ok row) line readable (inl (going, taken, kept)) = row_covers l priority laws below place s.run t.run (Ok row) line readable taken
    row_kept place s t fields (Ok row) line readable (inr (inl f)) = same_covers s.run t.run line (unkept_has_same (by_fault f.why) s.run t.run row line f.refused)
    row_kept place s t fields (Ok row) line readable (inr (inr (stopped, a, same))) = same_covers s.run t.run line (stopped_has_same s.run t.run row line a)

    said_row : (place : ℕ) (s t : ServedBookState) (fields : List (List ℕ)) (row : Result BookRow BookRowError) (line : List ℕ) → IfOk row IsReadable
        → IsAnsweredOrOut shown_texts place s.run fields row line t.run s.shown t.shown → KeepsCover l priority s.run t.run line
    said_row place s t fields row line readable (inl done) = row_kept place s t fields row line readable done
    said_row place s t fields row line readable (inr (out, lost)) = same_covers s.run t.run line (memory_has_same place s.run t.run row line out)

    pub served_cover : (place : ℕ) (s t : ServedBookState) (rows : Rows) (lines : List ℕ) → AreAnswered served_book_answers place s rows lines t → KeepsCover l priority s.run t.run lines
    unfolding AreAnswered
    served_cover place s t [] lines (none, same) =
        stays l priority s.run t.run lines (ap (λ (x : ServedBookState). changers x.run) same) (ap (λ (x : ServedBookState). x.run.book) same)
    served_cover place s t (fields ∷ rows) lines (line, next, more, a, split, rest) =
        both_cover l priority s.run next.run t.run lines line more split (said_row place s next fields (book_row_of fields) line (readable_row fields) a) (served_cover (suc place) next t rows more rest)

pub served_rows_cover_since : KeepCovered → ServedRowsCoverSince
served_rows_cover_since laws place s t rows lines a l priority there below covered =
    elim ((served_cover l priority laws below place s t rows lines a).cover ⊥ (λ was. inl (covered was)) there) [
      | inl c ↦ inl c
      | inr other ↦ elim other [ inl none ↦ absurd none | inr said ↦ inr said ]
    ]

pub published_books_covered : KeepCovered → PublishedBooksAreCovered
published_books_covered laws begun making all published v is l priority there below =
    let first : ServedBookState = first_served begun making in
    let begin : List ℕ = begin_lines begun.book in
    let lines : List ℕ = is.lines in
    elim ((served_cover l priority laws below 1 first is.s is.done lines is.answered).cover (IsSaidOver begin l priority) (λ was. beginnings_say_over begun.book l priority was below) there) [
      | inl c ↦ inl c
      | inr other ↦ elim other [
        | inl said ↦ inr (said_first l priority (begin ++ lines) begin lines refl said)
        | inr said ↦ inr (said_second l priority (begin ++ lines) begin lines refl said.1)
      ]
    ]
