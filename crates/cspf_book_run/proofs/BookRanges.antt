-- Rows keep the numbers of a book in range. At each key and priority, the bandwidth that the
-- placements count stays below 2 ^ 64.
use Rattle.std.proofs.Common.{◌≡◌, ℕ, suc, ◌-◌, ◌+◌, ◌^◌, ◌<◌, ◌≤◌, ◌||◌, ◌&&◌, Bool, true, false, cond, nat_eq, nat_le, Option, Some, None, List, [], ◌∷◌, ◌++◌, map, slice_index, Result, Ok, Err, inl, inr, refl, sym, ap, subst, ◌∙◌, lit<, arith}
use Rattle.std.proofs.lemmas.List.Sums.{sum_by_push}
use Rattle.std.specs.List.{AllByRecursion}
use Rattle.std.specs.Option.{option_map}
use Rattle.std.specs.Ordering.{eq_by_cmp}
use Rattle.cspf_model.specs.declared.batch.Change.{Change}
use Rattle.cspf_model.specs.declared.batch.Change.TheVariants.{Put}
use Rattle.cspf_model.specs.declared.link.Link.{Link}
use Rattle.cspf_model.specs.declared.request.Request.{Request}
use Rattle.cspf_model.specs.Admissible.{IsAdmissible}
use Rattle.cspf_model.specs.Best.{Answer, route, IsBestAnswer}
use Rattle.cspf_model.specs.Database.{Database, Key, key_of, link_at, IsLinkOf}
use Rattle.cspf_model.specs.Changes.{change_key_cmp, link_key, key_changed, link_left, after_change, after_changes}
use Rattle.cspf_model.proofs.Databases.Keys.{keys_same}
use Rattle.cspf_model.proofs.Databases.LastChanges.{link_at-after_change}
use Rattle.cspf_rows.specs.JournalLaws.{IsChangeInRange}
use Rattle.cspf_rows.specs.Says.{AreRowsRead}
use Rattle.cspf_rows.specs.Written.{IsLinkInRange}
use Rattle.cspf_stream.specs.RowAnswers.{AreAnswered}
use Rattle.cspf_rows.specs.Steps.{step_of}
use Rattle.cspf_rows.specs.declared.step.Step.{Step}
use Rattle.cspf_rows.specs.declared.step.Step.TheVariants as step
use Rattle.cspf_book.specs.declared.placement.Placement.{Placement}
use Rattle.cspf_book.specs.declared.path.Passed.{Passed}
use Rattle.cspf_book.specs.LinkFigures.{figures_at}
use Rattle.cspf_book.specs.Placements.{passed_of, has_key, bandwidth_on, others, counted, placement_of}
use Rattle.cspf_book.specs.Effective.{effective_link, effective}
use Rattle.cspf_book.specs.BookState.{BookState, effective_beside, IsAnswerPlaced}
use Rattle.cspf_book.proofs.Covered.{counted-others}
use Rattle.cspf_book.proofs.EffectiveLinks.{effective_at}
use Rattle.cspf_book.proofs.Figures.{figure-le, figure-le-left, free-effective_link}
use Rattle.cspf_book.proofs.KeyTests.{same_key_test}
use Rattle.cspf_book_run.specs.declared.book_row.BookRow.{BookRow}
use Rattle.cspf_book_run.specs.declared.book_row.BookRow.TheVariants as book_row
use Rattle.cspf_book_run.specs.declared.book_row_error.BookRowError.{BookRowError}
use Rattle.cspf_book_run.proofs.Looks.{Looks, shown_looks, left_looks, look_same}
use Rattle.cspf_book_run.specs.BookRows.{book_row_of}
use Rattle.cspf_book_run.specs.BookScript.{BookRunState, book_start, IsBookStepAnswered, IsBookRowAnswered}
use Rattle.cspf_book_run.specs.BookScriptLaws.{IsBookInRange, RowsKeepRange}
use Rattle.cspf_book_run.specs.BookStates.{IsReadable}
use Rattle.cspf_book_run.proofs.BookRowLemmas.{readable_row}
use Rattle.cspf_book_run.proofs.KeptBook.{IsStepInRange, row_in_range, read_row, one_more_in_range}
use Rattle.cspf_book_run.proofs.OverExact.{none_at_first}

-- The numbers of a database's links are in the ranges of their types.
abbrev AreLinksInRange : Database → Type 0
AreLinksInRange d = (l : Link) → IsLinkOf d l → IsLinkInRange l

-- At each key and priority, the bandwidth that the placements count is below 2 ^ 64.
abbrev AreSumsSmall : List Placement → Type 0
AreSumsSmall placements = (k : Key) (priority : ℕ) → priority < 8 → counted placements k priority < 2 ^ 64

pub in_range_at_first : IsBookInRange book_start
in_range_at_first = record {
  base = λ l is. absurd (none_at_first l is);
  changes = tt;
  sums = λ _ k priority small. lit< tt;
}

-- ---- a base after changes

left_in_range : (c : Change) (l : Link) → IsChangeInRange c → link_left c ≡ Some l → IsLinkInRange l
left_in_range (Put m) l range is = let same : m ≡ l = cc in subst IsLinkInRange same range.0
left_in_range other l range is = absurd (cc)

change_in_range : (d : Database) (c : Change) → IsChangeInRange c → AreLinksInRange d → AreLinksInRange (after_change d c)
change_in_range d c range before l is =
    elim (eq_by_cmp change_key_cmp (link_key (key_of l)) (key_changed c)) as (λ b. cond b (link_left c) (link_at d (key_of l)) ≡ Some l → IsLinkInRange l) [
      | true ↦ λ left. left_in_range c l range left
      | false ↦ λ there. before l there
    ] (sym (link_at-after_change d c (key_of l)) ∙ is)

changes_in_range : (d : Database) (cs : List Change) → AllByRecursion IsChangeInRange cs → AreLinksInRange d → AreLinksInRange (after_changes d cs)
changes_in_range d [] range before = before
changes_in_range d (c ∷ cs) range before = changes_in_range (after_change d c) cs range.1 (change_in_range d c range.0 before)

-- ---- a placement

-- Each link of the effective database is a link of the base, with its effective bandwidths.
base_link : (placements : List Placement) (o : Option Link) (m : Link) → option_map (effective_link placements) o ≡ Some m
    → (l : Link) × (o ≡ Some l) × (effective_link placements l ≡ m)
base_link placements (Some l) m is = (l, refl, (cc))
base_link placements None m is = absurd (cc)

key_of-effective_link : (placements : List Placement) (l : Link) → key_of (effective_link placements l) ≡ key_of l
unfolding effective_link
key_of-effective_link placements l = refl

-- The base has a link at this key. The link's effective bandwidth at the setup priority is at least
-- the request's bandwidth.
record HasRoomAt (base : Database) (placements : List Placement) (q : Request) (k : Key) : Type 0 where
  link : Link
  is : IsLinkOf base link
  key : key_of link ≡ k
  room : q.bandwidth ≤ slice_index (effective_link placements link).free q.setup

room_at : (base : Database) (placements : List Placement) (q : Request) (k : Key) (walk : List Link)
    → AllByRecursion (IsAdmissible (effective base placements) q) walk → has_key (map passed_of walk) k ≡ true → HasRoomAt base placements q k
room_at base placements q k [] all has = absurd (cc)
room_at base placements q k (m ∷ walk) all has =
    elim (nat_eq m.from k.0 && nat_eq m.local k.1) as (λ b. (nat_eq m.from k.0 && nat_eq m.local k.1) ≡ b → (b || has_key (map passed_of walk) k) ≡ true → HasRoomAt base placements q k) [
      | true ↦ λ here _.
          let key : k ≡ key_of m = keys_same k (key_of m) (same_key_test k (key_of m) ∙ here) in
          let behind = base_link placements (link_at base (key_of m)) m (sym (effective_at base placements (key_of m)) ∙ all.0.link) in
          let same : key_of m ≡ key_of behind.0 = sym (ap key_of behind.2) ∙ key_of-effective_link placements behind.0 in
          record {
            link = behind.0;
            is = sym (ap (link_at base) same) ∙ behind.1;
            key = sym same ∙ sym key;
            room = subst (λ (n : Link). q.bandwidth ≤ slice_index n.free q.setup) (sym behind.2) all.0.usable.admitted.room;
          }
      | false ↦ λ _ later. room_at base placements q k walk all.1 later
    ] refl has

-- Let a request have the setup priority 7, and let the link at a key have room for the request
-- (`HasRoomAt`). At each priority, the request's bandwidth is at most the link's bandwidth minus
-- the bandwidth that the placements count on it.
left_for : (base : Database) (placements : List Placement) (q : Request) (k : Key) (priority : ℕ) → q.setup ≡ 7 → priority < 8
    → AreLinksInRange base → HasRoomAt base placements q k → (free : ℕ) × (free < 2 ^ 64) × (q.bandwidth ≤ free - counted placements k priority)
left_for base placements q k priority seven small range h =
    let l : Link = h.link in
    let at_seven : q.bandwidth ≤ slice_index (effective_link placements l).free 7 = subst (λ s. q.bandwidth ≤ slice_index (effective_link placements l).free s) seven h.room in
    let is_seventh = free-effective_link placements l 7 (lit< tt) in
    let falls = figure-le l.free (counted placements (key_of l)) priority (7 - priority) 7 (omega arith) in
    let left = figure-le-left l.free (counted placements (key_of l)) priority in
    let fits : q.bandwidth ≤ slice_index l.free priority - counted placements (key_of l) priority = omega (arith, at_seven, is_seventh, falls, left) in
    (slice_index l.free priority, (range l h.is).free priority small, subst (λ (j : Key). q.bandwidth ≤ slice_index l.free priority - counted placements j priority) h.key fits)

-- Let the sum `held` be below 2 ^ 64. If a placement's bandwidth is at most `free - held`, for some
-- `free` below 2 ^ 64, the sum with this placement is below 2 ^ 64.
sum_small : (counts has : Bool) (bandwidth held sum : ℕ) → (has ≡ true → (free : ℕ) × (free < 2 ^ 64) × (bandwidth ≤ free - held))
    → held < 2 ^ 64 → sum ≡ held + cond (counts && has) bandwidth 0 → sum < 2 ^ 64
sum_small true true bandwidth held sum room small is =
    let left = room refl in omega (arith, left.1, left.2, small, is)
sum_small true false bandwidth held sum room small is = omega (arith, small, is)
sum_small false has bandwidth held sum room small is = omega (arith, small, is)

others_small : (id : ℕ) (placements : List Placement) → AreSumsSmall placements → AreSumsSmall (others id placements)
others_small id placements small k priority below = omega (arith, counted-others id placements k priority, small k priority below)

placing_small : (old new : BookState) (q : Request) (hold : ℕ) (answer : Answer) → q.setup ≡ 7 → IsBestAnswer (effective_beside old q.id) q answer
    → IsAnswerPlaced old q hold answer new → AreLinksInRange old.base → AreSumsSmall old.placements → AreSumsSmall new.placements
placing_small old new q hold (route walk) seven best is range small = one_more
  where
    one_more : AreSumsSmall new.placements
    one_more k priority below =
        let rest : List Placement = others q.id old.placements in
        let p : Placement = is.placement in
        let room : has_key p.route k ≡ true → (free : ℕ) × (free < 2 ^ 64) × (p.request.bandwidth ≤ free - counted rest k priority) = λ has.
        let on_walk : has_key (map passed_of walk) k ≡ true = subst (λ (w : List Passed). has_key w k ≡ true) is.is_its.route has in
        let left = left_for old.base rest q k priority seven below range (room_at old.base rest q k walk best.1.is_route.is_walk.links on_walk) in
        (left.0, left.1, subst (λ (x : Request). x.bandwidth ≤ left.0 - counted rest k priority) (sym is.is_its.request) left.2) in
        subst (λ (ps : List Placement). counted ps k priority < 2 ^ 64) (sym is.placements)
        (sum_small (nat_le p.hold priority) (has_key p.route k) p.request.bandwidth (counted rest k priority) (counted (rest ++ p ∷ []) k priority) room
        (others_small q.id old.placements small k priority below) (sum_by_push (bandwidth_on k priority) rest p))
placing_small old new q hold other seven best is range small = subst (λ (b : BookState). AreSumsSmall b.placements) (sym is) small

same_base : (old new : BookState) (q : Request) (hold : ℕ) (answer : Answer) → IsAnswerPlaced old q hold answer new → new.base ≡ old.base
same_base old new q hold (route walk) is = is.base
same_base old new q hold other is = ap (λ (b : BookState). b.base) is

-- ---- rows

-- A state is in range if the base, the open changes and the sums of counted bandwidth are in range.
made : (t : BookRunState) → AreLinksInRange t.book.base → AllByRecursion IsChangeInRange t.changes → (t.restored ≡ 0 → AreSumsSmall t.book.placements) → IsBookInRange t
made t base changes sums = record { base = base; changes = changes; sums = sums }

-- Let a row leave the book unchanged. If the open changes after the row are in range, the state
-- stays in range. Open changes are changes since the last end row.
same_book : (s t : BookRunState) → t.book ≡ s.book → t.restored ≡ s.restored → IsBookInRange s → AllByRecursion IsChangeInRange t.changes → IsBookInRange t
same_book s t book restored range changes =
    made t (subst (λ (b : BookState). AreLinksInRange b.base) (sym book) range.base) changes
    (λ none. subst (λ (b : BookState). AreSumsSmall b.placements) (sym book) (range.sums (sym restored ∙ none)))

-- If a row changes neither the book nor the open changes, the state stays in range.
same_parts : (s t : BookRunState) → t.book ≡ s.book → t.restored ≡ s.restored → t.changes ≡ s.changes → IsBookInRange s → IsBookInRange t
same_parts s t book restored changes range = same_book s t book restored range (subst (AllByRecursion IsChangeInRange) (sym changes) range.changes)

step_in_range : (s t : BookRunState) (r : Step) (line : List ℕ) → IsStepInRange r → IsBookStepAnswered s r line t → IsBookInRange s → IsBookInRange t
step_in_range s t (step.Change c) line here a range =
    same_book s t (ap (λ (x : BookRunState). x.book) a.1) (ap (λ (x : BookRunState). x.restored) a.1) range
    (subst (AllByRecursion IsChangeInRange) (sym (ap (λ (x : BookRunState). x.changes) a.1)) (one_more_in_range s.changes c range.changes here))
step_in_range s t (step.Ask q) line here a range =
    same_parts s t (ap (λ (x : BookRunState). x.book) a.3) (ap (λ (x : BookRunState). x.restored) a.3) (ap (λ (x : BookRunState). x.changes) a.3) range
step_in_range s t (step.End number count) line here (inl (accepted, lines, after)) range =
    made t (subst AreLinksInRange (sym (ap (λ (x : BookRunState). x.book.base) after)) (changes_in_range s.book.base s.changes range.changes range.base))
    (subst (AllByRecursion IsChangeInRange) (sym (ap (λ (x : BookRunState). x.changes) after)) tt)
    (λ none. subst AreSumsSmall (sym (ap (λ (x : BookRunState). x.book.placements) after)) (range.sums (sym (ap (λ (x : BookRunState). x.restored) after) ∙ none)))
step_in_range s t (step.End number count) line here (inr (why, kept, is, line_is, after)) range =
    same_book s t (ap (λ (x : BookRunState). x.book) after) (ap (λ (x : BookRunState). x.restored) after) range (subst (AllByRecursion IsChangeInRange) (sym (ap (λ (x : BookRunState). x.changes) after)) tt)

-- A row that only looks keeps the state in range.
looks : (s t : BookRunState) → Looks s t → IsBookInRange s → IsBookInRange t
looks s t look range =
    same_parts s t (look_same (λ (x : BookRunState). x.book) s t refl look) (look_same (λ (x : BookRunState). x.restored) s t refl look)
    (look_same (λ (x : BookRunState). x.changes) s t refl look) range

module _ (read : AreRowsRead) where
  row_keeps : (place : ℕ) (s t : BookRunState) (fields : List (List ℕ)) (r : Result BookRow BookRowError) (line : List ℕ) → book_row_of fields ≡ r
      → IsBookRowAnswered place s r line t → IsBookInRange s → IsBookInRange t
  row_keeps place s t fields (Err e) line is a range = same_parts s t (ap (λ (x : BookRunState). x.book) a.1) (ap (λ (x : BookRunState). x.restored) a.1) (ap (λ (x : BookRunState). x.changes) a.1) range
  row_keeps place s t fields (Ok (book_row.Base b)) line is a range =
      step_in_range s t (step_of b) line (row_in_range fields b ((read fields b).0 (read_row fields (book_row.Base b) is))) a range
  row_keeps place s t fields (Ok (book_row.Place q hold)) line is (inl (x, after)) range =
      let readable : IsReadable (book_row.Place q hold) = rw is at (readable_row fields) in
      made t (subst AreLinksInRange (sym (same_base s.book t.book q hold x.answer x.placed)) range.base)
      (subst (AllByRecursion IsChangeInRange) (sym (ap (λ (y : BookRunState). y.changes) after)) range.changes)
      (λ none. placing_small s.book t.book q hold x.answer readable.0 x.best x.placed range.base (range.sums (sym (ap (λ (y : BookRunState). y.restored) after) ∙ none)))
  row_keeps place s t fields (Ok (book_row.Place q hold)) line is (inr (why, refused, line_is, after)) range =
      same_parts s t (ap (λ (x : BookRunState). x.book) after) (ap (λ (x : BookRunState). x.restored) after) (ap (λ (x : BookRunState). x.changes) after) range
  row_keeps place s t fields (Ok (book_row.Release id)) line is (inl (room, has, line_is, after)) range =
      made t (subst AreLinksInRange (sym (ap (λ (x : BookRunState). x.book.base) after)) range.base)
      (subst (AllByRecursion IsChangeInRange) (sym (ap (λ (x : BookRunState). x.changes) after)) range.changes)
      (λ none. subst AreSumsSmall (sym (ap (λ (x : BookRunState). x.book.placements) after)) (others_small id s.book.placements (range.sums (sym (ap (λ (x : BookRunState). x.restored) after) ∙ none))))
  row_keeps place s t fields (Ok (book_row.Release id)) line is (inr (why, refused, line_is, after)) range =
      same_parts s t (ap (λ (x : BookRunState). x.book) after) (ap (λ (x : BookRunState). x.restored) after) (ap (λ (x : BookRunState). x.changes) after) range
  row_keeps place s t fields (Ok (book_row.Held p)) line is (inl (room, may, line_is, after)) range =
      let more : t.restored ≡ s.restored + 1 = ap (λ (x : BookRunState). x.restored) after in
      made t (subst AreLinksInRange (sym (ap (λ (x : BookRunState). x.book.base) after)) range.base)
      (subst (AllByRecursion IsChangeInRange) (sym (ap (λ (x : BookRunState). x.changes) after)) range.changes) (λ none. absurd (omega (arith, more, none)))
  row_keeps place s t fields (Ok (book_row.Held p)) line is (inr (why, refused, line_is, after)) range =
      same_parts s t (ap (λ (x : BookRunState). x.book) after) (ap (λ (x : BookRunState). x.restored) after) (ap (λ (x : BookRunState). x.changes) after) range
  row_keeps place s t fields (Ok (book_row.Offer q hold)) line is (inl (x, after)) range =
      same_parts s t (ap (λ (y : BookRunState). y.book) after) (ap (λ (y : BookRunState). y.restored) after) (ap (λ (y : BookRunState). y.changes) after) range
  row_keeps place s t fields (Ok (book_row.Offer q hold)) line is (inr (why, refused, line_is, after)) range =
      same_parts s t (ap (λ (x : BookRunState). x.book) after) (ap (λ (x : BookRunState). x.restored) after) (ap (λ (x : BookRunState). x.changes) after) range
  row_keeps place s t fields (Ok (book_row.Show id)) line is a range = looks s t (shown_looks s t id (placement_of id s.book.placements) line a) range
  row_keeps place s t fields (Ok (book_row.Left from local)) line is a range =
      looks s t (left_looks s t (from, local) (figures_at s.book.base s.book.placements (from, local)) line a) range

  pub rows_keep_range : RowsKeepRange
  unfolding AreAnswered
  rows_keep_range place s t [] lines a range = subst IsBookInRange (sym a.1) range
  rows_keep_range place s t (fields ∷ rows) lines a range =
      rows_keep_range (suc place) a.1 t rows a.2 a.5 (row_keeps place s a.1 fields (book_row_of fields) a.0 refl a.3 range)
