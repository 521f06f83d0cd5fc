-- From each state on, a link stays covered, or its `over` line is written. An `over` line reports
-- too little bandwidth. A link is covered at a priority if the placements count at most its
-- unreserved bandwidth there.
use Rattle.std.proofs.Common.{◌≡◌, ◌⊎◌, ℕ, zero, suc, ◌+◌, ◌<◌, ◌≤◌, List, [], ◌∷◌, ◌++◌, Result, Ok, Err, IfOk, inl, inr, refl, sym, ap, subst, ◌∙◌, append_assoc, arith}
use Rattle.std.specs.List.{Contains, flat_map}
use Rattle.cspf_model.specs.Best.{Answer, route, IsBestAnswer}
use Rattle.cspf_model.specs.Walks.{IsWalk}
use Rattle.cspf_model.specs.Database.{IsLinkOf}
use Rattle.cspf_model.specs.declared.link.Link.{Link}
use Rattle.cspf_model.specs.declared.request.Request.{Request}
use Rattle.cspf_stream.specs.RowAnswers.{AreAnswered}
use Rattle.cspf_rows.specs.Steps.{step_of}
use Rattle.cspf_rows.specs.declared.step.Step.{Step}
use Rattle.cspf_rows.specs.declared.step.Step.TheVariants as step
use Rattle.cspf_book.specs.declared.placement.Placement.{Placement}
use Rattle.cspf_book.specs.Placements.{id_of, others, placement_of}
use Rattle.cspf_book.specs.LinkFigures.{figures_at}
use Rattle.cspf_book.specs.Effective.{effective}
use Rattle.cspf_book.specs.BookState.{BookState, effective_beside, IsAnswerPlaced}
use Rattle.cspf_book.specs.declared.over.Over.{Over}
use Rattle.cspf_book.specs.OverLinks.{over, over_at, made_over}
use Rattle.cspf_book.specs.Laws.{IsCovered, PlacingKeepsCovered, ReleasingKeepsCovered, AbsorbingKeepsCovered, RestoringKeepsCovered}
use Rattle.cspf_book_run.specs.declared.book_row.BookRow.{BookRow}
use Rattle.cspf_book_run.specs.declared.book_row.BookRow.TheVariants as book_row
use Rattle.cspf_book_run.specs.declared.book_row_error.BookRowError.{BookRowError}
use Rattle.cspf_book_run.specs.PlacementLines.{held_line}
use Rattle.cspf_book_run.specs.BookRows.{book_row_of}
use Rattle.cspf_book_run.specs.BookLines.{over_line, lost_line, base_line}
use Rattle.cspf_book_run.specs.BookScript.{BookRunState, name_of, book_start, book_answers, changers, after_base_batch, after_held, held_lines, AreBaseLines, IsBookStepAnswered, IsBookRowAnswered}
use Rattle.cspf_book_run.specs.BookScriptLaws.{IsBookCovered, IsSaidOver, RowsCoverSince}
use Rattle.cspf_book_run.specs.BookStates.{IsReadable}
use Rattle.cspf_book_run.proofs.BookRowLemmas.{readable_row}
use Rattle.cspf_book_run.proofs.Looks.{Looks, shown_looks, left_looks, look_same}

-- The laws of covered links on which these proofs rest. A covered link has enough bandwidth for the
-- placements.
pub record KeepCovered : Type 0 where
  pub placing : PlacingKeepsCovered
  pub releasing : ReleasingKeepsCovered
  pub absorbing : AbsorbingKeepsCovered
  pub restoring : RestoringKeepsCovered

-- At the start there are no placements, so each link is covered.
pub covered_at_first : IsBookCovered book_start.book
covered_at_first l priority there below = omega arith

-- If the base has the link, the link is covered at the priority, or X holds.
abbrev pub CoveredOr : Type 0 → BookState → Link → ℕ → Type 0
CoveredOr X b l priority = IsLinkOf b.base l → IsCovered b.placements l priority ⊎ X

-- ---- a line among other lines

-- If a text is a part of the second of two texts, it is also a part of these two texts joined.
later_part : (first before m after : List ℕ) → first ++ (before ++ m ++ after) ≡ first ++ before ++ m ++ after
later_part first before m after = sym (append_assoc first (before ++ m) after) ∙ ap (λ (z : List ℕ). z ++ after) (sym (append_assoc first before m))

pub said_among : (xs : List Over) (x : Over) → Contains xs x
    → (before : List ℕ) × (after : List ℕ) × (flat_map over_line xs ≡ before ++ over_line x ++ after)
said_among [] x (k, within, is) = absurd (omega arith)
said_among (y ∷ ys) x (zero, within, is) = ([], flat_map over_line ys, ap (λ (z : Over). over_line z ++ flat_map over_line ys) is)
said_among (y ∷ ys) x (suc k, within, is) =
    let rest = said_among ys x (k, omega arith, is) in
    (over_line y ++ rest.0, rest.1, ap (λ (z : List ℕ). over_line y ++ z) rest.2 ∙ later_part (over_line y) rest.0 (over_line x) rest.1)

module _ (l : Link) (priority : ℕ) where
  abbrev text : List ℕ
  text = over_line (over_at l priority)

  -- If the `over` line of the link is among the lines `first`, it is also among the lines `first`
  -- followed by `second`.
  pub said_first : (lines first second : List ℕ) → lines ≡ first ++ second → IsSaidOver first l priority → IsSaidOver lines l priority
  said_first lines first second split (before, after, is) = (
    before,
    after ++ second,
    split ∙ ap (λ (z : List ℕ). z ++ second) is ∙ append_assoc (before ++ text) after second,
  )

  -- If the `over` line of the link is among the lines `second`, it is also among the lines `first`
  -- followed by `second`.
  pub said_second : (lines first second : List ℕ) → lines ≡ first ++ second → IsSaidOver second l priority → IsSaidOver lines l priority
  said_second lines first second split (before, after, is) = (
    first ++ before,
    after,
    split ∙ ap (λ (z : List ℕ). first ++ z) is ∙ later_part first before text after,
  )

  -- ---- how rows change the bandwidth that is counted on the link

  -- Rows lead from the state `s` to the state `t`. If the link isn't covered in `t`, one of two
  -- claims is true. It wasn't covered in `s` either, or the rows accept a base batch or restore a
  -- placement, and their lines have the link's `over` line.
  pub record KeepsCover (s t : BookRunState) (lines : List ℕ) : Type 1 where
    pub count : changers s ≤ changers t
    pub cover : (X : Type 0) → CoveredOr X s.book l priority
        → CoveredOr (X ⊎ ((changers s < changers t) × IsSaidOver lines l priority)) t.book l priority

  -- If rows accept no base batch and restore no placement, and a link that is covered before them is covered after them,
  -- `KeepsCover` holds for these rows.
  kept : (s t : BookRunState) (lines : List ℕ) → changers t ≡ changers s
      → ((X : Type 0) → CoveredOr X s.book l priority → CoveredOr X t.book l priority) → KeepsCover s t lines
  kept s t lines count keeps = record {
    count = omega (arith, count);
    cover = λ X covered there. elim (keeps X covered there) [ inl c ↦ inl c | inr x ↦ inr (inl x) ];
  }

  -- If rows change neither the book nor the number of accepted base batches and restored placements, `KeepsCover` holds for
  -- these rows.
  pub stays : (s t : BookRunState) (lines : List ℕ) → changers t ≡ changers s → t.book ≡ s.book → KeepsCover s t lines
  stays s t lines count book = kept s t lines count (λ X covered. subst (λ (b : BookState). CoveredOr X b l priority) (sym book) covered)

  -- `KeepsCover` holds for rows that only look.
  looks : (s t : BookRunState) (lines : List ℕ) → Looks s t → KeepsCover s t lines
  looks s t lines look = stays s t lines (look_same changers s t refl look) (look_same (λ (x : BookRunState). x.book) s t refl look)

  -- If `KeepsCover` holds for rows and for the rows behind them, it holds for all of them.
  pub both_cover : (s m t : BookRunState) (lines first second : List ℕ) → lines ≡ first ++ second → KeepsCover s m first → KeepsCover m t second → KeepsCover s t lines
  both_cover s m t lines first second split a b = record {
    count = omega (arith, a.count, b.count);
    cover = λ X covered there. elim (b.cover (X ⊎ ((changers s < changers m) × IsSaidOver first l priority)) (a.cover X covered) there) [
      | inl c ↦ inl c
      | inr other ↦ elim other [
        | inl before ↦ elim before [
          | inl x ↦ inr (inl x)
          | inr said ↦ inr (inr (omega (arith, said.0, b.count), said_first lines first second split said.1))
        ]
        | inr said ↦ inr (inr (omega (arith, said.0, a.count), said_second lines first second split said.1))
      ]
    ];
  }

  module _ (laws : KeepCovered) (below : priority < 8) where
    -- If the link is covered, or X holds, this is still true after a request is placed
    -- (`CoveredOr`).
    placing_covers : (old new : BookState) (q : Request) (hold : ℕ) (answer : Answer) → q.setup ≡ 7
        → IsBestAnswer (effective_beside old q.id) q answer → IsAnswerPlaced old q hold answer new
        → (X : Type 0) → CoveredOr X old l priority → CoveredOr X new l priority
    placing_covers old new q hold (route walk) lowest best is X covered = λ there.
        let p : Placement = is.placement in
        let same = is.is_its.request in
        let of_q : IsWalk (effective old.base (others q.id old.placements)) q walk = best.1.is_route.is_walk in
        let of_p : IsWalk (effective old.base (others p.request.id old.placements)) p.request walk =
        subst (λ (x : Request). IsWalk (effective old.base (others x.id old.placements)) x walk) (sym same) of_q in
        let there_before = rw is.base at there in
        elim (covered there_before) [
          | inl c ↦
              let more = laws.placing old.base old.placements p walk (ap (λ (x : Request). x.setup) same ∙ lowest) is.is_its.route of_p l priority there_before below c in
              inl (subst (λ (ps : List Placement). IsCovered ps l priority) (ap (λ (x : Request). others x.id old.placements ++ p ∷ []) same ∙ sym is.placements) more)
          | inr x ↦ inr x
        ]
    placing_covers old new q hold other lowest best is X covered = subst (λ (b : BookState). CoveredOr X b l priority) (sym is) covered

    -- `KeepsCover` holds for an accepted base batch: a link that was covered is still covered, or
    -- its `over` line is among the lines of the batch.
    absorbing_covers : (s t : BookRunState) (number : ℕ) (line : List ℕ) → AreBaseLines s number line → t ≡ after_base_batch s → KeepsCover s t line
    absorbing_covers s t number line (ids, lost, is) after = rw after (record {
      count = omega arith;
      cover = λ X covered there. elim (laws.absorbing s.book.base s.book.placements s.changes l priority there below) [
        | inl was ↦ elim (covered was) [ inl c ↦ inl c | inr x ↦ inr (inl x) ]
        | inr after ↦ elim after [
          | inl c ↦ inl c
          | inr named ↦
              let said = said_among (over s.book.placements s.changes) (over_at l priority) named in
              let first : List ℕ = flat_map over_line (over s.book.placements s.changes) in
              let second : List ℕ = flat_map lost_line ids in
              let third : List ℕ = base_line number (name_of s (s.book.version + 1)) in
              inr (inr (omega arith, said_first line first (second ++ third) (is ∙ append_assoc first second third) said))
        ]
      ];
    })

    -- `KeepsCover` holds for a restored placement: a link that was covered is still covered, or its
    -- `over` line is among the lines of the row.
    restoring_covers : (s t : BookRunState) (p : Placement) (line : List ℕ) → line ≡ held_lines s p → t ≡ after_held s p → KeepsCover s t line
    restoring_covers s t p line is after = rw after (record {
      count = omega arith;
      cover = λ X covered there. elim (covered there) [
        | inr x ↦ inr (inl x)
        | inl was ↦ elim (laws.restoring s.book.base s.book.placements p l priority there below was) [
          | inl c ↦ inl c
          | inr named ↦
              let said = said_among (made_over s.book.base s.book.placements p) (over_at l priority) named in
              let first : List ℕ = flat_map over_line (made_over s.book.base s.book.placements p) in
              inr (inr (omega arith, said_first line first (held_line (id_of p) (name_of s (s.book.version + 1))) is said))
        ]
      ];
    })

    step_covers : (s t : BookRunState) (row : Step) (line : List ℕ) → IsBookStepAnswered s row line t → KeepsCover s t line
    step_covers s t (step.Change c) line a = stays s t line (ap changers a.1) (ap (λ (x : BookRunState). x.book) a.1)
    step_covers s t (step.Ask q) line a = stays s t line (ap changers a.3) (ap (λ (x : BookRunState). x.book) a.3)
    step_covers s t (step.End number count) line (inl (accepted, lines, after)) = absorbing_covers s t number line lines after
    step_covers s t (step.End number count) line (inr (why, unaccepted, is, line_is, after)) =
        stays s t line (ap changers after) (ap (λ (x : BookRunState). x.book) after)

    pub row_covers : (place : ℕ) (s t : BookRunState) (r : Result BookRow BookRowError) (line : List ℕ)
        → IfOk r IsReadable → IsBookRowAnswered place s r line t → KeepsCover s t line
    row_covers place s t (Err error) line readable a = stays s t line (ap changers a.1) (ap (λ (x : BookRunState). x.book) a.1)
    row_covers place s t (Ok (book_row.Base row)) line readable a = step_covers s t (step_of row) line a
    row_covers place s t (Ok (book_row.Place q hold)) line readable (inl (x, after)) =
        kept s t line (ap changers after) (placing_covers s.book t.book q hold x.answer readable.0 x.best x.placed)
    row_covers place s t (Ok (book_row.Place q hold)) line readable (inr (why, is, line_is, after)) =
        stays s t line (ap changers after) (ap (λ (x : BookRunState). x.book) after)
    row_covers place s t (Ok (book_row.Release id)) line readable (inl (room, has, line_is, after)) =
        let book = ap (λ (x : BookRunState). x.book) after in
        kept s t line (ap changers after) (λ X covered. subst (λ (b : BookState). CoveredOr X b l priority) (sym book)
        (λ there. elim (covered there) [ inl c ↦ inl (laws.releasing s.book.placements id l priority c) | inr x ↦ inr x ]))
    row_covers place s t (Ok (book_row.Release id)) line readable (inr (why, is, line_is, after)) =
        stays s t line (ap changers after) (ap (λ (x : BookRunState). x.book) after)
    row_covers place s t (Ok (book_row.Held p)) line readable (inl (room, may, line_is, after)) = restoring_covers s t p line line_is after
    row_covers place s t (Ok (book_row.Held p)) line readable (inr (why, is, line_is, after)) =
        stays s t line (ap changers after) (ap (λ (x : BookRunState). x.book) after)
    row_covers place s t (Ok (book_row.Offer q hold)) line readable (inl (x, after)) =
        stays s t line (ap changers after) (ap (λ (y : BookRunState). y.book) after)
    row_covers place s t (Ok (book_row.Offer q hold)) line readable (inr (why, is, line_is, after)) =
        stays s t line (ap changers after) (ap (λ (x : BookRunState). x.book) after)
    row_covers place s t (Ok (book_row.Show id)) line readable a =
        looks s t line (shown_looks s t id (placement_of id s.book.placements) line a)
    row_covers place s t (Ok (book_row.Left from local)) line readable a =
        looks s t line (left_looks s t (from, local) (figures_at s.book.base s.book.placements (from, local)) line a)

    rows_cover : (place : ℕ) (s t : BookRunState) (rows : List (List (List ℕ))) (lines : List ℕ)
        → AreAnswered book_answers place s rows lines t → KeepsCover s t lines
    unfolding AreAnswered
    rows_cover place s t [] lines a = stays s t lines (ap changers a.1) (ap (λ (x : BookRunState). x.book) a.1)
    rows_cover place s t (fields ∷ rows) lines a =
        both_cover s a.1 t lines a.0 a.2 a.4 (row_covers place s a.1 (book_row_of fields) a.0 (readable_row fields) a.3) (rows_cover (suc place) a.1 t rows a.2 a.5)

pub rows_cover_since : KeepCovered → RowsCoverSince
rows_cover_since laws place s t rows lines a l priority there below covered =
    elim ((rows_cover l priority laws below place s t rows lines a).cover ⊥ (λ was. inl (covered was)) there) [
      | inl c ↦ inl c
      | inr other ↦ elim other [ inl none ↦ absurd none | inr said ↦ inr said ]
    ]
