-- The state of a run after a `held` or `offer` row, and after rows that only look.
use Rattle.std.proofs.Common.{◌≡◌, ◌⊎◌, ℕ, ◌+◌, ◌-◌, ◌<◌, false, List, ◌++◌, Option, Some, None, Ok, inl, inr, refl, sym, ap, subst, ◌∙◌}
use Rattle.std.proofs.lemmas.Bool.{cases_Bool}
use Rattle.std.specs.List.{flat_map}
use Rattle.cspf_model.specs.Best.{Answer, IsBestAnswer}
use Rattle.cspf_model.specs.declared.request.Request.{Request}
use Rattle.cspf_stream.specs.declared.rows.Rows.{Rows}
use Rattle.cspf_book.specs.BookState.{BookState, effective_beside, HasRoomFor, IsAnswerPlaced, IsPlaceError}
use Rattle.cspf_book.specs.Leading.{LeadsTo}
use Rattle.cspf_book.specs.LinkFigures.{figures_at}
use Rattle.cspf_book.specs.OverLinks.{made_over}
use Rattle.cspf_book.specs.Placements.{id_of, placement_of}
use Rattle.cspf_book.specs.Restoring.{MayBeAdded, after_restoring, IsUnrestored, IsRestoreError}
use Rattle.cspf_book.specs.declared.error.PlaceError.{PlaceError}
use Rattle.cspf_book.specs.declared.error.PlaceError.TheVariants.{Memory, Full, TooManyLinks, Twice, TooLong}
use Rattle.cspf_book.specs.declared.error.RestoreError.{RestoreError}
use Rattle.cspf_book.specs.declared.error.RestoreError.TheVariants as unrestored
use Rattle.cspf_book.specs.declared.error.VersionError.{VersionError}
use Rattle.cspf_book.specs.declared.error.VersionError.TheVariants as version_error
use Rattle.cspf_book.specs.declared.link_figures.LinkFigures.{LinkFigures}
use Rattle.cspf_book.specs.declared.over.Over.{Over}
use Rattle.cspf_book.specs.declared.placement.Placement.{Placement}
use Rattle.cspf_book_run.specs.declared.book_row.BookRow.{BookRow}
use Rattle.cspf_book_run.specs.declared.book_row.BookRow.TheVariants as book_row
use Rattle.cspf_book_run.specs.declared.held_refusal.HeldRefusal.{HeldRefusal}
use Rattle.cspf_book_run.specs.declared.held_refusal.HeldRefusal.TheVariants as unheld
use Rattle.cspf_book_run.specs.declared.keeper.Keeper.{Keeper}
use Rattle.cspf_book_run.specs.declared.keeper.Unkept.{Unkept}
use Rattle.cspf_book_run.specs.declared.keeper.Unkept.TheVariants as unkept
use Rattle.cspf_book_run.specs.declared.refusals.PlaceRefusal.{PlaceRefusal}
use Rattle.cspf_book_run.specs.declared.refusals.PlaceRefusal.TheVariants as unplaced
use Rattle.cspf_book_run.specs.BookLines.{over_line}
use Rattle.cspf_book_run.specs.BookScript.{BookRunState, name_of, after_answer, after_held, after_refusal, held_lines, IsBookRowTaken, IsOfferAnswered, IsShown, IsLeftShown}
use Rattle.cspf_book_run.specs.BookSinks.{BookSinkState, IsPlacingKept, IsHeldSaid, IsHeldUnkept, IsOfferUnkept}
use Rattle.cspf_book_run.specs.BookStates.{KeepsBook, BookLeads}
use Rattle.cspf_book_run.specs.Kept.{text_of_row}
use Rattle.cspf_book_run.specs.KeptRuns.{IsTakenStopped}
use Rattle.cspf_book_run.specs.KeptStates.{IsRowDone, IsRowFailed}
use Rattle.cspf_book_run.specs.Keeping.{KeepSpec, IsKeptIfNew}
use Rattle.cspf_book_run.specs.PlaceErrors.{place_refusal_of, refusal_of_restoring}
use Rattle.cspf_book_run.specs.PlacementLines.{held_line, refused_held_line, IsOfferReply, refused_offer_line, show_line, refused_show_line, left_line, refused_left_line}
use Rattle.cspf_book_run.proofs.PlaceSteps.{after_refused, own_text, KeeperRefuses, kept_row, cut_row}
use Rattle.cspf_book_run.specs.declared.write_fault.WriteFault.{WriteFault}

-- ---- what the book does

-- If the book restores a placement, the lines say so.
pub held_said : (old new : BookState) (skipped : ℕ) (p : Placement) (overs : List Over) (version : ℕ) (lines : List ℕ) → old.version < 900000 → MayBeAdded old.placements p
    → overs ≡ made_over old.base old.placements p → version ≡ old.version + 1 - skipped → lines ≡ flat_map over_line overs ++ held_line (id_of p) version → new ≡ after_restoring old p
    → (s : BookRunState) → old ≡ s.book → skipped ≡ s.skipped → IsHeldSaid s p lines new
held_said old new skipped p overs version lines room may over_is version_is lines_are after s same same_skipped = (
  subst (λ (b : BookState). b.version < 900000) same room,
  subst (λ (b : BookState). MayBeAdded b.placements p) same may,
  lines_are ∙ rw (over_is, version_is, same_skipped) (ap (λ (b : BookState). flat_map over_line (made_over b.base b.placements p) ++ held_line (id_of p) (b.version + 1 - s.skipped)) same),
  after ∙ ap (λ (b : BookState). after_restoring b p) same,
)

-- If the book finds the best answer to a request that it could place, the `offer` row is answered.
pub offer_said : (old placed : BookState) (skipped : ℕ) (q : Request) (hold : ℕ) (answer : Answer) (version : ℕ) (line : List ℕ) → old.version < 900000 → HasRoomFor old q.id
    → IsBestAnswer (effective_beside old q.id) q answer → IsAnswerPlaced old q hold answer placed → version ≡ old.version - skipped → IsOfferReply q.id version answer line
    → (s : BookRunState) → old ≡ s.book → skipped ≡ s.skipped → IsOfferAnswered s q hold line
offer_said old placed skipped q hold answer version line room few best may is_version reply s same same_skipped = record {
  room = subst (λ (b : BookState). b.version < 900000) same room;
  few = subst (λ (b : BookState). HasRoomFor b q.id) same few;
  answer = answer;
  best = subst (λ (b : BookState). IsBestAnswer (effective_beside b q.id) q answer) same best;
  placed = placed;
  may = subst (λ (b : BookState). IsAnswerPlaced b q hold answer placed) same may;
  reply = subst (λ (n : ℕ). IsOfferReply q.id n answer line) (is_version ∙ rw same_skipped (ap (λ (b : BookState). b.version - s.skipped) same)) reply;
}

module _ {S : Type 0} (spec : KeepSpec S) (keeping : S) (old : BookState) (q : Request) (room : old.version < 900000) (going : spec.stopped keeping ≡ false) (s : BookRunState) (same : old ≡ s.book) where
  -- The reason of the book is the reason of the `offer` row.
  by_book : (why : PlaceError) (refusal : PlaceRefusal) → IsPlaceError old q why → (IsPlaceError s.book q why → s.book.version < 900000 → IsOfferUnkept spec s q keeping refusal) → IsOfferUnkept spec s q keeping refusal
  by_book why refusal is next = next (subst (λ (b : BookState). IsPlaceError b q why) same is) (subst (λ (b : BookState). b.version < 900000) same room)

  pub unoffered_by : (why : PlaceError) (refusal : PlaceRefusal) → place_refusal_of why ≡ Some refusal → IsPlaceError old q why → IsOfferUnkept spec s q keeping refusal
  unoffered_by Memory refusal is e = absurd (cc is)
  unoffered_by Full refusal is e =
      let same_refusal : unplaced.Full ≡ refusal = cc is in
      subst (λ (r : PlaceRefusal). IsOfferUnkept spec s q keeping r) same_refusal (by_book Full unplaced.Full e (λ x small. (going, (small, x))))
  unoffered_by TooManyLinks refusal is e =
      let same_refusal : unplaced.Links ≡ refusal = cc is in
      subst (λ (r : PlaceRefusal). IsOfferUnkept spec s q keeping r) same_refusal (by_book TooManyLinks unplaced.Links e (λ x small. (going, (small, x))))
  unoffered_by Twice refusal is e =
      let same_refusal : unplaced.Twice ≡ refusal = cc is in
      subst (λ (r : PlaceRefusal). IsOfferUnkept spec s q keeping r) same_refusal (by_book Twice unplaced.Twice e (λ x small. (going, (small, x))))
  unoffered_by TooLong refusal is e =
      let same_refusal : unplaced.Long ≡ refusal = cc is in
      subst (λ (r : PlaceRefusal). IsOfferUnkept spec s q keeping r) same_refusal (by_book TooLong unplaced.Long e (λ x small. (going, (small, x))))

module _ {S : Type 0} (spec : KeepSpec S) (old : BookState) (p : Placement) (before after : Keeper S) (text : List ℕ) (text_is : before.text.items ≡ text)
    (room : old.version < 900000) (going : spec.stopped before.keeping ≡ false) (s : BookRunState) (same : old ≡ s.book) where
  abbrev Unheld : HeldRefusal → Type 0
  Unheld why = IsHeldUnkept spec s p text before.keeping why after.keeping

  -- The reason of the book is the reason of the `held` row, and nothing is kept.
  of_book : (why : RestoreError) (refusal : HeldRefusal) → IsRestoreError old.placements p why → after ≡ before
      → (IsRestoreError s.book.placements p why → s.book.version < 900000 → after.keeping ≡ before.keeping → Unheld refusal) → Unheld refusal
  of_book why refusal is unwritten next =
      next (subst (λ (b : BookState). IsRestoreError b.placements p why) same is) (subst (λ (b : BookState). b.version < 900000) same room) (ap (λ (x : Keeper S). x.keeping) unwritten)

  -- If the book doesn't restore a placement, or the row's text isn't kept, the row is refused for the
  -- right reason.
  pub unheld_by : (why : VersionError RestoreError Unkept) (refusal : HeldRefusal) → refusal_of_restoring why ≡ Some refusal → IsUnrestored (KeeperRefuses spec) old p before why after → Unheld refusal
  unheld_by (version_error.Book unrestored.Memory) refusal is un = absurd (cc is)
  unheld_by (version_error.Book unrestored.SameId) refusal is un =
      let e : unheld.SameId ≡ refusal = cc is in subst Unheld e (of_book unrestored.SameId unheld.SameId un.0 un.1 (λ x small written. (going, written, (small, x))))
  unheld_by (version_error.Book unrestored.Full) refusal is un =
      let e : unheld.Full ≡ refusal = cc is in subst Unheld e (of_book unrestored.Full unheld.Full un.0 un.1 (λ x small written. (going, written, (small, x))))
  unheld_by (version_error.Book unrestored.TooLong) refusal is un =
      let e : unheld.Long ≡ refusal = cc is in subst Unheld e (of_book unrestored.TooLong unheld.Long un.0 un.1 (λ x small written. (going, written, (small, x))))
  unheld_by (version_error.Book unrestored.Twice) refusal is un =
      let e : unheld.Twice ≡ refusal = cc is in subst Unheld e (of_book unrestored.Twice unheld.Twice un.0 un.1 (λ x small written. (going, written, (small, x))))
  unheld_by (version_error.Book unrestored.TooManyLinks) refusal is un =
      let e : unheld.Links ≡ refusal = cc is in subst Unheld e (of_book unrestored.TooManyLinks unheld.Links un.0 un.1 (λ x small written. (going, written, (small, x))))
  unheld_by (version_error.Taker unkept.Memory) refusal is un = absurd (cc is)
  unheld_by (version_error.Taker (unkept.Failed why)) refusal is (may, batch, moves, refuses) =
      let e : unheld.Failed why ≡ refusal = cc is in
      subst Unheld e (
        going,
        subst (λ (b : BookState). b.version < 900000) same room,
        subst (λ (b : BookState). MayBeAdded b.placements p) same may,
        (batch, subst (λ (b : BookState). LeadsTo b batch (after_restoring b p)) same moves.leads, subst (λ (x : List ℕ). spec.fails before.keeping x batch why after.keeping) text_is refuses),
      )

-- If memory is refused, nothing is kept.
pub unheld_memory : {S : Type 0} (spec : KeepSpec S) (old : BookState) (p : Placement) (before after : Keeper S) (why : VersionError RestoreError Unkept) → refusal_of_restoring why ≡ None
    → IsUnrestored (KeeperRefuses spec) old p before why after → after.keeping ≡ before.keeping
unheld_memory {S} spec old p before after (version_error.Book why) is un = ap (λ (x : Keeper S). x.keeping) un.1
unheld_memory spec old p before after (version_error.Taker unkept.Memory) is (may, batch, moves, refuses) = refuses
unheld_memory spec old p before after (version_error.Taker (unkept.Failed why)) is un = absurd (cc is)

-- ---- what the code does for a `held` row

module _ {S : Type 0} (spec : KeepSpec S) (fields : List (List ℕ)) (text : List ℕ) (text_is : text ≡ own_text fields) where
  -- The text of a `held` row isn't kept.
  held_failed : (s : BookRunState) (p : Placement) (why : WriteFault) (line : List ℕ) (k k' : S) → IsHeldUnkept spec s p text k (unheld.Failed why) k'
      → line ≡ refused_held_line (id_of p) (unheld.Failed why) → IsRowFailed spec s fields (book_row.Held p) line (after_refusal s) k k'
  held_failed s p why line k k' (going, room, may, cut) line_is = record {
    why = why;
    lines = held_lines s p;
    next = after_held s p;
    going = going;
    accepted = inl (room, may, refl, refl);
    cut_off = cut_row spec fields text text_is why s.book (after_held s p).book k k' cut;
    refused = (line_is, refl);
  }

  held_unkept : (s : BookRunState) (p : Placement) (why : HeldRefusal) (line : List ℕ) (k k' : S) → IsHeldUnkept spec s p text k why k'
      → line ≡ refused_held_line (id_of p) why → IsRowDone spec s fields (book_row.Held p) line (after_refusal s) k k'
  held_unkept s p unheld.Stopped line k k' is line_is = inr (inr (is.0, (line_is, refl), is.1))
  held_unkept s p (unheld.Failed why) line k k' is line_is = inr (inl (held_failed s p why line k k' is line_is))
  held_unkept s p why line k k' is line_is =
      inl (is.0, inr (why, is.2, line_is, refl), inl (refl, is.1))

  held_lost_as : (s : BookRunState) (p : Placement) (why : HeldRefusal) (k k' : S) → IsHeldUnkept spec s p text k why k'
      → (k' ≡ k) ⊎ ((line : List ℕ) × (t : BookRunState) × IsRowFailed spec s fields (book_row.Held p) line t k k')
  held_lost_as s p unheld.Stopped k k' is = inl is.1
  held_lost_as s p (unheld.Failed why) k k' is = inr (refused_held_line (id_of p) (unheld.Failed why), after_refusal s, held_failed s p why (refused_held_line (id_of p) (unheld.Failed why)) k k' is refl)
  held_lost_as s p why k k' is = inl is.1

  -- If memory is refused for the line that refuses a `held` row, nothing is kept, or the row's
  -- text isn't kept.
  pub held_lost : (k : Rows (BookSinkState S)) (keeping : S) (p : Placement) (why : HeldRefusal)
      → ((s : BookRunState) → k.sink.book ≡ s.book → IsHeldUnkept spec s p text k.sink.keeping why keeping) → (s : BookRunState) → KeepsBook k s
      → (keeping ≡ k.sink.keeping) ⊎ ((line : List ℕ) × (t : BookRunState) × IsRowFailed spec s fields (book_row.Held p) line t k.sink.keeping keeping)
  held_lost k keeping p why is s kept = held_lost_as s p why k.sink.keeping keeping (is s kept.book)

  module _ (k k' : Rows (BookSinkState S)) (batches : k'.sink.batches ≡ k.sink.batches) (skipped : k'.sink.skipped ≡ k.sink.skipped) (changes : k'.changes ≡ k.changes) where
    -- If the book restores the placement, and the code keeps the row's text, the `held` row is
    -- answered as `IsRowDone` states.
    pub held_done : (p : Placement) (lines : List ℕ) → ((s : BookRunState) → k.sink.book ≡ s.book → k.sink.skipped ≡ s.skipped → IsHeldSaid s p lines k'.sink.book)
        → IsPlacingKept spec k.sink text k'.sink → k'.answers ≡ k.answers → k'.refused ≡ k.refused
        → BookLeads k k' (λ s t. IsRowDone spec s fields (book_row.Held p) lines t k.sink.keeping k'.sink.keeping)
    held_done p lines is written answers refused s kept =
        let done = is s kept.book kept.skipped in (
          after_held s p,
          record {
            book = done.3;
            batches = batches ∙ kept.batches;
            skipped = skipped ∙ kept.skipped;
            changes = rw changes kept.changes;
            answers = answers ∙ kept.answers;
            refused = refused ∙ kept.refused;
          },
          inl (
            written.0,
            inl (done.0, done.1, done.2, refl),
            subst (λ (b : BookState). IsKeptIfNew spec s.book b k.sink.keeping (own_text fields) k'.sink.keeping) done.3
                (kept_row spec fields text text_is k.sink.book k'.sink.book s.book k.sink.keeping k'.sink.keeping kept.book written.1),
          ),
        )

    pub held_refused : k'.sink.book ≡ k.sink.book → k'.answers ≡ k.answers → k'.refused ≡ k.refused + 1 → (p : Placement) (why : HeldRefusal) (line : List ℕ)
        → ((s : BookRunState) → k.sink.book ≡ s.book → IsHeldUnkept spec s p text k.sink.keeping why k'.sink.keeping) → line ≡ refused_held_line (id_of p) why
        → BookLeads k k' (λ s t. IsRowDone spec s fields (book_row.Held p) line t k.sink.keeping k'.sink.keeping)
    held_refused book answers refused p why line is line_is s kept = (
      after_refusal s,
      after_refused k k' batches skipped changes book answers refused s kept,
      held_unkept s p why line k.sink.keeping k'.sink.keeping (is s kept.book) line_is,
    )

-- ---- what the code does for rows that leave the book unchanged

module _ {S : Type 0} (spec : KeepSpec S) (fields : List (List ℕ)) (k k' : Rows (BookSinkState S)) (sink : k'.sink ≡ k.sink) (changes : k'.changes ≡ k.changes) where
  abbrev same_keeping : k'.sink.keeping ≡ k.sink.keeping
  same_keeping = ap (λ (x : BookSinkState S). x.keeping) sink

  -- The book is unchanged, so nothing is kept.
  none_kept : (s t : BookRunState) (row : BookRow) → t.book ≡ s.book → IsKeptIfNew spec s.book t.book k.sink.keeping (text_of_row s fields (Ok row)) k'.sink.keeping
  none_kept s t row same = inl (same, same_keeping)

  keeps_with : (answers refused : ℕ) → k'.answers ≡ answers → k'.refused ≡ refused → (s : BookRunState) → KeepsBook k s → (t : BookRunState) → t.book ≡ s.book → t.batches ≡ s.batches → t.skipped ≡ s.skipped → t.changes ≡ s.changes
      → t.answers ≡ answers → t.refused ≡ refused → KeepsBook k' t
  keeps_with answers refused a r s kept t book batches skipped same_changes ta tr = record {
    book = ap (λ (x : BookSinkState S). x.book) sink ∙ kept.book ∙ sym book;
    batches = ap (λ (x : BookSinkState S). x.batches) sink ∙ kept.batches ∙ sym batches;
    skipped = ap (λ (x : BookSinkState S). x.skipped) sink ∙ kept.skipped ∙ sym skipped;
    changes = rw changes (rw same_changes kept.changes);
    answers = a ∙ sym ta;
    refused = r ∙ sym tr;
  }

  -- Lines name the present version of the book alike in the code's state and in that of the run.
  name_same : (s : BookRunState) → KeepsBook k s → k.sink.book.version - k.sink.skipped ≡ name_of s s.book.version
  name_same s kept = ap (λ (b : BookState). b.version - k.sink.skipped) kept.book ∙ ap (λ (n : ℕ). s.book.version - n) kept.skipped

  -- An `offer` row is answered.
  pub offer_done : (q : Request) (hold : ℕ) (line : List ℕ) → ((s : BookRunState) → k.sink.book ≡ s.book → k.sink.skipped ≡ s.skipped → IsOfferAnswered s q hold line) → spec.stopped k.sink.keeping ≡ false
      → k'.answers ≡ k.answers + 1 → k'.refused ≡ k.refused → BookLeads k k' (λ s t. IsRowDone spec s fields (book_row.Offer q hold) line t k.sink.keeping k'.sink.keeping)
  offer_done q hold line is going answers refused s kept = (
    after_answer s s.book,
    keeps_with (k.answers + 1) k.refused answers refused s kept (after_answer s s.book) refl refl refl refl (ap (λ n. n + 1) (sym kept.answers)) (sym kept.refused),
    inl (going, inl (is s kept.book kept.skipped, refl), none_kept s (after_answer s s.book) (book_row.Offer q hold) refl),
  )

  refused_keeps : k'.answers ≡ k.answers → k'.refused ≡ k.refused + 1 → (s : BookRunState) → KeepsBook k s → KeepsBook k' (after_refusal s)
  refused_keeps answers refused s kept =
      keeps_with k.answers (k.refused + 1) answers refused s kept (after_refusal s) refl refl refl refl (sym kept.answers) (ap (λ n. n + 1) (sym kept.refused))

  unoffered : (s : BookRunState) (q : Request) (hold : ℕ) (why : PlaceRefusal) (line : List ℕ) → IsOfferUnkept spec s q k.sink.keeping why → line ≡ refused_offer_line q.id why
      → IsRowDone spec s fields (book_row.Offer q hold) line (after_refusal s) k.sink.keeping k'.sink.keeping
  unoffered s q hold unplaced.Stopped line stops line_is = inr (inr (stops, (line_is, refl), same_keeping))
  unoffered s q hold why line (going, refusal) line_is = inl (going, inr (why, refusal, line_is, refl), none_kept s (after_refusal s) (book_row.Offer q hold) refl)

  -- An `offer` row is refused.
  pub offer_refused : k'.answers ≡ k.answers → k'.refused ≡ k.refused + 1 → (q : Request) (hold : ℕ) (why : PlaceRefusal) (line : List ℕ)
      → ((s : BookRunState) → k.sink.book ≡ s.book → IsOfferUnkept spec s q k.sink.keeping why) → line ≡ refused_offer_line q.id why
      → BookLeads k k' (λ s t. IsRowDone spec s fields (book_row.Offer q hold) line t k.sink.keeping k'.sink.keeping)
  offer_refused answers refused q hold why line is line_is s kept =
      (after_refusal s, refused_keeps answers refused s kept, unoffered s q hold why line (is s kept.book) line_is)

  -- A row that only looks is answered in the same way, whether or not it was stopped.
  looked : (s t : BookRunState) (row : BookRow) (line : List ℕ) → t.book ≡ s.book → IsBookRowTaken s row line t → IsTakenStopped s row line t
      → IsRowDone spec s fields row line t k.sink.keeping k'.sink.keeping
  looked s t row line same taken stopped = elim (cases_Bool (spec.stopped k.sink.keeping)) [
    | inl stops ↦ inr (inr (stops, stopped, same_keeping))
    | inr going ↦ inl (going, taken, none_kept s t row same)
  ]

  module _ (id : ℕ) (line : List ℕ) where
    abbrev ShowDone : Type 0
    ShowDone = BookLeads k k' (λ s t. IsRowDone spec s fields (book_row.Show id) line t k.sink.keeping k'.sink.keeping)

    look_at : (s t : BookRunState) (found : Option Placement) → found ≡ placement_of id s.book.placements → t.book ≡ s.book → IsShown s id found line t
        → IsRowDone spec s fields (book_row.Show id) line t k.sink.keeping k'.sink.keeping
    look_at s t found is same shown =
        let taken : IsShown s id (placement_of id s.book.placements) line t = subst (λ (f : Option Placement). IsShown s id f line t) is shown in
        looked s t (book_row.Show id) line same taken taken

    pub show_done : k'.answers ≡ k.answers → k'.refused ≡ k.refused → (p : Placement) (version : ℕ) → Some p ≡ placement_of id k.sink.book.placements → version ≡ k.sink.book.version - k.sink.skipped → line ≡ show_line version p → ShowDone
    show_done answers refused p version found version_is line_is s kept = (
      s,
      keeps_with k.answers k.refused answers refused s kept s refl refl refl refl (sym kept.answers) (sym kept.refused),
      look_at s s (Some p) (found ∙ ap (λ (b : BookState). placement_of id b.placements) kept.book) refl (line_is ∙ ap (λ (n : ℕ). show_line n p) (version_is ∙ name_same s kept), refl),
    )

    pub show_refused : k'.answers ≡ k.answers → k'.refused ≡ k.refused + 1 → None ≡ placement_of id k.sink.book.placements → line ≡ refused_show_line id → ShowDone
    show_refused answers refused found line_is s kept = (
      after_refusal s,
      refused_keeps answers refused s kept,
      look_at s (after_refusal s) None (found ∙ ap (λ (b : BookState). placement_of id b.placements) kept.book) refl (line_is, refl),
    )

  module _ (from local : ℕ) (line : List ℕ) where
    abbrev LeftDone : Type 0
    LeftDone = BookLeads k k' (λ s t. IsRowDone spec s fields (book_row.Left from local) line t k.sink.keeping k'.sink.keeping)

    abbrev figures_of_book : BookState → Option LinkFigures
    figures_of_book b = figures_at b.base b.placements (from, local)

    look_left : (s t : BookRunState) (found : Option LinkFigures) → found ≡ figures_of_book s.book → t.book ≡ s.book → IsLeftShown s (from, local) found line t
        → IsRowDone spec s fields (book_row.Left from local) line t k.sink.keeping k'.sink.keeping
    look_left s t found is same shown =
        let taken : IsLeftShown s (from, local) (figures_of_book s.book) line t = subst (λ (f : Option LinkFigures). IsLeftShown s (from, local) f line t) is shown in
        looked s t (book_row.Left from local) line same taken taken

    pub left_done : k'.answers ≡ k.answers → k'.refused ≡ k.refused → (figures : LinkFigures) (version : ℕ) → Some figures ≡ figures_of_book k.sink.book → version ≡ k.sink.book.version - k.sink.skipped
        → line ≡ left_line from local version figures → LeftDone
    left_done answers refused figures version found version_is line_is s kept = (
      s,
      keeps_with k.answers k.refused answers refused s kept s refl refl refl refl (sym kept.answers) (sym kept.refused),
      look_left s s (Some figures) (found ∙ ap figures_of_book kept.book) refl (line_is ∙ ap (λ (n : ℕ). left_line from local n figures) (version_is ∙ name_same s kept), refl),
    )

    pub left_refused : k'.answers ≡ k.answers → k'.refused ≡ k.refused + 1 → None ≡ figures_of_book k.sink.book → line ≡ refused_left_line from local → LeftDone
    left_refused answers refused found line_is s kept = (
      after_refusal s,
      refused_keeps answers refused s kept,
      look_left s (after_refusal s) None (found ∙ ap figures_of_book kept.book) refl (line_is, refl),
    )
