-- The state of a run after a `place` or `release` row.
use Rattle.std.proofs.Common.{◌≡◌, ◌⊎◌, ℕ, ◌+◌, ◌-◌, ◌<◌, false, List, Some, None, Result, Ok, Err, OnErr, inl, inr, refl, sym, ap, subst, ◌∙◌}
use Rattle.csv.specs.Writing.{default_writer, row_text}
use Rattle.cspf_model.specs.Best.{Answer, route, IsBestAnswer}
use Rattle.cspf_model.specs.declared.request.Request.{Request}
use Rattle.cspf_stream.specs.declared.rows.Rows.{Rows}
use Rattle.cspf_model.specs.Numbered.{NumberedChanges}
use Rattle.cspf_book.specs.BookState.{BookState, effective_beside, HasRoomFor, IsAnswerPlaced, IsPlaceError}
use Rattle.cspf_book.specs.Takings.{IsPlacingTaken, IsUnplaced}
use Rattle.cspf_book.specs.declared.error.VersionError.{VersionError}
use Rattle.cspf_book.specs.declared.error.VersionError.TheVariants as version_error
use Rattle.cspf_book.specs.declared.error.PlaceError.{PlaceError}
use Rattle.cspf_book.specs.declared.error.PlaceError.TheVariants.{Memory, Full, TooManyLinks, Twice, TooLong}
use Rattle.cspf_book_run.specs.declared.book_row.BookRow.TheVariants as book_row
use Rattle.cspf_book_run.specs.declared.keeper.Keeper.{Keeper}
use Rattle.cspf_book_run.specs.declared.keeper.Unkept.{Unkept}
use Rattle.cspf_book_run.specs.declared.keeper.Unkept.TheVariants as unkept
use Rattle.cspf_book_run.specs.declared.refusals.PlaceRefusal.{PlaceRefusal}
use Rattle.cspf_book_run.specs.declared.refusals.ReleaseRefusal.{ReleaseRefusal}
use Rattle.cspf_book_run.specs.declared.refusals.ReleaseRefusal.TheVariants as unreleased
use Rattle.cspf_book_run.specs.BookLines.{IsPlaceReply, refused_place_line, refused_release_line, released_line}
use Rattle.cspf_book_run.specs.BookScript.{BookRunState, IsPlaceAnswered, after_answer, after_refusal, after_release}
use Rattle.cspf_book.specs.Leading.{LeadsTo}
use Rattle.cspf_book_run.specs.BookSinks.{BookSinkState, IsPlacingKept, IsPlaceUnkept, IsReleased, IsReleaseUnkept}
use Rattle.cspf_book_run.specs.BookStates.{KeepsBook, BookLeads}
use Rattle.cspf_book_run.specs.Keeping.{KeepSpec, IsLineOf, IsKeptIfNew, IsCutWith, IsUnkept, IsUnrouted}
use Rattle.cspf_book_run.specs.KeptStates.{IsRowDone, IsRowFailed}
use Rattle.cspf_book_run.specs.PlaceErrors.{refusal_of_placing}
use Rattle.cspf_book_run.specs.declared.refusals.PlaceRefusal.TheVariants as unplaced
use Rattle.cspf_book_run.proofs.ReplyLines.{line_of_route}
use Rattle.cspf_book_run.specs.declared.write_fault.WriteFault.{WriteFault}

-- ---- what the book does for a row

-- If the book finds the best answer to a request and places the request, the `place` row is answered
-- as `IsPlaceAnswered` states.
pub placed : (old new : BookState) (skipped : ℕ) (q : Request) (hold : ℕ) (answer : Answer) (version : ℕ) (line : List ℕ)
    → old.version < 900000 → HasRoomFor old q.id → IsBestAnswer (effective_beside old q.id) q answer → IsAnswerPlaced old q hold answer new
    → version ≡ new.version - skipped → IsPlaceReply q.id version answer line → (s : BookRunState) → old ≡ s.book → skipped ≡ s.skipped → IsPlaceAnswered s q hold line new
placed old new skipped q hold answer version line room few best is is_version reply s same same_skipped = record {
  room = subst (λ (b : BookState). b.version < 900000) same room;
  few = subst (λ (b : BookState). HasRoomFor b q.id) same few;
  answer = answer;
  best = subst (λ (b : BookState). IsBestAnswer (effective_beside b q.id) q answer) same best;
  placed = subst (λ (b : BookState). IsAnswerPlaced b q hold answer new) same is;
  reply = subst (λ (n : ℕ). IsPlaceReply q.id n answer line) (is_version ∙ ap (λ (n : ℕ). new.version - n) same_skipped) reply;
}

-- ---- what the book and the writer do for a `place` row

-- what the keeper of a run does with a batch that it refuses, and with the batch of a placing
abbrev pub KeeperRefuses : {S : Type 0} → KeepSpec S → Keeper S → NumberedChanges → Unkept → Keeper S → Type 0
KeeperRefuses spec before b why after = IsUnkept spec before.keeping before.text.items b why after.keeping

abbrev KeeperPlaces : {S : Type 0} → KeepSpec S → Keeper S → NumberedChanges → Answer → Keeper S → Type 0
KeeperPlaces spec before b answer after =
    spec.keeps before.keeping before.text.items b after.keeping × IsPlaceReply before.id before.named answer after.line.items

-- If the answer isn't a route, the book is unchanged.
pub same_book : (old new : BookState) (q : Request) (hold : ℕ) (answer : Answer) → IsUnrouted answer → IsAnswerPlaced old q hold answer new → new ≡ old
same_book old new q hold (route walk) none placed = absurd none
same_book old new q hold other none placed = placed

-- The sink is unchanged if its book and what keeps the texts are.
pub same_sink : {S : Type 0} (old new : BookState) (batches skipped : ℕ) (keeping kept : S) (was : BookSinkState S) → record { book = old; batches = batches; skipped = skipped; keeping = keeping } ≡ was → new ≡ old
    → kept ≡ keeping → record { book = new; batches = batches; skipped = skipped; keeping = kept } ≡ was
same_sink old new batches skipped keeping kept was is book same = (λ i. record { book = book i; batches = batches; skipped = skipped; keeping = same i }) ∙ is

module _ {S : Type 0} (spec : KeepSpec S) (old new : BookState) (q : Request) (hold : ℕ) (before after : Keeper S) where
  -- If the answer isn't a route, nothing is kept.
  pub same_keeping : (answer : Answer) → IsUnrouted answer → IsPlacingTaken (KeeperPlaces spec) old q.id before answer new after → after.keeping ≡ before.keeping
  same_keeping (route walk) none taken = absurd none
  same_keeping other none taken = ap (λ (x : Keeper S). x.keeping) taken

  -- The line of the row, which was made before the write if the answer is a route.
  pub line_is : (answer : Answer) (skipped version : ℕ) (line : List ℕ) → before.id ≡ q.id → before.named ≡ old.version + 1 - skipped → version ≡ new.version - skipped → IsPlacingTaken (KeeperPlaces spec) old q.id before answer new after
      → IsLineOf after.line.items after.id version answer line → IsPlaceReply q.id version answer line
  line_is (route walk) skipped version line own named is (b, moves, taken) made =
      let number : before.named ≡ version = named ∙ ap (λ (n : ℕ). n - skipped) (sym moves.leads.version) ∙ sym is in
      rw made (subst (λ (n : ℕ). IsPlaceReply n version (route walk) after.line.items) own (subst (λ (n : ℕ). IsPlaceReply before.id n (route walk) after.line.items) number taken.1))
  line_is other skipped version line own named is taken made = subst (λ (n : ℕ). IsPlaceReply n version other line) (ap (λ (x : Keeper S). x.id) taken ∙ own) made

  -- The row's text is kept if the book has a new version, and otherwise nothing is kept.
  pub kept_text : (answer : Answer) (text : List ℕ) → before.text.items ≡ text → IsAnswerPlaced old q hold answer new → IsPlacingTaken (KeeperPlaces spec) old q.id before answer new after
      → IsKeptIfNew spec old new before.keeping text after.keeping
  kept_text (route walk) text text_is along (b, moves, taken) =
      inr (b, moves.leads, subst (λ (x : List ℕ). spec.keeps before.keeping x b after.keeping) text_is taken.0)
  kept_text other text text_is same taken = inl (same, ap (λ (x : Keeper S). x.keeping) taken)

  -- If memory is refused, nothing is kept.
  pub unchanged : (why : VersionError PlaceError Unkept) → refusal_of_placing why ≡ None → IsUnplaced (KeeperRefuses spec) old q hold before why after → after.keeping ≡ before.keeping
  unchanged (version_error.Book why) is un = ap (λ (x : Keeper S). x.keeping) un.1
  unchanged (version_error.Taker unkept.Memory) is un = un.refused
  unchanged (version_error.Taker (unkept.Failed why)) is un = absurd (cc is)

  -- If the book doesn't place a request, or the row's text isn't kept, the row is refused for the right
  -- reason.
  pub unplaced_by : (text : List ℕ) → before.text.items ≡ text → old.version < 900000 → spec.stopped before.keeping ≡ false → (why : VersionError PlaceError Unkept) (refusal : PlaceRefusal)
      → refusal_of_placing why ≡ Some refusal → IsUnplaced (KeeperRefuses spec) old q hold before why after
      → (s : BookRunState) → old ≡ s.book → IsPlaceUnkept spec s q hold text before.keeping refusal after.keeping
  unplaced_by text text_is room going (version_error.Book Memory) refusal is un s same = absurd (cc is)
  unplaced_by text text_is room going (version_error.Book Full) refusal is un s same =
      let e : unplaced.Full ≡ refusal = cc is in
      subst (λ (r : PlaceRefusal). IsPlaceUnkept spec s q hold text before.keeping r after.keeping) e
      (going, ap (λ (x : Keeper S). x.keeping) un.1, (subst (λ (b : BookState). b.version < 900000) same room, subst (λ (b : BookState). IsPlaceError b q Full) same un.0))
  unplaced_by text text_is room going (version_error.Book TooManyLinks) refusal is un s same =
      let e : unplaced.Links ≡ refusal = cc is in
      subst (λ (r : PlaceRefusal). IsPlaceUnkept spec s q hold text before.keeping r after.keeping) e
      (going, ap (λ (x : Keeper S). x.keeping) un.1, (subst (λ (b : BookState). b.version < 900000) same room, subst (λ (b : BookState). IsPlaceError b q TooManyLinks) same un.0))
  unplaced_by text text_is room going (version_error.Book Twice) refusal is un s same =
      let e : unplaced.Twice ≡ refusal = cc is in
      subst (λ (r : PlaceRefusal). IsPlaceUnkept spec s q hold text before.keeping r after.keeping) e
      (going, ap (λ (x : Keeper S). x.keeping) un.1, (subst (λ (b : BookState). b.version < 900000) same room, subst (λ (b : BookState). IsPlaceError b q Twice) same un.0))
  unplaced_by text text_is room going (version_error.Book TooLong) refusal is un s same =
      let e : unplaced.Long ≡ refusal = cc is in
      subst (λ (r : PlaceRefusal). IsPlaceUnkept spec s q hold text before.keeping r after.keeping) e
      (going, ap (λ (x : Keeper S). x.keeping) un.1, (subst (λ (b : BookState). b.version < 900000) same room, subst (λ (b : BookState). IsPlaceError b q TooLong) same un.0))
  unplaced_by text text_is room going (version_error.Taker unkept.Memory) refusal is un s same = absurd (cc is)
  unplaced_by text text_is room going (version_error.Taker (unkept.Failed why)) refusal is un s same =
      let e : unplaced.Failed why ≡ refusal = cc is in
      let line = line_of_route q.id (un.t.version - s.skipped) un.walk in
      subst (λ (r : PlaceRefusal). IsPlaceUnkept spec s q hold text before.keeping r after.keeping) e (
        going,
        line.0,
        un.t,
        placed old un.t s.skipped q hold (route un.walk) (un.t.version - s.skipped) line.0 room un.room un.best un.placed refl line.1 s same refl,
        (un.batch, subst (λ (b : BookState). LeadsTo b un.batch un.t) same un.moves.leads, subst (λ (x : List ℕ). spec.fails before.keeping x un.batch why after.keeping) text_is un.refused),
      )

-- ---- errors

-- A fact that holds in any case also holds after an error.
pub on_err : {T E : Type 0} (r : Result T E) (P : Type 0) → P → OnErr r P
on_err (Ok x) P p = tt
on_err (Err e) P p = p

-- ---- what the code does for a refused row

-- If the code counts a refusal and leaves the book unchanged, the next state of the run is
-- `after_refusal`.
pub after_refused : {S : Type 0} (k k' : Rows (BookSinkState S)) → k'.sink.batches ≡ k.sink.batches → k'.sink.skipped ≡ k.sink.skipped → k'.changes ≡ k.changes → k'.sink.book ≡ k.sink.book
    → k'.answers ≡ k.answers → k'.refused ≡ k.refused + 1 → (s : BookRunState) → KeepsBook k s → KeepsBook k' (after_refusal s)
after_refused k k' batches skipped changes book answers refused s kept = record {
  book = book ∙ kept.book;
  batches = batches ∙ kept.batches;
  skipped = skipped ∙ kept.skipped;
  changes = rw changes kept.changes;
  answers = answers ∙ kept.answers;
  refused = refused ∙ ap (λ n. n + 1) kept.refused;
}

-- If a row couldn't be read, the code counts a refusal and changes nothing else.
pub refusal_counted : {S : Type 0} (k k' : Rows (BookSinkState S)) → k'.sink ≡ k.sink → k'.changes ≡ k.changes → k'.answers ≡ k.answers → k'.refused ≡ k.refused + 1
    → (line text : List ℕ) → line ≡ text → BookLeads k k' (λ s t. ((line ≡ text) × (t ≡ after_refusal s)) × (k'.sink.keeping ≡ k.sink.keeping))
refusal_counted {S} k k' sink changes answers refused line text line_is s kept = (
  after_refusal s,
  after_refused k k' (ap (λ (x : BookSinkState S). x.batches) sink) (ap (λ (x : BookSinkState S). x.skipped) sink) changes (ap (λ (x : BookSinkState S). x.book) sink) answers refused s kept,
  ((line_is, refl), ap (λ (x : BookSinkState S). x.keeping) sink),
)

-- ---- what the code does for a row

-- the text of a row about a placement
abbrev pub own_text : List (List ℕ) → List ℕ
own_text fields = row_text default_writer fields

module _ {S : Type 0} (spec : KeepSpec S) (fields : List (List ℕ)) (text : List ℕ) (text_is : text ≡ own_text fields) where
  -- The text that is kept for a row that is accepted or leaves the book unchanged.
  pub kept_row : (old new s : BookState) (k k' : S) → old ≡ s → IsKeptIfNew spec old new k text k' → IsKeptIfNew spec s new k (own_text fields) k'
  kept_row old new s k k' same kept =
      subst (λ (b : BookState). IsKeptIfNew spec b new k (own_text fields) k') same (subst (λ (x : List ℕ). IsKeptIfNew spec old new k x k') text_is kept)

  pub cut_row : (why : WriteFault) (s t : BookState) (k k' : S) → IsCutWith spec s t why k text k' → IsCutWith spec s t why k (own_text fields) k'
  cut_row why s t k k' cut = subst (λ (x : List ℕ). IsCutWith spec s t why k x k') text_is cut

  -- The text of a `place` row isn't kept.
  place_failed : (s : BookRunState) (q : Request) (hold : ℕ) (why : WriteFault) (line : List ℕ) (k k' : S) → IsPlaceUnkept spec s q hold text k (unplaced.Failed why) k'
      → line ≡ refused_place_line q.id (unplaced.Failed why) → IsRowFailed spec s fields (book_row.Place q hold) line (after_refusal s) k k'
  place_failed s q hold why line k k' (going, lines, book, answered, cut) line_is = record {
    why = why;
    lines = lines;
    next = after_answer s book;
    going = going;
    accepted = inl (answered, refl);
    cut_off = cut_row why s.book book k k' cut;
    refused = (line_is, refl);
  }

  release_failed : (s : BookRunState) (id : ℕ) (why : WriteFault) (line : List ℕ) (k k' : S) → IsReleaseUnkept spec s id text k (unreleased.Failed why) k'
      → line ≡ refused_release_line id (unreleased.Failed why) → IsRowFailed spec s fields (book_row.Release id) line (after_refusal s) k k'
  release_failed s id why line k k' (going, room, has, cut) line_is = record {
    why = why;
    lines = released_line id (s.book.version + 1 - s.skipped);
    next = after_release s id;
    going = going;
    accepted = inl (room, has, refl, refl);
    cut_off = cut_row why s.book (after_release s id).book k k' cut;
    refused = (line_is, refl);
  }

  place_unkept : (s : BookRunState) (q : Request) (hold : ℕ) (why : PlaceRefusal) (line : List ℕ) (k k' : S) → IsPlaceUnkept spec s q hold text k why k'
      → line ≡ refused_place_line q.id why → IsRowDone spec s fields (book_row.Place q hold) line (after_refusal s) k k'
  place_unkept s q hold unplaced.Stopped line k k' is line_is = inr (inr (is.0, (line_is, refl), is.1))
  place_unkept s q hold (unplaced.Failed why) line k k' is line_is = inr (inl (place_failed s q hold why line k k' is line_is))
  place_unkept s q hold why line k k' is line_is =
      inl (is.0, inr (why, is.2, line_is, refl), inl (refl, is.1))

  release_unkept : (s : BookRunState) (id : ℕ) (why : ReleaseRefusal) (line : List ℕ) (k k' : S) → IsReleaseUnkept spec s id text k why k'
      → line ≡ refused_release_line id why → IsRowDone spec s fields (book_row.Release id) line (after_refusal s) k k'
  release_unkept s id unreleased.Stopped line k k' is line_is = inr (inr (is.0, (line_is, refl), is.1))
  release_unkept s id (unreleased.Failed why) line k k' is line_is = inr (inl (release_failed s id why line k k' is line_is))
  release_unkept s id why line k k' is line_is =
      inl (is.0, inr (why, is.2, line_is, refl), inl (refl, is.1))

  place_lost_as : (s : BookRunState) (q : Request) (hold : ℕ) (why : PlaceRefusal) (k k' : S) → IsPlaceUnkept spec s q hold text k why k'
      → (k' ≡ k) ⊎ ((line : List ℕ) × (t : BookRunState) × IsRowFailed spec s fields (book_row.Place q hold) line t k k')
  place_lost_as s q hold unplaced.Stopped k k' is = inl is.1
  place_lost_as s q hold (unplaced.Failed why) k k' is = inr (refused_place_line q.id (unplaced.Failed why), after_refusal s, place_failed s q hold why (refused_place_line q.id (unplaced.Failed why)) k k' is refl)
  place_lost_as s q hold why k k' is = inl is.1

  release_lost_as : (s : BookRunState) (id : ℕ) (why : ReleaseRefusal) (k k' : S) → IsReleaseUnkept spec s id text k why k'
      → (k' ≡ k) ⊎ ((line : List ℕ) × (t : BookRunState) × IsRowFailed spec s fields (book_row.Release id) line t k k')
  release_lost_as s id unreleased.Stopped k k' is = inl is.1
  release_lost_as s id (unreleased.Failed why) k k' is = inr (refused_release_line id (unreleased.Failed why), after_refusal s, release_failed s id why (refused_release_line id (unreleased.Failed why)) k k' is refl)
  release_lost_as s id why k k' is = inl is.1

  -- If memory is refused for the line that refuses a `place` or `release` row, nothing is kept,
  -- or the row's text isn't kept.
  pub place_lost : (k : Rows (BookSinkState S)) (keeping : S) (q : Request) (hold : ℕ) (why : PlaceRefusal)
      → ((s : BookRunState) → k.sink.book ≡ s.book → IsPlaceUnkept spec s q hold text k.sink.keeping why keeping) → (s : BookRunState) → KeepsBook k s
      → (keeping ≡ k.sink.keeping) ⊎ ((line : List ℕ) × (t : BookRunState) × IsRowFailed spec s fields (book_row.Place q hold) line t k.sink.keeping keeping)
  place_lost k keeping q hold why is s kept = place_lost_as s q hold why k.sink.keeping keeping (is s kept.book)

  pub release_lost : (k : Rows (BookSinkState S)) (keeping : S) (id : ℕ) (why : ReleaseRefusal)
      → ((s : BookRunState) → k.sink.book ≡ s.book → IsReleaseUnkept spec s id text k.sink.keeping why keeping) → (s : BookRunState) → KeepsBook k s
      → (keeping ≡ k.sink.keeping) ⊎ ((line : List ℕ) × (t : BookRunState) × IsRowFailed spec s fields (book_row.Release id) line t k.sink.keeping keeping)
  release_lost k keeping id why is s kept = release_lost_as s id why k.sink.keeping keeping (is s kept.book)

  module _ (k k' : Rows (BookSinkState S)) (batches : k'.sink.batches ≡ k.sink.batches) (skipped : k'.sink.skipped ≡ k.sink.skipped) (changes : k'.changes ≡ k.changes) where
    -- If the book answers a request, and the code keeps the row's text and counts an answer, the
    -- `place` row is answered as `IsRowDone` states.
    pub place_answered : (q : Request) (hold : ℕ) (line : List ℕ) → ((s : BookRunState) → k.sink.book ≡ s.book → k.sink.skipped ≡ s.skipped → IsPlaceAnswered s q hold line k'.sink.book)
        → IsPlacingKept spec k.sink text k'.sink → k'.answers ≡ k.answers + 1 → k'.refused ≡ k.refused
        → BookLeads k k' (λ s t. IsRowDone spec s fields (book_row.Place q hold) line t k.sink.keeping k'.sink.keeping)
    place_answered q hold line is written answers refused s kept = (
      after_answer s k'.sink.book,
      record {
        book = refl;
        batches = batches ∙ kept.batches;
        skipped = skipped ∙ kept.skipped;
        changes = rw changes kept.changes;
        answers = answers ∙ ap (λ n. n + 1) kept.answers;
        refused = refused ∙ kept.refused;
      },
      inl (written.0, inl (is s kept.book kept.skipped, refl), kept_row k.sink.book k'.sink.book s.book k.sink.keeping k'.sink.keeping kept.book written.1),
    )

    -- If the book releases the placement with this id, and the code keeps the row's text, the
    -- `release` row is answered as `IsRowDone` states.
    pub release_done : (id : ℕ) (line : List ℕ) → ((s : BookRunState) → k.sink.book ≡ s.book → k.sink.skipped ≡ s.skipped → IsReleased s id line k'.sink.book)
        → IsPlacingKept spec k.sink text k'.sink → k'.answers ≡ k.answers → k'.refused ≡ k.refused
        → BookLeads k k' (λ s t. IsRowDone spec s fields (book_row.Release id) line t k.sink.keeping k'.sink.keeping)
    release_done id line is written answers refused s kept =
        let done = is s kept.book kept.skipped in (
          after_release s id,
          record {
            book = done.3;
            batches = batches ∙ kept.batches;
            skipped = skipped ∙ kept.skipped;
            changes = rw changes kept.changes;
            answers = answers ∙ kept.answers;
            refused = refused ∙ kept.refused;
          },
          inl (
            written.0,
            inl (done.0, done.1, done.2, refl),
            subst (λ (b : BookState). IsKeptIfNew spec s.book b k.sink.keeping (own_text fields) k'.sink.keeping) done.3
                (kept_row k.sink.book k'.sink.book s.book k.sink.keeping k'.sink.keeping kept.book written.1),
          ),
        )

    module _ (book : k'.sink.book ≡ k.sink.book) (answers : k'.answers ≡ k.answers) (refused : k'.refused ≡ k.refused + 1) where
      pub place_refused : (q : Request) (hold : ℕ) (why : PlaceRefusal) (line : List ℕ)
          → ((s : BookRunState) → k.sink.book ≡ s.book → IsPlaceUnkept spec s q hold text k.sink.keeping why k'.sink.keeping) → line ≡ refused_place_line q.id why
          → BookLeads k k' (λ s t. IsRowDone spec s fields (book_row.Place q hold) line t k.sink.keeping k'.sink.keeping)
      place_refused q hold why line is line_is s kept = (
        after_refusal s,
        after_refused k k' batches skipped changes book answers refused s kept,
        place_unkept s q hold why line k.sink.keeping k'.sink.keeping (is s kept.book) line_is,
      )

      pub release_refused : (id : ℕ) (why : ReleaseRefusal) (line : List ℕ)
          → ((s : BookRunState) → k.sink.book ≡ s.book → IsReleaseUnkept spec s id text k.sink.keeping why k'.sink.keeping) → line ≡ refused_release_line id why
          → BookLeads k k' (λ s t. IsRowDone spec s fields (book_row.Release id) line t k.sink.keeping k'.sink.keeping)
      release_refused id why line is line_is s kept = (
        after_refusal s,
        after_refused k k' batches skipped changes book answers refused s kept,
        release_unkept s id why line k.sink.keeping k'.sink.keeping (is s kept.book) line_is,
      )
