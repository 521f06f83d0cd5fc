-- The state of a run's updates changes with each row.
use Rattle.std.proofs.Common.{◌≡◌, ◌≢◌, ℕ, ◌+◌, false, true, Option, List, [], ◌∷◌, ◌++◌, take, length, Result, Ok, Err, inl, inr, refl, sym, ap, subst, ◌∙◌, arith, append-nil, rules}
use Rattle.std.proofs.KnownBytes.{Appends-trans}
use Rattle.std.proofs.lemmas.Bool.{false≢true}
use Rattle.cspf_client.proofs.Prefixes.{IsPrefix-trans}
use Rattle.cspf_model.specs.Laws.{RefusedIsUnfit}
use Rattle.cspf_model.specs.Numbered.{NumberedChanges}
use Rattle.cspf_model.specs.Changes.{database_after}
use Rattle.cspf_model.specs.declared.batch.Change.{Change}
use Rattle.cspf_model.specs.declared.batch.Change.TheVariants as change
use Rattle.cspf_publish.specs.ApplyErrors.{IsApplyError, IsNextBatch}
use Rattle.cspf_publish.specs.PublisherStates.{PublisherState}
use Rattle.cspf_publish.specs.declared.errors.ApplyError.{ApplyError}
use Rattle.cspf_publish.specs.declared.errors.ApplyError.TheVariants as error
use Rattle.cspf_rows.specs.BatchText.{batch_text}
use Rattle.cspf_rows.specs.Rows.{row_of}
use Rattle.cspf_rows.specs.declared.row.Row.{Row}
use Rattle.cspf_rows.specs.declared.row.Row.TheVariants as row
use Rattle.cspf_rows.specs.declared.row_error.RowError.{RowError}
use Rattle.cspf_stream.specs.EndRows.{IsRightEnd, IsStoppedOrWrong}
use Rattle.cspf_stream.specs.Lines.{refused_batch_line}
use Rattle.cspf_stream.specs.OpenChanges.{AreKeptChanges}
use Rattle.cspf_stream.specs.RowsTaken.{RowsState, KeepsRows, RowsLead, IsEndAccepted, IsEndRefused, IsBatchDropped, IsRowTaken, IsRowLost}
use Rattle.cspf_stream.specs.declared.batch_refusal.BatchRefusal.{BatchRefusal}
use Rattle.cspf_stream.specs.declared.batch_refusal.BatchRefusal.TheVariants as refusal
use Rattle.cspf_stream.specs.declared.rows.Rows.{Rows}
use Rattle.cspf_stream.proofs.BatchRefusals.{IsNotAccepted, wrong_end, unfit_end}
use Rattle.cspf_stream.proofs.KeptChanges.{kept_all, refusal_whole}
use Rattle.cspf_solve.specs.Script.{RunState, open_batch, after_change_row, after_refused_row, after_refused_batch, after_reply, IsAccepted}
use Rattle.cspf_serve.specs.Counted.{CountedState, IsPublished}
use Rattle.cspf_serve.specs.LiveWords.{refusal_of}
use Rattle.cspf_serve.specs.Updates.{UpdatesState, IsEndUpdate, IsUpdateAnswered, IsUpdateLost, at_next_update}
use Rattle.cspf_serve.specs.UpdatesStates.{KeptUpdates, ArePublished, KeepsUpdates, IsUpdateTaken, IsUpdateFailed, publisher_spec, after_published}

-- ---- the changes of a batch are a prefix of the open changes

module _ {J : Type 0} (contents : J → Option (List ℕ)) (p q : PublisherState J) (b : NumberedChanges) (all : List Change) (front : AreKeptChanges b.changes all) where
  -- if the batch is the next one that may be published, its changes are all of the open changes
  -- (those that wait for this `end` row)
  all_open : IsNextBatch p b → b.changes ≡ all
  all_open next = kept_all b.changes all front next.follows.fits.short

  pub published_whole : IsPublished contents p q b → IsPublished contents p q (record b { changes = all })
  published_whole is = subst (λ cs. IsPublished contents p q (record { number = b.number; changes = cs })) (all_open is.next) is

  pub apply_error_whole : (why : ApplyError) → IsApplyError contents p q b why → IsApplyError contents p q (record b { changes = all }) why
  apply_error_whole (error.Refused why) is = (is.0, is.1, refusal_whole (database_after p.batches) b.number b.changes all why front is.2, is.3)
  apply_error_whole error.Memory is =
      subst (λ cs. IsApplyError contents p q (record { number = b.number; changes = cs }) error.Memory) (all_open is.0) is
  apply_error_whole (error.Journal written) is =
      subst (λ cs. IsApplyError contents p q (record { number = b.number; changes = cs }) (error.Journal written)) (all_open is.0) is
  apply_error_whole why is = is

-- ---- the answer to a row

-- The publisher's batches are the accepted batches of the state `s`. The changes that the code
-- keeps are the open changes of `s`, which wait for their `end` row.
pub record IsOfUpdates {J : Type 0} (contents : J → Option (List ℕ)) (first : PublisherState J) (r : RowsState (CountedState J)) (s : UpdatesState) : Type 0 where
  pub published : ArePublished contents first r.sink s
  pub changes : r.changes ≡ s.run.changes
  pub refused : r.refused ≡ s.run.refused

-- if two states have the same batches, steps and text, both describe the same publisher
still_published : {J : Type 0} (contents : J → Option (List ℕ)) (first : PublisherState J) (c : CountedState J) (s t : UpdatesState) → ArePublished contents first c s
    → t.run.accepted ≡ s.run.accepted → t.stopped ≡ s.stopped → t.text ≡ s.text → t.steps ≡ s.steps → ArePublished contents first c t
still_published contents first c s t are accepted stopped text steps = search rules

module _ {J : Type 0} (contents : J → Option (List ℕ)) (first : PublisherState J) (unfit : RefusedIsUnfit) (r : RowsState (CountedState J)) (s : UpdatesState) (of : IsOfUpdates contents first r s) where
  -- after a row, the code keeps a state that agrees with `after`, and `Says` holds of `after`
  abbrev Answered : (UpdatesState → Type 0) → RowsState (CountedState J) → Type 0
  Answered Says t = (after : UpdatesState) × IsOfUpdates contents first t after × Says after

  version : length r.sink.publisher.batches ≡ length s.run.accepted
  version = ap length of.published.batches

  module _ (number count : ℕ) (line : List ℕ) (t : RowsState (CountedState J)) where
    right_accepted : IsRightEnd r.sink.publisher.stopped (length r.sink.publisher.batches) (length r.sink.publisher.batches + 1) number count (length r.changes) → IsNextBatch r.sink.publisher (record { number = number; changes = r.changes }) → IsAccepted s.run number count
    right_accepted right next = search rules

    accepted : IsEndAccepted (publisher_spec contents) r number count line t → Answered (IsEndUpdate s.stopped s number count line) t
    accepted a =
        let right = a.taken.0 in
        let is = a.taken.1.0 in
        let now : t.sink.publisher.batches ≡ (after_published s number t.sink.steps.steps).run.accepted = is.batches ∙ rw (of.published.batches, of.changes) refl in
        let goes : s.stopped ≡ false = sym of.published.stopped ∙ right.going in
        let taken = right_accepted right is.next in (
          after_published s number t.sink.steps.steps,
          record {
            published = record {
              source = a.taken.1.1 ∙ of.published.source;
              batches = now;
              stopped = is.going;
              journal = Appends-trans (contents first.journal) (contents r.sink.publisher.journal) (contents t.sink.publisher.journal) s.text _ of.published.journal (rw of.changes at is.recorded);
              steps = ([], append-nil t.sink.steps.steps);
            };
            changes = ap (λ (x : RowsState (CountedState J)). x.changes) a.after;
            refused = ap (λ (x : RowsState (CountedState J)). x.refused) a.after ∙ of.refused;
          },
          rw goes (inl (record {
            answered = inl (taken, a.taken.1.3, refl);
            going = refl;
            published = λ accepted. refl;
            counted = λ accepted. record {
              later = IsPrefix-trans s.steps r.sink.steps.steps t.sink.steps.steps of.published.steps a.taken.1.2.later;
              counted = omega (arith, a.taken.1.2.counted, ap length now);
            };
            refused = λ not. absurd (not taken);
          })),
        )

    -- the `end` row is answered by the line `said`, and its batch is refused
    abbrev IsEnded : CountedState J → List ℕ → Type 0
    IsEnded p said =
        (after : UpdatesState) × ArePublished contents first p after × IsEndUpdate s.stopped s number count said after × (after.run ≡ after_refused_batch s.run)

    -- if a run over one stream of rows would refuse the batch, the run over updates and clients
    -- refuses it by the same line
    refuses : (p : CountedState J) (why : BatchRefusal) → r.sink.publisher.stopped ≡ false → p ≡ r.sink
        → IsNotAccepted (length s.run.accepted) (length s.run.accepted + 1) s.run.changes (database_after s.run.accepted) number count why
        → IsEnded p (refused_batch_line number why)
    refuses p why going same is =
        let goes : s.stopped ≡ false = sym of.published.stopped ∙ going in (
          record { run = after_refused_batch s.run; stopped = false; text = s.text; steps = s.steps },
          rw same (record { source = of.published.source; batches = of.published.batches; stopped = going; journal = of.published.journal; steps = of.published.steps }),
          rw goes (inl (record {
            answered = inr (why, is.0, is.1, refl, refl);
            going = refl;
            published = λ accepted. absurd (is.0 accepted);
            counted = λ accepted. absurd (is.0 accepted);
            refused = λ not. refl;
          })),
          refl,
        )

    not_right : (p : CountedState J) (why : BatchRefusal) → p ≡ r.sink → r.sink.publisher.stopped ≡ false → IsStoppedOrWrong r.sink.publisher.stopped (length r.sink.publisher.batches) (length r.sink.publisher.batches + 1) number count (length r.changes) why
        → IsEnded p (refused_batch_line number why)
    not_right p why same going is =
        refuses p why going same (wrong_end (length s.run.accepted) (length s.run.accepted + 1) s.run.changes (database_after s.run.accepted) number count r.sink.publisher.stopped why going (rw (version, of.changes) at is))

    -- if no batch may follow any more, or the end row has the wrong number or the wrong count of
    -- changes, the batch is refused
    wrong : (p : CountedState J) (why : BatchRefusal) → p ≡ r.sink → IsStoppedOrWrong r.sink.publisher.stopped (length r.sink.publisher.batches) (length r.sink.publisher.batches + 1) number count (length r.changes) why → IsEnded p (refused_batch_line number why)
    wrong p refusal.Stopped same is =
        let stops : s.stopped ≡ true = sym of.published.stopped ∙ is in (
          record { run = after_refused_batch s.run; stopped = true; text = s.text; steps = s.steps },
          rw same (record { source = of.published.source; batches = of.published.batches; stopped = is; journal = of.published.journal; steps = of.published.steps }),
          rw stops (refl, refl),
          refl,
        )
    wrong p refusal.Exhausted same is = not_right p refusal.Exhausted same is.0 is
    wrong p (refusal.WrongNumber expected) same is = not_right p (refusal.WrongNumber expected) same is.0 is
    wrong p (refusal.WrongCount counted) same is = not_right p (refusal.WrongCount counted) same is.0 is
    wrong p (refusal.Unfit why) same (still, is) = absurd is
    wrong p refusal.Memory same (still, is) = absurd is
    wrong p (refusal.Journal written) same (still, is) = absurd is
    wrong p (refusal.Keep written) same (still, is) = absurd is

    whole : (p : CountedState J) → p.publisher ≡ r.sink.publisher → p.steps ≡ r.sink.steps → p ≡ r.sink
    whole p same steps = λ i. record { publisher = same i; steps = steps i }

    -- if the end row is right but its batch isn't published, the batch is refused
    unpublished : (p : CountedState J) (why : ApplyError) → IsRightEnd r.sink.publisher.stopped (length r.sink.publisher.batches) (length r.sink.publisher.batches + 1) number count (length r.changes)
        → IsApplyError contents r.sink.publisher p.publisher (record { number = number; changes = r.changes }) why → p.publisher.batches ≡ r.sink.publisher.batches
        → p.publisher.source ≡ r.sink.publisher.source → p.steps ≡ r.sink.steps → IsEnded p (refused_batch_line number (refusal_of why))
    unpublished p error.Stopped right is same source steps = absurd (false≢true (sym right.going ∙ is.0))
    unpublished p error.Exhausted right is same source steps = absurd (omega (arith, right.room, is.1))
    unpublished p (error.WrongNumber expected) right is same source steps = absurd (is.1 right.next)
    unpublished p (error.Refused why) right is same source steps =
        refuses p (refusal.Unfit why) right.going (whole p is.3 steps)
        (unfit_end (length s.run.accepted) (length s.run.accepted + 1) s.run.changes (database_after s.run.accepted) number count unfit r.sink.publisher.stopped why (rw (version, of.changes) at right)
        (rw (of.published.batches, of.changes) at is.2))
    unpublished p error.Memory right is same source steps =
        let goes : s.stopped ≡ false = sym of.published.stopped ∙ right.going in (
          record { run = after_refused_batch s.run; stopped = false; text = s.text; steps = s.steps },
          rw (whole p is.1 steps) (record { source = of.published.source; batches = of.published.batches; stopped = right.going; journal = of.published.journal; steps = of.published.steps }),
          rw goes (inr (record { accepted = right_accepted right is.0; why = error.Memory; left = refl; line_is = refl })),
          refl,
        )
    unpublished p (error.Journal written) right is same source steps =
        let goes : s.stopped ≡ false = sym of.published.stopped ∙ right.going in (
          record { run = after_refused_batch s.run; stopped = true; text = s.text ++ take written (batch_text (open_batch s.run number)); steps = s.steps },
          record {
            source = source ∙ of.published.source;
            batches = same ∙ of.published.batches;
            stopped = is.1;
            journal = Appends-trans (contents first.journal) (contents r.sink.publisher.journal) (contents p.publisher.journal) s.text _ of.published.journal (rw of.changes at is.3);
            steps = rw steps of.published.steps;
          },
          rw goes (inr (record { accepted = right_accepted right is.0; why = error.Journal written; left = (rw of.changes at is.2, refl); line_is = refl })),
          refl,
        )

    dropped : (p : CountedState J) (why : BatchRefusal) → IsBatchDropped (publisher_spec contents) r.sink number count r.changes why p → IsEnded p (refused_batch_line number why)
    dropped p why h1 = search (rules, unpublished, wrong)

    refused : IsEndRefused (publisher_spec contents) r number count line t
        → Answered (λ after. IsEndUpdate s.stopped s number count line after × (after.run.accepted ≡ s.run.accepted)) t
    refused a =
        let d = dropped t.sink a.why a.dropped in
        let said : IsEndUpdate s.stopped s number count line d.0 = subst (λ x. IsEndUpdate s.stopped s number count x d.0) (sym a.line_is) d.2 in (
          d.0,
          record {
            published = d.1;
            changes = ap (λ (x : RowsState (CountedState J)). x.changes) a.after ∙ sym (ap (λ (x : RunState). x.changes) d.3);
            refused = ap (λ (x : RowsState (CountedState J)). x.refused) a.after ∙ ap (λ n. n + 1) of.refused ∙ sym (ap (λ (x : RunState). x.refused) d.3);
          },
          (said, ap (λ (x : RunState). x.accepted) d.3),
        )

  -- the row of a change adds the change to the open changes, which wait for their `end` row
  changed : (c : Change) → IsOfUpdates contents first (record r { changes = r.changes ++ c ∷ [] }) (record s { run = after_change_row s.run c })
  changed c = search rules

  row_taken : (t : RowsState (CountedState J)) (row : Result Row RowError) (line : List ℕ) → IsRowTaken (publisher_spec contents) s.run.rows r row line t → Answered (IsUpdateAnswered s row line) t
  row_taken t (Err why) line a = (
    record s { run = after_refused_row s.run },
    rw a.1 (record {
      published = still_published contents first r.sink s (record s { run = after_refused_row s.run }) of.published refl refl refl refl;
      changes = of.changes;
      refused = ap (λ n. n + 1) of.refused;
    }),
    record { answered = (a.0, refl); same = refl },
  )
  row_taken t (Ok (row.Put link)) line a =
      (record s { run = after_change_row s.run (change.Put link) }, rw a.1 (changed (change.Put link)), record { answered = (a.0, refl); same = refl })
  row_taken t (Ok (row.Remove from local)) line a =
      (record s { run = after_change_row s.run (change.Remove from local) }, rw a.1 (changed (change.Remove from local)), record { answered = (a.0, refl); same = refl })
  row_taken t (Ok (row.Node router transit)) line a =
      (record s { run = after_change_row s.run (change.Node router transit) }, rw a.1 (changed (change.Node router transit)), record { answered = (a.0, refl); same = refl })
  row_taken t (Ok (row.End number count)) line (inl a) = accepted number count line t a
  row_taken t (Ok (row.End number count)) line (inr a) = let is = refused number count line t a in (is.0, is.1, is.2.0)
  row_taken t (Ok (row.Ask q)) line a = (
    record s { run = after_reply s.run },
    rw a.1 (record {
      published = still_published contents first r.sink s (record s { run = after_reply s.run }) of.published refl refl refl refl;
      changes = of.changes;
      refused = of.refused;
    }),
    record { answered = (a.0.0, rw of.published.batches at a.0.1, rw of.published.batches at a.0.2, refl); same = refl },
  )

  same_lost : (t : RowsState (CountedState J)) (row : Result Row RowError) → t ≡ r → Answered (IsUpdateLost s row) t
  same_lost t row is = (s, rw is of, inl refl)

  row_lost : (t : RowsState (CountedState J)) (row : Result Row RowError) → IsRowLost (publisher_spec contents) r row t → Answered (IsUpdateLost s row) t
  row_lost t (Ok (row.End number count)) (inl a) = same_lost t (Ok (row.End number count)) a
  row_lost t (Ok (row.End number count)) (inr a) = let is = refused number count a.0 t a.1 in (is.0, is.1, inr (a.0, is.2.0, is.2.1))
  row_lost t other a = same_lost t other a

-- ---- the state that the code keeps

-- the state of the updates that the code keeps, in the form that contracts use
abbrev pub kept_of : {J : Type 0} → Rows (CountedState J) → KeptUpdates J
kept_of k = record { sink = k.sink; changes = k.changes; answers = k.answers; refused = k.refused }

module _ {J : Type 0} (contents : J → Option (List ℕ)) (unfit : RefusedIsUnfit) (k k' : Rows (CountedState J)) (place : ℕ) (fields : List (List ℕ)) where
  begun : (first : PublisherState J) (s : UpdatesState) → KeepsUpdates contents first (kept_of k) s
      → IsOfUpdates contents first (record { sink = k.sink; changes = s.run.changes; answers = k.answers; refused = k.refused }) (at_next_update s)
  begun first s kept = search rules

  kept_again : (first : PublisherState J) (t : RowsState (CountedState J)) (s : UpdatesState) → KeepsRows k' t → IsOfUpdates contents first t s → KeepsUpdates contents first (kept_of k') s
  kept_again first t s kept of = search rules

  pub update_taken : (line : List ℕ) → RowsLead k k' (λ r t. IsRowTaken (publisher_spec contents) place r (row_of fields) line t) → IsUpdateTaken contents place (kept_of k) fields line (kept_of k')
  update_taken line lead = λ first s kept here.
      let led = lead (record { sink = k.sink; changes = s.run.changes; answers = k.answers; refused = k.refused }) (record { sink = refl; changes = kept.changes; answers = refl; refused = refl }) in
      let a = row_taken contents first unfit _ (at_next_update s) (begun first s kept) led.0 (row_of fields) line (rw here at led.2) in
      (a.0, kept_again first led.0 a.0 led.1 a.1, a.2)

  pub update_lost : RowsLead k k' (λ r t. IsRowLost (publisher_spec contents) r (row_of fields) t) → IsUpdateFailed contents place (kept_of k) fields (kept_of k')
  update_lost lead = λ first s kept here.
      let led = lead (record { sink = k.sink; changes = s.run.changes; answers = k.answers; refused = k.refused }) (record { sink = refl; changes = kept.changes; answers = refl; refused = refl }) in
      let a = row_lost contents first unfit _ (at_next_update s) (begun first s kept) led.0 (row_of fields) led.2 in
      (a.0, kept_again first led.0 a.0 led.1 a.1, a.2)
