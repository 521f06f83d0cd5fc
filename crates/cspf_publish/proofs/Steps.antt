-- Each step on the replicas (the two copies of the table of links) keeps their invariant,
-- `HoldsBetweenSteps`.
use Rattle.std.proofs.Common.{◌≡◌, ℕ, ◌≢◌, true, false, List, [], ◌∷◌, ◌++◌, set, refl, sym, ap, ◌∙◌, subst, ⊎_elim, rules, arith}
use Rattle.std.proofs.lemmas.Grind.{common_steps}
use mathlib.Core.Option.{some}
use lib.ListN.{get_elem?}
use Rattle.crossbeam_utils.specs.Register.{Admits, Turns, TurnsAt, Forks, Merges}
use Rattle.atomic_table.proofs.Lists.{at_set, at_snoc}
use Rattle.cspf_model.specs.Numbered.{NumberedChanges}
use Rattle.cspf_model.specs.Changes.{database_after}
use Rattle.cspf_model.specs.Laws.{LawfulByOneMore, OneMoreBatch}
use Rattle.cspf_journal.specs.Histories.{IsHistory, MayFollow}
use Rattle.cspf_journal.specs.KnownBatches.{KnownBatches, AreFirstOf, known_with}
use Rattle.cspf_publish.specs.Operations.{idle_batch}
use Rattle.cspf_publish.specs.ShapeChanges.{HasShapeChanges}
use Rattle.cspf_publish.specs.ReplicaStates.{ReplicaState, published_state, state_with}
use Rattle.cspf_publish.specs.ReplicaRule.{HoldsBetweenSteps, HasItsDatabase, CountsShapeChanges, IsCopyByRight, Knows, IsPublisher, HasOnePublisher, Opens, Publishes, Enters, note_of, view_with_note}
use Rattle.cspf_publish.specs.declared.seat_view.SeatView.{SeatView}
use Rattle.cspf_publish.specs.declared.seat_view.SeatView.TheVariants.{New, Asker, Publisher}
use Rattle.cspf_journal.proofs.Prefixes.{BeginsWith-self, BeginsWith-snoc, IsHistory-snoc}
use Rattle.cspf_publish.proofs.FitTest.{database_with-Fits}

-- each user of the replicas (a new reader, an asker or the publisher) knows the batches of its view
abbrev AllKnow : ReplicaState → List SeatView → Type 0
AllKnow s views = (seat : ℕ) (v : SeatView) → get_elem? views seat ≡ some v → Knows s v

AllKnow-set : (s : ReplicaState) (views : List SeatView) (seat : ℕ) (w : SeatView) → AllKnow s views → Knows s w → AllKnow s (set views seat w)
AllKnow-set s views seat w all knows j u e =
    ⊎_elim (λ (t : (j ≡ seat) × (w ≡ u)). subst (λ (z : SeatView). Knows s z) t.1 knows) (λ (t : (j ≢ seat) × (get_elem? views j ≡ some u)). all j u t.1) (at_set views seat j w u e)

AllKnow-snoc : (s : ReplicaState) (views : List SeatView) (w : SeatView) → AllKnow s views → Knows s w → AllKnow s (views ++ w ∷ [])
AllKnow-snoc s views w all knows j u e = ⊎_elim (all j u) (λ (t : w ≡ u). subst (λ (z : SeatView). Knows s z) t knows) (at_snoc views w u j e)

-- At most one view of a list is the publisher's. This is still true after one view is replaced, if
-- the new view isn't the publisher's or the replaced view was. A view has the batches that one user
-- of the replicas knows.
HasOnePublisher-set : (views : List SeatView) (seat : ℕ) (v w : SeatView) → get_elem? views seat ≡ some v → HasOnePublisher views → (IsPublisher w → IsPublisher v) → HasOnePublisher (set views seat w)
HasOnePublisher-set views seat v w at one was = search (rules, at_set, ⊎_elim)

-- if no view of a list is the publisher's, at most one view is the publisher's after one view is
-- replaced
HasOnePublisher-first : (views : List SeatView) (seat : ℕ) (w : SeatView) → ((j : ℕ) (u : SeatView) → get_elem? views j ≡ some u → IsPublisher u → ⊥) → HasOnePublisher (set views seat w)
HasOnePublisher-first views seat w none = search (rules, at_set, ⊎_elim)

HasOnePublisher-snoc : (views : List SeatView) (w : SeatView) → HasOnePublisher views → (IsPublisher w → ⊥) → HasOnePublisher (views ++ w ∷ [])
HasOnePublisher-snoc views w one not = search (rules, at_snoc, ⊎_elim)

pub AreFirstOf-self : (known : KnownBatches) → AreFirstOf known known
AreFirstOf-self known = record { source = refl; begins = BeginsWith-self known.batches }

-- after one more batch is published, the views of askers (which answer requests) and new readers
-- are still right
Knows-more : (s t : ReplicaState) (b : NumberedChanges) → t.known ≡ known_with s.known.batches s.known.source b → (v : SeatView) → Knows s v → (IsPublisher v → ⊥) → Knows t v
Knows-more s t b is v knows not = grind (arith, common_steps, BeginsWith-snoc)

-- after the publisher's first step, the views of askers (which answer requests) and new readers are
-- still right
Knows-opens : (s t : ReplicaState) → t.known ≡ s.known → (v : SeatView) → Knows s v → (IsPublisher v → ⊥) → Knows t v
Knows-opens s t is v knows not = search rules

is_open_by : (s : ReplicaState) (v : SeatView) → Knows s v → IsPublisher v → s.is_open ≡ true
is_open_by s v knows is = search rules

-- The invariant of the replicas (the table's two copies), `HoldsBetweenSteps`, holds at the start.
-- Then the only user of the replicas is the writer, and it knows no batches.
pub begins : (s : ReplicaState) → IsHistory s.known.batches → HasItsDatabase s → CountsShapeChanges s → IsCopyByRight s → HoldsBetweenSteps s (New ∷ [])
begins s history has counts right = search rules

-- the invariant of the replicas (the table's two copies), `HoldsBetweenSteps`, still holds after a
-- new reader is made, which knows no batches
pub admits : Admits HoldsBetweenSteps New
admits s views w = record {
  history = w.history;
  database = w.database;
  shapes = w.shapes;
  right = w.right;
  seats = AllKnow-snoc s views New w.seats tt;
  one_publisher = HasOnePublisher-snoc views New w.one_publisher (λ p. p);
}

later_of : (s : ReplicaState) (v : SeatView) → Knows s v → (known : KnownBatches) → v ≡ Asker known → AreFirstOf s.known known
later_of s v knows known is = subst (λ (z : SeatView). Knows s z) is knows

-- the invariant of the replicas (the two copies of the table), `HoldsBetweenSteps`, still holds
-- after an asker (which answers requests) enters one of them to search there
pub enters : (seat : ℕ) (v : SeatView) → Turns HoldsBetweenSteps seat v (λ s. s) Enters
enters seat v s views w at = let self = AreFirstOf-self s.known in (
  Asker s.known,
  record {
    history = w.history;
    database = w.database;
    shapes = w.shapes;
    right = w.right;
    seats = AllKnow-set s views seat (Asker s.known) w.seats self;
    one_publisher = HasOnePublisher-set views seat v (Asker s.known) at w.one_publisher (λ p. absurd p);
  },
  record { same = refl; database = w.database; shapes = w.shapes; later = later_of s v (w.seats seat v at); after = refl },
)

-- the invariant of the replicas (the table's two copies), `HoldsBetweenSteps`, still holds after
-- the publisher's first step
pub opens : (seat : ℕ) (v : SeatView) (s next : ReplicaState) → s.is_open ≡ false → next.is_open ≡ true → next.database ≡ s.database → next.known ≡ s.known → next.shape_changes ≡ s.shape_changes
    → next.right ≡ s.right → TurnsAt HoldsBetweenSteps seat v s next Opens
opens seat v s next was now database same as_many right views w at =
    let none : (j : ℕ) (u : SeatView) → get_elem? views j ≡ some u → IsPublisher u → ⊥ = λ j u e p. (let both : false ≡ true = sym was ∙ is_open_by s u (w.seats j u e) p in absurd cc) in
    let all : AllKnow next views = λ j u e. Knows-opens s next same u (w.seats j u e) (none j u e) in (
      Publisher next.known,
      record {
        history = subst (λ (k : KnownBatches). IsHistory k.batches) (sym same) w.history;
        database = database ∙ (w.database ∙ ap (λ (k : KnownBatches). database_after k.batches) (sym same));
        shapes = subst (λ (k : KnownBatches). HasShapeChanges k.batches next.shape_changes) (sym same) (subst (HasShapeChanges s.known.batches) (sym as_many) w.shapes);
        right = right ∙ (w.right ∙ ap (λ (k : KnownBatches). k.source) (sym same));
        seats = AllKnow-set next views seat (Publisher next.known) all (refl, now);
        one_publisher = HasOnePublisher-first views seat (Publisher next.known) none;
      },
      record { same = same; after = refl },
    )

-- the invariant of the replicas (the table's two copies), `HoldsBetweenSteps`, still holds after
-- the publisher publishes the next batch
pub publishes : LawfulByOneMore → (seat : ℕ) (v : SeatView) (s next : ReplicaState) (b : NumberedChanges) → v ≡ Publisher s.known → MayFollow s.known.batches b
    → next.known ≡ known_with s.known.batches s.known.source b → next.is_open ≡ true → HasItsDatabase next → CountsShapeChanges next → next.right ≡ s.right → TurnsAt HoldsBetweenSteps seat v s next Publishes
publishes law seat v s next b mine follows is now has counts right = search (rules, HasOnePublisher-set, IsHistory-snoc, Knows-more, at_set, ⊎_elim)

note_of-Knows : (s : ReplicaState) (v : SeatView) → Knows s v → Knows s (note_of v)
note_of-Knows s v knows = search rules

note_of-IsPublisher : (v : SeatView) → IsPublisher (note_of v) → ⊥
note_of-IsPublisher v p = search rules

view_with_note-Knows : (s : ReplicaState) (v told : SeatView) → Knows s v → Knows s told → Knows s (view_with_note v told)
view_with_note-Knows s v told knows its = search rules

view_with_note-IsPublisher : (v told : SeatView) → IsPublisher (view_with_note v told) → IsPublisher v
view_with_note-IsPublisher v told p = search rules

-- the invariant of the replicas (the table's two copies), `HoldsBetweenSteps`, still holds after
-- the publisher or an asker makes a note of the batches that it knows
pub forks : (seat : ℕ) (v : SeatView) → Forks HoldsBetweenSteps seat v v (note_of v)
forks seat v s views w at = record {
  history = w.history;
  database = w.database;
  shapes = w.shapes;
  right = w.right;
  seats = AllKnow-snoc s (set views seat v) (note_of v) (AllKnow-set s views seat v w.seats (w.seats seat v at)) (note_of-Knows s v (w.seats seat v at));
  one_publisher = HasOnePublisher-snoc (set views seat v) (note_of v) (HasOnePublisher-set views seat v v at w.one_publisher (λ p. p)) (note_of-IsPublisher v);
}

-- the invariant of the replicas (the table's two copies), `HoldsBetweenSteps`, still holds after a
-- user of the replicas reads another user's note of known batches
pub merges : (seat : ℕ) (v : SeatView) (other : ℕ) (w : SeatView) → Merges HoldsBetweenSteps seat v other w (view_with_note v w) New
merges seat v other w s views holds at apart there =
    let its : Knows s w = ⊎_elim (λ (t : (other ≡ seat) × (view_with_note v w ≡ w)). absurd (apart t.0)) (λ (t : (other ≢ seat) × (get_elem? views other ≡ some w)). holds.seats other w t.1) (at_set views seat other (view_with_note v w) w there) in
    let both : AllKnow s (set views seat (view_with_note v w)) = AllKnow-set s views seat (view_with_note v w) holds.seats (view_with_note-Knows s v w (holds.seats seat v at) its) in
    let one : HasOnePublisher (set views seat (view_with_note v w)) = HasOnePublisher-set views seat v (view_with_note v w) at holds.one_publisher (view_with_note-IsPublisher v w) in record {
      history = holds.history;
      database = holds.database;
      shapes = holds.shapes;
      right = holds.right;
      seats = AllKnow-set s (set views seat (view_with_note v w)) other New both tt;
      one_publisher = HasOnePublisher-set (set views seat (view_with_note v w)) other w New there one (λ p. absurd p);
    }

-- if a replica (a copy of the table) absorbs the next batch, the replica's database is still the
-- one that its batches make
pub HasItsDatabase-more : OneMoreBatch → (s : ReplicaState) (b : NumberedChanges) (count : ℕ) → HasItsDatabase s → MayFollow s.known.batches b
    → HasItsDatabase (state_with s b (known_with s.known.batches s.known.source b) count)
HasItsDatabase-more law s b count has follows = search (rules, database_with-Fits)

-- After two operations without changes, the count of batches that change more than unreserved
-- bandwidths is 0 in a replica (a copy of the table). The field `is_open` is true, and the other
-- fields are unchanged.
pub idle_twice : (s : ReplicaState)
    → state_with (state_with s (idle_batch s.known).batch s.known 0) (idle_batch s.known).batch s.known 0
    ≡ record { right = s.right; database = s.database; known = s.known; shape_changes = 0; is_open = true }
idle_twice s = search rules

-- A replica is `published_state` if three facts hold. Its `is_open` is true, it has the database of
-- its batches, and it has a `CopyRight` of the journal that the batches are from.
pub state_from_known : (s : ReplicaState) → HasItsDatabase s → IsCopyByRight s → s.is_open ≡ true → s ≡ published_state s.known s.shape_changes
state_from_known s has right now = search rules
