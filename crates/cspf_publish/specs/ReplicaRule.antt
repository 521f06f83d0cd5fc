-- Defines the rule of the replicas, which are the two copies of the table of links. The rule is an
-- invariant: it holds before the first step on the replicas, and after each step. Also defines how
-- each kind of step changes the view of the user that makes it. A view has the batches that the
-- publisher or an asker knows. The published batches are the batches of the replica that askers
-- (which answer requests) enter.
use Rattle.std.specs.Prelude.{◌≡◌, ℕ, true, List, [], ◌∷◌, ◌++◌}
use mathlib.Core.Option.{some}
use lib.ListN.{get_elem?}
use Rattle.cspf_model.specs.Numbered.{NumberedChanges}
use Rattle.cspf_model.specs.Changes.{database_after}
use Rattle.cspf_journal.specs.Histories.{IsHistory, MayFollow}
use Rattle.cspf_journal.specs.KnownBatches.{KnownBatches, AreFirstOf}
use Rattle.cspf_publish.specs.ReplicaStates.{ReplicaState}
use Rattle.cspf_publish.specs.ShapeChanges.{HasShapeChanges}
use Rattle.cspf_publish.specs.declared.seat_view.SeatView.{SeatView}
use Rattle.cspf_publish.specs.declared.seat_view.SeatView.TheVariants.{New, Asker, Publisher}

-- the replica's batches make the replica's database
abbrev pub HasItsDatabase : ReplicaState → Type 0
HasItsDatabase s = s.database ≡ database_after s.known.batches

-- `shape_changes` is the number of the replica's batches that change more than unreserved
-- bandwidths
abbrev pub CountsShapeChanges : ReplicaState → Type 0
CountsShapeChanges s = HasShapeChanges s.known.batches s.shape_changes

-- The view of a user of the replicas (the table's two copies) has the batches that the user knows.
-- A new reader knows no batches. An asker (which answers requests) knows a prefix of the published
-- batches. The publisher knows all published batches.
abbrev pub Knows : ReplicaState → SeatView → Type 0
Knows s New = Unit {0}
Knows s (Asker known) = AreFirstOf s.known known
Knows s (Publisher known) = (known ≡ s.known) × (s.is_open ≡ true)

-- the view (the batches that a user of the replicas knows) is the publisher's
abbrev pub IsPublisher : SeatView → Type 0
IsPublisher New = ⊥
IsPublisher (Asker known) = ⊥
IsPublisher (Publisher known) = Unit {0}

-- the replica (a copy of the table) has a `CopyRight` of the journal that its batches are from
abbrev pub IsCopyByRight : ReplicaState → Type 0
IsCopyByRight s = s.right ≡ s.known.source

-- at most one of the views (one for each user of the replicas) is a publisher's
abbrev pub HasOnePublisher : List SeatView → Type 0
HasOnePublisher views =
    (i j : ℕ) (v w : SeatView) → get_elem? views i ≡ some v → get_elem? views j ≡ some w
    → IsPublisher v → IsPublisher w → i ≡ j

-- The rule of the replicas (the table's two copies). The published batches are numbered from 1, and
-- each fits the database of the batches before it. The replica that askers enter has the database
-- of the published batches. It has the count of the batches that change more than unreserved
-- bandwidths, and a `CopyRight` of the journal that the batches are from. The view of each asker
-- has a prefix of the published batches. At most one view is the publisher's, and that view has all
-- published batches.
pub record HoldsBetweenSteps (s : ReplicaState) (views : List SeatView) : Type 0 where
  pub history : IsHistory s.known.batches
  pub database : HasItsDatabase s
  pub shapes : CountsShapeChanges s
  pub right : IsCopyByRight s
  pub seats : (seat : ℕ) (v : SeatView) → get_elem? views seat ≡ some v → Knows s v
  pub one_publisher : HasOnePublisher views

-- The publisher's first step. It changes no batches. After this step the publisher's view has the
-- published batches. In this record and the next two, `x` and `y` are the replica (a copy of the
-- table) before and after the step. `v` and `w` are the view of the user that makes the step,
-- before and after the step.
pub record Opens (v : SeatView) (x y : ReplicaState) (w : SeatView) : Type 0 where
  pub same : y.known ≡ x.known
  pub after : w ≡ Publisher y.known

-- The publisher publishes one more batch. The batch fits, and has the next number. Before the step
-- the publisher's view has all earlier batches. After the step it has the new batch, too.
pub record Publishes (v : SeatView) (x y : ReplicaState) (w : SeatView) : Type 0 where
  pub batch : NumberedChanges
  pub follows : MayFollow x.known.batches batch
  pub batches : y.known.batches ≡ x.known.batches ++ batch ∷ []
  pub source : y.known.source ≡ x.known.source
  pub before : v ≡ Publisher x.known
  pub after : w ≡ Publisher y.known

-- An asker (which answers requests) enters a replica (a copy of the table). The replica has the
-- database of its batches, and the count of the batches that change more than unreserved
-- bandwidths. After the step the asker's view has the replica's batches. The batches that the asker
-- knew from its last entry are a prefix of these batches.
pub record Enters (v : SeatView) (x y : ReplicaState) (w : SeatView) : Type 0 where
  pub same : y ≡ x
  pub database : HasItsDatabase y
  pub shapes : CountsShapeChanges y
  pub later : (known : KnownBatches) → v ≡ Asker known → AreFirstOf y.known known
  pub after : w ≡ Asker y.known

-- A user of the replicas (the table's two copies) makes a note of its view, for the view of a new
-- asker. The note of the publisher or of an asker is an asker's view with the same batches. The
-- note of a new reader has no batches.
abbrev pub note_of : SeatView → SeatView
note_of New = New
note_of (Asker known) = Asker known
note_of (Publisher known) = Asker known

-- The view of a user of the replicas (the table's two copies) after it has read the note `told`. A
-- new reader then knows the batches of the note. An asker or a publisher already knows batches, and
-- keeps its view.
abbrev pub view_with_note : SeatView → SeatView → SeatView
view_with_note New told = note_of told
view_with_note (Asker known) told = Asker known
view_with_note (Publisher known) told = Publisher known

-- The view `v` is an asker's view, with the batches of the replica (a copy of the table) that the
-- asker entered last. These batches are a prefix of the batches `known`.
pub record KnowsItsEntry (v : SeatView) (known : KnownBatches) : Type 0 where
  pub entered : KnownBatches
  pub seat : v ≡ Asker entered
  pub first : AreFirstOf known entered
