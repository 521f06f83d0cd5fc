-- A list of batches begins with a shorter list. Both lists have the same number of batches that
-- change more than unreserved bandwidths. Then the databases that they make have one shape: they
-- differ at most in unreserved bandwidths.
use Rattle.std.proofs.Common.{◌≡◌, ℕ, ◌+◌, ◌≤◌, List, [], ◌∷◌, ◌++◌, length, refl, sym, ap, subst, inl, inr, ◌∙◌, arith, rules}
use Rattle.cspf_model.specs.Numbered.{NumberedChanges}
use Rattle.cspf_model.specs.Database.{Database}
use Rattle.cspf_model.specs.Changes.{no_links, after_changes, changes_of, database_after}
use Rattle.cspf_db.specs.Shapes.{HaveOneShape}
use Rattle.cspf_journal.specs.Histories.{BeginsWith}
use Rattle.cspf_publish.specs.ShapeChanges.{HasShapeChangesAfter, HasShapeChanges}
use Rattle.cspf_publish.specs.ReplicaStates.{ReplicaState}
use Rattle.cspf_publish.specs.ReplicaRule.{HasItsDatabase, CountsShapeChanges}
use Rattle.cspf_model.proofs.Databases.LastChanges.{after_changes-append}

HaveOneShape-self : (d : Database) → HaveOneShape d d
HaveOneShape-self d = record { marks = refl; links = λ k. refl }

HaveOneShape-trans : (d e f : Database) → HaveOneShape d e → HaveOneShape e f → HaveOneShape d f
HaveOneShape-trans d e f p q = record { marks = q.marks ∙ p.marks; links = λ k. q.links k ∙ p.links k }

-- the database after a list of batches is the database after the first batch, with the changes of
-- the later batches made
after_batch : (d : Database) (b : NumberedChanges) (bs : List NumberedChanges)
    → after_changes d (changes_of (b ∷ bs)) ≡ after_changes (after_changes d b.changes) (changes_of bs)
after_batch d b bs = after_changes-append d b.changes (changes_of bs)

-- if no batch changes more than unreserved bandwidths, the databases before and after the batches
-- differ at most in unreserved bandwidths
none_changed : (d : Database) (bs : List NumberedChanges) → HasShapeChangesAfter d bs 0 → HaveOneShape d (after_changes d (changes_of bs))
none_changed d [] is = HaveOneShape-self d
none_changed d (b ∷ bs) (inl p) =
    subst (HaveOneShape d) (sym (after_batch d b bs)) (HaveOneShape-trans d (after_changes d b.changes) _ p.0 (none_changed (after_changes d b.changes) bs p.1))
none_changed d (b ∷ bs) (inr p) = absurd (omega (arith, p.2))

-- One batch is applied to a database, and then each of two lists is applied to the result. If the
-- two databases at the end differ at most in unreserved bandwidths, the same is true of the two
-- lists that begin with this batch.
after_one_batch : (d : Database) (b : NumberedChanges) (xs ys : List NumberedChanges)
    → HaveOneShape (after_changes (after_changes d b.changes) (changes_of xs)) (after_changes (after_changes d b.changes) (changes_of ys))
    → HaveOneShape (after_changes d (changes_of (b ∷ xs))) (after_changes d (changes_of (b ∷ ys)))
after_one_batch d b xs ys is = search (rules, after_batch)

-- A whole list and a prefix of it have the same number of batches that change more than unreserved
-- bandwidths. Then their databases differ at most in unreserved bandwidths.
as_many_changes : (d : Database) (first rest : List NumberedChanges) (count : ℕ) → HasShapeChangesAfter d first count → HasShapeChangesAfter d (first ++ rest) count
    → HaveOneShape (after_changes d (changes_of first)) (after_changes d (changes_of (first ++ rest)))
as_many_changes d [] rest count is all = none_changed d rest (subst (HasShapeChangesAfter d rest) is all)
as_many_changes d (b ∷ bs) rest count (inl p) (inl q) = after_one_batch d b bs (bs ++ rest) (as_many_changes (after_changes d b.changes) bs rest count p.1 q.1)
as_many_changes d (b ∷ bs) rest count (inl p) (inr q) = absurd (q.0 p.0)
as_many_changes d (b ∷ bs) rest count (inr p) (inl q) = absurd (p.0 q.0)
as_many_changes d (b ∷ bs) rest count (inr p) (inr q) =
    let e = after_changes d b.changes in
    let same : q.1 ≡ p.1 = omega (arith, p.2, q.2) in
    after_one_batch d b bs (bs ++ rest) (as_many_changes e bs rest p.1 p.3 (subst (HasShapeChangesAfter e (bs ++ rest)) same q.3))

pub one_shape : (all first : List NumberedChanges) (count : ℕ) → BeginsWith all first → HasShapeChanges first count → HasShapeChanges all count
    → HaveOneShape (database_after first) (database_after all)
one_shape all first count begins is its = search (rules, as_many_changes)

-- a further batch that changes at most unreserved bandwidths leaves the count of batches that
-- change more unchanged
kept_after : (d : Database) (bs : List NumberedChanges) (b : NumberedChanges) (count : ℕ) → HasShapeChangesAfter d bs count
    → HaveOneShape (after_changes d (changes_of bs)) (after_changes (after_changes d (changes_of bs)) b.changes) → HasShapeChangesAfter d (bs ++ b ∷ []) count
kept_after d [] b count is one = inl (one, is)
kept_after d (a ∷ bs) b count (inl p) one =
    inl (p.0, kept_after (after_changes d a.changes) bs b count p.1 (subst (λ e. HaveOneShape e (after_changes e b.changes)) (after_batch d a bs) one))
kept_after d (a ∷ bs) b count (inr p) one =
    inr (p.0, p.1, p.2, kept_after (after_changes d a.changes) bs b p.1 p.3 (subst (λ e. HaveOneShape e (after_changes e b.changes)) (after_batch d a bs) one))

-- a further batch that changes more than unreserved bandwidths adds 1 to the count of such batches
changed_after : (d : Database) (bs : List NumberedChanges) (b : NumberedChanges) (count : ℕ) → HasShapeChangesAfter d bs count
    → (¬ HaveOneShape (after_changes d (changes_of bs)) (after_changes (after_changes d (changes_of bs)) b.changes)) → HasShapeChangesAfter d (bs ++ b ∷ []) (count + 1)
changed_after d [] b count is not = inr (not, count, refl, is)
changed_after d (a ∷ bs) b count (inl p) not =
    inl (p.0, changed_after (after_changes d a.changes) bs b count p.1 (subst (λ e. ¬ HaveOneShape e (after_changes e b.changes)) (after_batch d a bs) not))
changed_after d (a ∷ bs) b count (inr p) not =
    inr (p.0, p.1 + 1, ap (λ n. n + 1) p.2, changed_after (after_changes d a.changes) bs b p.1 p.3 (subst (λ e. ¬ HaveOneShape e (after_changes e b.changes)) (after_batch d a bs) not))

pub HasShapeChanges-kept : (s : ReplicaState) (b : NumberedChanges) → HasItsDatabase s → CountsShapeChanges s
    → HaveOneShape s.database (after_changes s.database b.changes) → HasShapeChanges (s.known.batches ++ b ∷ []) s.shape_changes
HasShapeChanges-kept s b has counts one = kept_after no_links s.known.batches b s.shape_changes counts (subst (λ d. HaveOneShape d (after_changes d b.changes)) has one)

pub HasShapeChanges-changed : (s : ReplicaState) (b : NumberedChanges) → HasItsDatabase s → CountsShapeChanges s
    → (¬ HaveOneShape s.database (after_changes s.database b.changes)) → HasShapeChanges (s.known.batches ++ b ∷ []) (s.shape_changes + 1)
HasShapeChanges-changed s b has counts not = changed_after no_links s.known.batches b s.shape_changes counts (subst (λ d. ¬ HaveOneShape d (after_changes d b.changes)) has not)

-- the number of batches that change more than unreserved bandwidths is at most the length of the
-- list of batches
within_length : (d : Database) (bs : List NumberedChanges) (count : ℕ) → HasShapeChangesAfter d bs count → count ≤ length bs
within_length d [] count is = omega (arith, is)
within_length d (b ∷ bs) count (inl p) = omega (arith, within_length (after_changes d b.changes) bs count p.1)
within_length d (b ∷ bs) count (inr p) = omega (arith, p.2, within_length (after_changes d b.changes) bs p.1 p.3)

pub HasShapeChanges-le : (bs : List NumberedChanges) (count : ℕ) → HasShapeChanges bs count → count ≤ length bs
HasShapeChanges-le bs count is = within_length no_links bs count is
