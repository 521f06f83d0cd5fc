-- If a batch is refused for a reason, it isn't accepted, and it is refused for no other reason.
use Rattle.std.proofs.Common.{◌≡◌, ℕ, Bool, false, List, length, refl, sym, ap, ◌∙◌, arith}
use Rattle.std.proofs.lemmas.Bool.{false≢true}
use Rattle.cspf_model.specs.Database.{Database}
use Rattle.cspf_model.specs.Laws.{OneRefusal, RefusedIsUnfit}
use Rattle.cspf_model.specs.Refusals.{IsRefusal}
use Rattle.cspf_model.specs.declared.batch.Change.{Change}
use Rattle.cspf_model.specs.declared.refusal.Refusal.{Refusal}
use Rattle.cspf_stream.specs.EndRows.{IsBatchAccepted, IsBatchRefusal, IsRightEnd, IsStoppedOrWrong}
use Rattle.cspf_stream.specs.declared.batch_refusal.BatchRefusal.{BatchRefusal}
use Rattle.cspf_stream.specs.declared.batch_refusal.BatchRefusal.TheVariants as refusal

module _ (version next : ℕ) (changes : List Change) (d : Database) (number count : ℕ) where
  -- the batch of this `end` row isn't accepted, and `why` is the reason
  abbrev pub IsNotAccepted : BatchRefusal → Type 0
  IsNotAccepted why = (¬ IsBatchAccepted version next changes d number count) × IsBatchRefusal version next changes d number count why

  -- if an `end` row is wrong for the reason `why`, its batch isn't accepted, and `why` is the reason
  pub wrong_end : (stopped : Bool) (why : BatchRefusal) → stopped ≡ false → IsStoppedOrWrong stopped version next number count (length changes) why → IsNotAccepted why
  wrong_end stopped refusal.Stopped going wrong = absurd (false≢true (sym going ∙ wrong))
  wrong_end stopped refusal.Exhausted going (still, wrong) = (λ a. omega (arith, a.room, wrong), wrong)
  wrong_end stopped (refusal.WrongNumber expected) going (still, wrong) = (λ a. wrong.1 a.next, wrong)
  wrong_end stopped (refusal.WrongCount counted) going (still, wrong) = (λ a. wrong.2 a.counted, wrong)
  wrong_end stopped other going (still, wrong) = absurd wrong

  -- if an `end` row is right, and its batch doesn't fit the database for the reason `why`, the batch
  -- is refused for this reason
  pub unfit_end : RefusedIsUnfit → (stopped : Bool) (why : Refusal) → IsRightEnd stopped version next number count (length changes)
      → IsRefusal d (record { number = number; changes = changes }) why → IsNotAccepted (refusal.Unfit why)
  unfit_end unfit stopped why right is = (λ a. unfit d (record { number = number; changes = changes }) why is a.fits, (right.room, right.next, right.counted, is))

  pub refusal_once : OneRefusal → (why other : BatchRefusal)
      → IsBatchRefusal version next changes d number count why → IsBatchRefusal version next changes d number count other → why ≡ other
  refusal_once one refusal.Stopped other a b = absurd a
  refusal_once one refusal.Memory other a b = absurd a
  refusal_once one (refusal.Journal written) other a b = absurd a
  refusal_once one (refusal.Keep written) other a b = absurd a
  refusal_once one why refusal.Stopped a b = absurd b
  refusal_once one why refusal.Memory a b = absurd b
  refusal_once one why (refusal.Journal written) a b = absurd b
  refusal_once one why (refusal.Keep written) a b = absurd b
  refusal_once one refusal.Exhausted refusal.Exhausted a b = refl
  refusal_once one refusal.Exhausted other a b = absurd (omega (arith, a, b.0))
  refusal_once one why refusal.Exhausted a b = absurd (omega (arith, a.0, b))
  refusal_once one (refusal.WrongNumber e) (refusal.WrongNumber f) a b = ap refusal.WrongNumber (a.2 ∙ sym b.2)
  refusal_once one (refusal.WrongNumber e) other a b = absurd (a.1 b.1)
  refusal_once one why (refusal.WrongNumber e) a b = absurd (b.1 a.1)
  refusal_once one (refusal.WrongCount k) (refusal.WrongCount l) a b = ap refusal.WrongCount (a.3 ∙ sym b.3)
  refusal_once one (refusal.WrongCount k) (refusal.Unfit w) a b = absurd (a.2 b.2)
  refusal_once one (refusal.Unfit w) (refusal.WrongCount k) a b = absurd (b.2 a.2)
  refusal_once one (refusal.Unfit w) (refusal.Unfit v) a b = ap refusal.Unfit (one d (record { number = number; changes = changes }) w v a.3 b.3)
