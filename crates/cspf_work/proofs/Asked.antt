-- The replies of a worker are still right after its asker (which computes its answers) learns of
-- more batches.
use Rattle.std.proofs.Common.{◌≡◌, ℕ, ◌-◌, ◌<◌, ◌≤◌, List, [], ◌∷◌, ◌++◌, length, take, Some, get_or, All, sym, ap, ◌∙◌, subst, arith, length-append, append_assoc, slice_get, rules}
use Rattle.std.proofs.lemmas.List.{take-append-le}
use Rattle.std.proofs.lemmas.List.Elements.{All-push}
use Rattle.std.proofs.lemmas.List.Sorted.{IsNonDecreasingBy-push}
use Rattle.std.proofs.Math.Seq.{take-length}
use Rattle.cspf_model.specs.Numbered.{NumberedChanges}
use Rattle.cspf_model.specs.declared.request.Request.{Request}
use Rattle.cspf_publish.specs.declared.answer.Answer.{Answer}
use Rattle.cspf_publish.specs.Answers.{IsAnswerAfter}
use Rattle.cspf_publish.specs.Histories.{BeginsWith}
use Rattle.cspf_publish.specs.AskerStates.{AskerState}
use Rattle.cspf_work.specs.declared.worker.Reply.{Reply}
use Rattle.cspf_work.specs.declared.worker.Worker.{Worker}
use Rattle.cspf_work.specs.Served.{IsAnswerWithin, KnowsNoLess}
use Rattle.cspf_work.specs.Working.{HasDone, IsDone}

-- a prefix of a prefix of a list is a prefix of the list
pub begins_through : (xs ys zs : List NumberedChanges) → BeginsWith ys xs → BeginsWith zs ys → BeginsWith zs xs
begins_through xs ys zs p q = (p.0 ++ q.0, q.1 ∙ (ap (λ w. w ++ q.0) p.1 ∙ append_assoc xs p.0 q.0))

pub knows_through : (a b c : AskerState) → KnowsNoLess a b → KnowsNoLess b c → KnowsNoLess a c
knows_through a b c p q = search (rules, begins_through)

pub length_begins : (all first : List NumberedChanges) → BeginsWith all first → length first ≤ length all
length_begins all first p = omega (arith, ap length p.1, length-append first p.0)

-- the first `n` elements of a list are the first `n` elements of each prefix that has at least `n`
-- elements
pub take_begins : (n : ℕ) (all first : List NumberedChanges) → BeginsWith all first → n ≤ length first → take n all ≡ take n first
take_begins n all first p le = ap (take n) p.1 ∙ take-append-le n first p.0 le

pub within_later : (known later : List NumberedChanges) (q : Request) (a : Answer) → BeginsWith later known → IsAnswerWithin known q a → IsAnswerWithin later q a
within_later known later q a p is = record {
  version = (let l = length_begins later known p in let v = is.version in omega arith);
  answer = subst (λ (bs : List NumberedChanges). IsAnswerAfter bs q a) (sym (take_begins a.version later known p is.version)) is.answer;
}

pub within_now : (known : List NumberedChanges) (q : Request) (a : Answer) → IsAnswerAfter known q a → IsAnswerWithin known q a
within_now known q a is =
    let whole : take a.version known ≡ known = ap (λ n. take n known) is.version ∙ take-length known in
    record {
      version = (let v = is.version in omega arith);
      answer = subst (λ (bs : List NumberedChanges). IsAnswerAfter bs q a) (sym whole) is;
    }

done_later : (requests : List Request) (before known later : List NumberedChanges) (r : Reply) → BeginsWith later known → IsDone requests before known r → IsDone requests before later r
done_later requests before known later r p is = record {
  inside = is.inside;
  later = is.later;
  version = (let l = length_begins later known p in let v = is.version in omega arith);
  answer = λ q at. within_later known later q r.answer p (is.answer q at);
}

all_done_later : (requests : List Request) (before known later : List NumberedChanges) (done : List Reply) → BeginsWith later known → All (IsDone requests before known) done → All (IsDone requests before later) done
all_done_later requests before known later done p all k d l = done_later requests before known later (get_or done k d) p (all k d l)

-- if the asker (which computes a worker's answers) has learnt of more batches, and nothing else has
-- changed, the worker's replies are still right
pub done_more_known : (requests : List Request) (before : AskerState) (w v : Worker)
    → KnowsNoLess w.asker v.asker → v.done.items ≡ w.done.items → HasDone requests before w → HasDone requests before v
done_more_known requests before w v knows same is = record {
  asker = knows_through before w.asker v.asker is.asker knows;
  done = rw same (all_done_later requests before.batches w.asker.batches v.asker.batches w.done.items knows.later is.done);
  versions = rw same is.versions;
}

-- If the replies of a worker are right, they stay right with one more reply. For this reply the
-- worker's asker (which computes its answers) learns of more batches, and answers the request
-- correctly.
pub done_next : (requests : List Request) (before : AskerState) (w v : Worker) (q : Request) (r : Reply)
    → KnowsNoLess w.asker v.asker → v.done.items ≡ w.done.items ++ r ∷ []
    → r.index < length requests → slice_get requests r.index ≡ Some q → IsAnswerAfter v.asker.batches q r.answer
    → HasDone requests before w → HasDone requests before v
done_next requests before w v q r knows pushed inside at answer is =
    let asker = knows_through before w.asker v.asker is.asker knows in
    let enough = length_begins v.asker.batches before.batches asker.later in
    let grown = length_begins v.asker.batches w.asker.batches knows.later in
    let version = answer.version in
    let next : IsDone requests before.batches v.asker.batches r = record {
      inside = inside;
      later = omega arith;
      version = omega arith;
      answer = λ p there. subst (λ (x : Request). IsAnswerWithin v.asker.batches x r.answer) (cc (at, there)) (within_now v.asker.batches q r.answer answer);
    } in
    record {
      asker = asker;
      done = rw pushed (All-push (IsDone requests before.batches v.asker.batches) w.done.items r (all_done_later requests before.batches w.asker.batches v.asker.batches w.done.items knows.later is.done) next);
      versions = rw pushed (IsNonDecreasingBy-push (λ (x : Reply). x.answer.version) w.done.items r is.versions (λ d some.
          let last = is.done (length w.done.items - 1) d (omega arith) in
          let v = last.version in
          omega arith));
    }
