-- The reply lines that are written for answers are right replies to the requests.
use Rattle.std.proofs.Common.{◌≡◌, ℕ, ◌+◌, suc, All, Option, Some, List, [], ◌∷◌, ◌++◌, ◌-◌, take, drop, length, slice_get, refl, sym, ap, ◌∙◌, subst, append_assoc, append-nil, arith, rules}
use Rattle.std.proofs.KnownBytes.{Appends-trans}
use Rattle.std.proofs.Math.Seq.{take-length}
use Rattle.std.proofs.lemmas.List.{length-drop}
use Rattle.logbook.specs.Pages.{Book}
use Rattle.cspf_model.specs.declared.request.Request.{Request}
use Rattle.cspf_model.specs.Numbered.{NumberedChanges}
use Rattle.cspf_model.specs.Changes.{database_after}
use Rattle.cspf_ero.specs.ReplyLine.{IsReply}
use Rattle.cspf_model.specs.Outcome.{answer_of}
use Rattle.cspf_publish.specs.declared.answer.Answer.{Answer}
use Rattle.cspf_publish.specs.Answers.{IsAnswerAfter}
use Rattle.cspf_publish.specs.AskerStates.{AskerState}
use Rattle.cspf_work.specs.Served.{AreAnswersAfter, AreAnswersWithin, IsAnswerWithin}
use Rattle.cspf_serve.specs.BatchRun.{AreReplies, IsReplyTo}
use Rattle.cspf_judge.specs.EarlyEnds.{HasBegun, Writes}
use Rattle.cspf_serve.proofs.Begun.{begun_behind, begun_weaker}
use Rattle.cspf_serve.specs.AnswerLines.{AreAnswerLines}
use Rattle.cspf_serve.specs.LiveRun.{AreRepliesWithin}

-- the reply lines of some answers, followed by the reply line of one more answer, are the reply
-- lines of all these answers
lines_more : (answers : List Answer) (a : Answer) (lines line : List ℕ) → AreAnswerLines answers lines
    → IsReply a.id a.version (answer_of a.outcome) line → AreAnswerLines (answers ++ a ∷ []) (lines ++ line)
lines_more [] a lines line before reply = (line, [], reply, rw before (sym (append-nil line)), refl)
lines_more (b ∷ answers) a lines line before reply = (
  before.0,
  before.1 ++ line,
  before.2,
  ap (λ l. l ++ line) before.3 ∙ append_assoc before.0 before.1 line,
  lines_more answers a before.1 line before.4 reply,
)

pub writes_answer : (answers : List Answer) (a : Answer) (old mid new : Option (List ℕ)) → Writes old mid (AreAnswerLines answers)
    → Writes mid new (IsReply a.id a.version (answer_of a.outcome)) → Writes old new (AreAnswerLines (answers ++ a ∷ []))
writes_answer answers a old mid new before reply = search (rules, Appends-trans, lines_more)

-- The lines of the first `i` answers are written, and then a prefix of the next answer's line. The
-- whole output is a prefix of the lines of the first `count` answers, for some `count`.
pub answer_begun : (answers : List Answer) (i : ℕ) (a : Answer) (old mid new : Option (List ℕ)) → take (i + 1) answers ≡ take i answers ++ a ∷ []
    → Writes old mid (AreAnswerLines (take i answers)) → HasBegun mid new (IsReply a.id a.version (answer_of a.outcome))
    → HasBegun old new (λ lines. (count : ℕ) × AreAnswerLines (take count answers) lines)
answer_begun answers i a old mid new more before begun =
    begun_behind old mid new before.0 (IsReply a.id a.version (answer_of a.outcome))
    (λ lines. (count : ℕ) × AreAnswerLines (take count answers) lines) before.2 (i, before.1)
    (λ line reply. (i + 1, rw more (lines_more (take i answers) a before.0 line before.1 reply))) begun

reply_at : (batches : List NumberedChanges) (q : Request) (a : Answer) (line : List ℕ) → IsAnswerAfter batches q a
    → IsReply a.id a.version (answer_of a.outcome) line → IsReplyTo (database_after batches) a.version q line
reply_at batches q a line is reply = (answer_of a.outcome, is.best, subst (λ (n : ℕ). IsReply n a.version (answer_of a.outcome) line) is.id reply)

-- the lines of the first `count` answers are the replies to the first `count` requests
lines_after : (batches : List NumberedChanges) (count : ℕ) (qs : List Request) (answers : List Answer) (lines : List ℕ) → length answers ≡ length qs
    → ((index : ℕ) (q : Request) (a : Answer) → slice_get qs index ≡ Some q → slice_get answers index ≡ Some a → IsAnswerAfter batches q a)
    → AreAnswerLines (take count answers) lines → AreReplies (database_after batches) (length batches) (take count qs) lines
lines_after batches (suc count) [] (a ∷ answers) lines same each is = absurd (omega arith)
lines_after batches (suc count) (q ∷ qs) [] lines same each is = absurd (omega arith)
lines_after batches (suc count) (q ∷ qs) (a ∷ answers) lines same each is =
    let here = each 0 q a refl refl in (
      is.0,
      is.1,
      subst (λ (v : ℕ). IsReplyTo (database_after batches) v q is.0) here.version (reply_at batches q a is.0 here is.2),
      is.3,
      lines_after batches count qs answers is.1 (omega arith) (λ i p b at there. each (suc i) p b at there) is.4,
    )
lines_after batches count qs answers lines same each is = is

pub replies_after : (batches : List NumberedChanges) (requests : List Request) (list : List Answer) (lines : List ℕ) → AreAnswersAfter batches requests list
    → AreAnswerLines list lines → AreReplies (database_after batches) (length batches) requests lines
replies_after batches requests list lines is written =
    let all : take (length list) requests ≡ requests = ap (λ (n : ℕ). take n requests) is.count ∙ take-length requests in
    subst (λ (qs : List Request). AreReplies (database_after batches) (length batches) qs lines) all
    (lines_after batches (length list) requests list lines is.count is.each
    (subst (λ (l : List Answer). AreAnswerLines l lines) (sym (take-length list)) written))

-- all requests are answered from the index `first` on
pub rest_answered : (batches : List NumberedChanges) (first : ℕ) (requests : List Request) (answers list : List Answer) → list ≡ answers
    → AreAnswersAfter batches (take (length requests - first) (drop first requests)) answers → AreAnswersAfter batches (drop first requests) list
rest_answered batches first requests answers list same answered = search (rules, length-drop, take-length)

-- if a prefix of the answers' lines is written, it is a prefix of right replies to the first
-- requests
pub answers_begun : (batches : List NumberedChanges) (requests : List Request) (list : List Answer) (old new : Option (List ℕ)) → AreAnswersAfter batches requests list
    → HasBegun old new (λ lines. (count : ℕ) × AreAnswerLines (take count list) lines)
    → HasBegun old new (λ lines. (count : ℕ) × AreReplies (database_after batches) (length batches) (take count requests) lines)
answers_begun batches requests list old new is begun = search (rules, begun_weaker, lines_after)

-- each request has a reply at a published version
pub replies_within : (published : List NumberedChanges) (qs : List Request) (answers : List Answer) (lines : List ℕ) → length answers ≡ length qs
    → AreAnswersWithin published qs answers → AreAnswerLines answers lines → AreRepliesWithin published qs lines
replies_within published [] [] lines count each is = is
replies_within published (q ∷ qs) (a ∷ answers) lines count each is =
    let here : IsAnswerWithin published q a = each.each 0 q a refl refl in (
      is.0,
      is.1,
      (a.version, here.version, reply_at (take a.version published) q a is.0 here.answer is.2),
      is.3,
      replies_within published qs answers is.1 (omega arith) (record { each = λ i p b at there. each.each (suc i) p b at there }) is.4,
    )
replies_within published qs answers lines count each is = absurd (omega arith)

pub replies_written : (batches : List NumberedChanges) (requests : List Request) (list : List Answer) (old new : Option (List ℕ)) → AreAnswersAfter batches requests list
    → Writes old new (AreAnswerLines list) → Writes old new (AreReplies (database_after batches) (length batches) requests)
replies_written batches requests list old new is written = (written.0, replies_after batches requests list written.0 is written.1, written.2)

-- all askers (which answer requests) that one call of `open` makes are askers of the same journal
-- (the source is its identity)
pub sources_of : (source : Book) (askers : List AskerState) → All (λ (a : AskerState). (a.batches ≡ []) × (a.source ≡ source)) askers
    → All (λ (a : AskerState). a.source ≡ source) askers
sources_of source askers all i d less = (all i d less).1
