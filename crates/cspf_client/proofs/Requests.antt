-- What a request does to a client's state, once the client has read the count of published batches.
use Rattle.std.proofs.Common.{◌≡◌, ℕ, List, length, refl, sym, ◌∙◌}
use Rattle.cspf_model.specs.declared.request.Request.{Request}
use Rattle.cspf_ero.specs.ReplyLine.{IsReply}
use Rattle.cspf_publish.specs.Answers.{IsAnswerAfter}
use Rattle.cspf_publish.specs.Histories.{BeginsWith}
use Rattle.cspf_publish.specs.JournalSteps.{KnownSteps}
use Rattle.cspf_publish.specs.KnownBatches.{KnownBatches}
use Rattle.cspf_publish.specs.Readings.{CatchesUp}
use Rattle.cspf_publish.specs.declared.answer.Answer.{Answer}
use Rattle.cspf_publish.specs.declared.errors.AskError.{AskError}
use Rattle.cspf_publish.specs.declared.errors.AskError.TheVariants as ask_error
use Rattle.cspf_model.specs.Outcome.{answer_of}
use Rattle.cspf_model.specs.Changes.{database_after}
use Rattle.cspf_model.specs.Database.{Database}
use Rattle.cspf_disjoint.specs.declared.error.PairError.{PairError}
use Rattle.cspf_disjoint.specs.declared.error.PairError.TheVariants as pair_error
use Rattle.cspf_questions.specs.QuestionLines.{IsQuestionReply, MayFail}
use Rattle.cspf_questions.specs.declared.question.Question.{Question}
use Rattle.cspf_client.specs.ClientRows.{ReadsCount, IsQuestionAnswered, IsQuestionUnanswered, IsRequestAnswered, IsRequestUnanswered}
use Rattle.cspf_client.specs.ErrorNames.{fault_of_answer}
use Rattle.cspf_client.specs.SessionStates.{SessionState}

-- the state of a client with these parts
abbrev pub session : ℕ → KnownBatches → KnownSteps → ℕ → SessionState
session client asker steps refused = record { client = client; known = asker; steps = steps; refused = refused }

module _ (client place : ℕ) (a b c : KnownBatches) (old new : KnownSteps) (count refused : ℕ) (caught_up : CatchesUp a b old new client place count) (source : c.source ≡ b.source) (later : BeginsWith c.batches b.batches) where
  reads : ReadsCount place (session client a old refused) (session client c new refused)
  reads = record {
    mid = b;
    count = count;
    caught_up = caught_up;
    later = record { source = sym source; begins = later };
    client = refl;
    refused = refl;
  }

  pub request_answered : (q : Request) (answer : Answer) (line : List ℕ) → IsAnswerAfter c.batches q answer
      → IsReply answer.id answer.version (answer_of answer.outcome) line
      → IsRequestAnswered place q (session client a old refused) line (session client c new refused)
  request_answered q answer line is reply = record {
    reads = reads;
    answer = answer_of answer.outcome;
    best = is.best;
    reply = rw (is.id, is.version) at reply;
  }

  pub question_answered : (question : Question) (table : Database) (version : ℕ) (line : List ℕ) → table ≡ database_after c.batches → version ≡ length c.batches
      → IsQuestionReply table version question line
      → IsQuestionAnswered place question (session client a old refused) line (session client c new refused)
  question_answered question table version line is named reply = record { reads = reads; reply = rw (is, named) at reply }

  -- if memory is refused for the line of the reply, the request isn't answered
  -- (`IsRequestUnanswered`)
  pub memory_refused : (why : AskError) → why ≡ ask_error.Memory → IsRequestUnanswered place why (session client a old refused) (session client c new refused)
  memory_refused why is = record {
    reads = reads;
    entry = λ e. let wrong : ask_error.Memory ≡ ask_error.NoEntry = sym is ∙ e in absurd (cc wrong);
  }

  -- if a question has no answer for a reason, it isn't answered (`IsQuestionUnanswered`)
  pub question_unanswered : (question : Question) (why : PairError) → MayFail question why
      → IsQuestionUnanswered place question (fault_of_answer why) (session client a old refused) (session client c new refused)
  question_unanswered question pair_error.Memory may = memory_refused ask_error.Memory refl
  question_unanswered question pair_error.Undecided may = (may, reads)

  -- if the asker returned an error, the request isn't answered (`IsRequestUnanswered`)
  pub unanswered : (why : AskError) → (why ≡ ask_error.NoEntry → c ≡ b) → IsRequestUnanswered place why (session client a old refused) (session client c new refused)
  unfolding reads
  unanswered why same = record { reads = reads; entry = same }
