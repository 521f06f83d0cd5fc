use Rattle.std.proofs.Common.{◌≡◌, ◌+◌, ◌∷◌, ◌++◌, [], Ok, Err, length-append, ap, ◌∙◌, arith}
use Rattle.std.proofs.lemmas.Result.{err_from_is_err_and}
use Rattle.cspf_rows.specs.declared.journal.JournalStep.TheVariants.{Batch, End}
use Rattle.cspf_serve.proofs.BatchLines.{IfRefused-weaker}
use Rattle.cspf_serve.proofs.PublishedLines.{journal_read, journal_torn, journal_unread}
use Rattle.cspf_serve.proofs.batch.publishing.publish_all.Goals as goal

pub loop-batch-preserved : goal.loop-batch-preserved
loop-batch-preserved g c =
    let is : c.read_batch.result ≡ Ok Batch = c.in-Ok-Batch.is ∙ ap Ok c.in-Ok-Batch.field-0-is in
    let more = c.read_batch.ensures.more is in
    let few = c.loop-batch.invariant.count in
    record {
      can = c.read_batch.ensures.can is;
      count = omega (arith, more.0, few);
      source = c.publish.ensures.source ∙ c.loop-batch.invariant.source;
      going = λ none. c.in_ok-unfit-in-Ok-Batch.ensures.going (ap Ok none);
      given = λ all none.
          let h = c.loop-batch.invariant.given all none in
          let next = c.read_batch.ensures.batch is all h.0 h.1 in
          let size = length-append h.0 (c.read_batch.new.batch ∷ []) in (
            h.0 ++ (c.read_batch.new.batch ∷ []),
            next,
            size ∙ ap (λ n. n + 1) h.2,
            c.in_ok-unfit-in-Ok-Batch.ensures.published h.0 next.numbers (omega (arith, size, next.few, more.1)) h.3,
          );
    }

pub returns-in_err-accept_rest-in-Ok-End-clause-err : goal.returns-in_err-accept_rest-in-Ok-End-clause-err
returns-in_err-accept_rest-in-Ok-End-clause-err g c =
    let is : c.read_batch.result ≡ Ok (End c.in-Ok-End.rest) = c.in-Ok-End.is ∙ ap Ok c.in-Ok-End.field-0-is in
    let ends = err_from_is_err_and c.from_residual-in_err-accept_rest-in-Ok-End.result c.from_residual-in_err-accept_rest-in-Ok-End.ensures.1 in
    rw (ends.1, ends.2)
    (IfRefused-weaker c.in_err-accept_rest-in-Ok-End.field-0.0 _ _
    (λ line why all none.
    let h = c.loop-batch.invariant.given all none in
    journal_torn c.args.accept_torn h.0 c.loop-batch.count all c.in-Ok-End.rest line h.2 (c.read_batch.ensures.end c.in-Ok-End.rest is all h.0 h.1) why)
    c.in_err-accept_rest-in-Ok-End.ensures.err)

pub returns-in-Ok-End-clause-ok : goal.returns-in-Ok-End-clause-ok
returns-in-Ok-End-clause-ok g c =
    let is : c.read_batch.result ≡ Ok (End c.in-Ok-End.rest) = c.in-Ok-End.is ∙ ap Ok c.in-Ok-End.field-0-is in
    λ all none.
    let h = c.loop-batch.invariant.given all none in
    journal_read c.args.accept_torn h.0 c.loop-batch.publisher.batches c.loop-batch.unfit h.3 all c.in-Ok-End.rest c.in_ok-accept_rest-in-Ok-End.ensures.ok
    (c.read_batch.ensures.end c.in-Ok-End.rest is all h.0 h.1)

pub returns-in-Err-clause-err : goal.returns-in-Err-clause-err
returns-in-Err-clause-err g c =
    IfRefused-weaker c.journal_end_of.result _ _
    (λ line why all none.
    let h = c.loop-batch.invariant.given all none in
    journal_unread c.args.accept_torn all c.in-Err.error line (λ many. c.read_batch.ensures.too_many (c.in-Err.is ∙ ap Err many) all h.0 h.1) why)
    c.journal_end_of.ensures.refused
