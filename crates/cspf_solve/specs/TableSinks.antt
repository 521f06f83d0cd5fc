-- Private: which batches a table accepts or refuses as the sink of a solver, and how it answers
-- requests.
use Rattle.std.specs.Prelude.{◌≡◌, ◌+◌, false}
use Rattle.cspf_model.specs.Best.{Answer, IsBestAnswer}
use Rattle.cspf_model.specs.Changes.{Fits, after_changes}
use Rattle.cspf_model.specs.Refusals.{IsRefusal}
use Rattle.cspf_model.specs.declared.refusal.Refusal.{Refusal}
use Rattle.cspf_ero.specs.ReplyLine.{IsReply}
use Rattle.cspf_stream.specs.Lines.{version_line}
use Rattle.cspf_stream.specs.Sinks.{SinkSpec}
use Rattle.cspf_stream.specs.declared.batch_refusal.BatchRefusal.TheVariants as refusal
use Rattle.cspf_solve.specs.declared.table_sink.TableSink.{TableSink}

-- what a table does as a sink: it accepts the batches that fit its database, and answers requests
-- with best answers
abbrev pub table_spec : SinkSpec TableSink
table_spec = record {
  version = λ sink. sink.version;
  next = λ sink. sink.version + 1;
  stopped = λ sink. false;
  accepts = λ old b line new. Fits old.table.database b × (line ≡ version_line b.number) × (new ≡ record {
    table = record old.table { database = after_changes old.table.database b.changes };
    version = old.version + 1;
  });
  refuses = λ old b refused new. (why : Refusal) × (refused ≡ refusal.Unfit why) × IsRefusal old.table.database b why × (new ≡ old);
  replies = λ sink q line. (answer : Answer) × IsBestAnswer sink.table.database q answer × IsReply q.id sink.version answer line;
}
