use Rattle.cspf_serve.proofs.PublishedLines.{read_of_bytes, refused_of_bytes}
use Rattle.cspf_serve.proofs.batch.publishing.publish_journal.Goals as goal

pub returns-clause-ok : goal.returns-clause-ok
returns-clause-ok g c =
    read_of_bytes c.args.accept_torn g.R.Read.remaining c.new-journal.result (g.R.Read.remaining c.args.journal) c.publish_all.new.publisher.batches c.publish_all.result
    c.new-journal.ensures.none c.publish_all.ensures.ok

pub returns-clause-err : goal.returns-clause-err
returns-clause-err g c =
    refused_of_bytes c.args.accept_torn g.R.Read.remaining c.new-journal.result (g.R.Read.remaining c.args.journal) c.publish_all.result
    c.new-journal.ensures.none c.publish_all.ensures.err
