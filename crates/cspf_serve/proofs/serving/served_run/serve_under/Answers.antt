use Rattle.std.proofs.Common.{◌∙◌, ap, subst, sym}
use Rattle.cspf_publish.specs.PublisherStates.{PublisherState}
use Rattle.cspf_serve.specs.ServedRun.{IsServedRun}
use Rattle.cspf_serve.specs.Updates.{no_updates}
use Rattle.cspf_serve.proofs.ServedSteps.{served_run, begins}
use Rattle.cspf_serve.proofs.serving.served_run.serve_under.Goals as goal

pub serve_seats-requires-clause-seats : goal.serve_seats-requires-clause-seats
serve_seats-requires-clause-seats g c = λ κs bounds. rw (c.new-own.ensures.publisher, sym c.len.ensures) c.in-Ok.ensures.seats

pub serve_seats-requires-clause-invariant : goal.serve_seats-requires-clause-invariant
serve_seats-requires-clause-invariant g c = λ κs bounds.
    let opened = c.in-Ok.ensures.publisher in
    (c.in-Ok.opened.0, no_updates, begins g.J.Write.contents c.in-Ok.opened.0 c.new-own.result c.new-own.ensures.publisher opened.0 opened.1 c.new-own.ensures.open c.new-own.ensures.fresh)

pub returns-in-Ok-serve_seats-clause-served : goal.returns-in-Ok-serve_seats-clause-served
returns-in-Ok-serve_seats-clause-served g c =
    let opened = c.in-Ok.ensures.publisher in
    let kept = begins g.J.Write.contents c.in-Ok.opened.0 c.new-own.result c.new-own.ensures.publisher opened.0 opened.1 c.new-own.ensures.open c.new-own.ensures.fresh in
    subst (λ journal. IsServedRun g.K.Kinds.kinds (g.R.Read.remaining c.args.updates) g.W.Write.contents g.J.Write.contents g.Q.Read.remaining g.V.Write.contents g.V.Reopens.reopens c.args.said journal c.args.clients.items c.in-Ok-serve_seats.served) opened.2
    (served_run g.J.Write.contents c.in-Ok.opened.0 g.K.Kinds.kinds (g.R.Read.remaining c.args.updates) g.W.Write.contents g.Q.Read.remaining g.V.Write.contents g.V.Reopens.reopens c.args.said c.new-own.result c.args.clients.items c.in-Ok-serve_seats.served _ kept c.in-Ok-serve_seats.ensures.served)

pub returns-in-Err-serve_seats-clause-error : goal.returns-in-Err-serve_seats-clause-error
returns-in-Err-serve_seats-clause-error g c = let is = c.in-Err-serve_seats.ensures.error in rw is.1 (is.2, is.3)

pub returns-in-Err-serve_seats-clause-back : goal.returns-in-Err-serve_seats-clause-back
returns-in-Err-serve_seats-clause-back g c =
    let journal = ap (λ (p : PublisherState g.row.J.Denot). p.journal) c.new-own.ensures.publisher ∙ c.in-Ok.ensures.publisher.2 in
    let back = c.in-Err-serve_seats.ensures.back in (back.0, back.1 ∙ journal, back.3)
