use Rattle.std.proofs.Common.{◌≡◌, length, refl, ap, arith}
use Rattle.cspf_serve.specs.ServedSteps.{IsAnswered}
use Rattle.cspf_serve.proofs.Pairs.{length_numbered}
use Rattle.cspf_serve.proofs.PublishingSteps.{source_of_run}
use Rattle.cspf_serve.proofs.ServedSteps.{ready_of, answered_of, sources_of_run, publishing_run}
use Rattle.cspf_serve.proofs.serving.served_run.serve_seats.Goals as goal

pub run_all-ran-requires-clause-ready : goal.run_all-ran-requires-clause-ready
run_all-ran-requires-clause-ready g c = λ κs bounds.
    let source = (g.A.Publishing.spec.publisher c.args.updates).source in
    let seats = c.seats.inside.seats.ok.0 in
    let same = ap length c.seats.view_is in
    let many = c.requires.seats.many in
    let clients = c.args.clients.ok.0 in
    let long : length c.seats.inside.seats.items ≡ length c.args.clients.items = omega arith in (
      ready_of g.K.Kinds.kinds g.V.Reopens.reopens g.Q.Read.remaining g.V.Write.contents source c.seats.inside.seats.items c.args.clients.items long,
      (refl, c.open_records.ensures.plain, c.requires.state),
    )

pub close_run-requires-clause-source : goal.close_run-requires-clause-source
close_run-requires-clause-source g c =
    let source = (g.A.Publishing.spec.publisher c.args.updates).source in
    let answered = answered_of g.K.Kinds.kinds g.V.Reopens.reopens g.Q.Read.remaining g.V.Write.contents source 1 c.seats.inside.seats.items c.args.clients.items c.in-Ok.serving.items (rw c.seats.view_is c.requires.seats.each) c.seats.invariant.0 c.in-Ok.ensures.done.0 in
    let kept = source_of_run g.A.Publishing.spec g.A.Answering.answers g.A.Answering.fails g.met.A.Publishing.one_source _ _ _ _ _ _ c.requires.invariant c.in-Ok.ensures.done.1 in
    rw kept (sources_of_run g.K.Kinds.kinds g.V.Reopens.reopens g.Q.Read.remaining g.V.Write.contents source c.args.clients.items c.in-Ok.serving.items answered)

pub close_run-requires-clause-room : goal.close_run-requires-clause-room
close_run-requires-clause-room g c =
    let source = (g.A.Publishing.spec.publisher c.args.updates).source in
    let answered = answered_of g.K.Kinds.kinds g.V.Reopens.reopens g.Q.Read.remaining g.V.Write.contents source 1 c.seats.inside.seats.items c.args.clients.items c.in-Ok.serving.items (rw c.seats.view_is c.requires.seats.each) c.seats.invariant.0 c.in-Ok.ensures.done.0 in
    let long = length_numbered (IsAnswered g.K.Kinds.kinds g.V.Reopens.reopens g.Q.Read.remaining g.V.Write.contents source) 1 c.args.clients.items c.in-Ok.serving.items answered in
    let seats = c.seats.inside.seats.ok.0 in
    let same = ap length c.seats.view_is in
    let many = c.requires.seats.many in
    let clients = c.args.clients.ok.0 in
    let serving = c.in-Ok.serving.ok.0 in
    let room = c.seats.invariant.4 in omega arith

pub returns-in-Ok-clause-served : goal.returns-in-Ok-clause-served
returns-in-Ok-clause-served g c =
    let source = (g.A.Publishing.spec.publisher c.args.updates).source in
    let answered = answered_of g.K.Kinds.kinds g.V.Reopens.reopens g.Q.Read.remaining g.V.Write.contents source 1 c.seats.inside.seats.items c.args.clients.items c.in-Ok.serving.items (rw c.seats.view_is c.requires.seats.each) c.seats.invariant.0 c.in-Ok.ensures.done.0 in
    let run = rw c.open_records.ensures.rows at c.in-Ok.ensures.done.1 in
    publishing_run g.K.Kinds.kinds g.V.Reopens.reopens g.Q.Read.remaining g.V.Write.contents source g.A.Publishing.spec g.A.Answering.answers g.A.Answering.fails g.W.Write.contents (g.R.Read.remaining c.args.rows) c.args.said _ c.args.updates _ c.args.clients.items
    c.in-Ok.serving.items _ c.close_run.result.0 c.close_run.result.1 run answered c.close_run.ensures
