use Rattle.cspf_client.proofs.Sessions.{begun, come_to_end, come_to_next}
use Rattle.cspf_client.proofs.client.ServingClient.serve.Goals as goal

pub loop-init : goal.loop-init
loop-init g c = begun g.K.Kinds.kinds g.V.Reopens.reopens g.Q.Read.remaining g.V.Write.contents c.args.self c.requires.ready c.requires.first

pub loop-preserved : goal.loop-preserved
loop-preserved g c =
    let next = c.in-Ok.ensures.next in
    come_to_next g.K.Kinds.kinds g.V.Reopens.reopens g.Q.Read.remaining g.V.Write.contents c.args.self c.loop.client c.run.new.self c.loop.invariant c.run.ensures.run c.run.ensures.forward c.reopened.ensures.few c.run.ensures.before
    c.in-Ok.next next.0 next.1 next.2 next.3

pub returns-in-Err-clause-sessions : goal.returns-in-Err-clause-sessions
returns-in-Err-clause-sessions g c =
    let last = c.in-Err.ensures.next in
    come_to_end g.K.Kinds.kinds g.V.Reopens.reopens g.Q.Read.remaining g.V.Write.contents c.args.self c.loop.client c.run.new.self c.loop.invariant c.run.ensures.run c.run.ensures.forward c.reopened.ensures.few c.run.ensures.before
    c.in-Err.last last.0 last.1
