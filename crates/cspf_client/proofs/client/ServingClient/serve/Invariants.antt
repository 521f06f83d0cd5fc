use Rattle.cspf_client.specs.Sessions.{HasComeTo}
use Rattle.cspf_client.proofs.client.ServingClient.serve.Given as goal

-- the client has read no row of its session yet, and the sessions before it are those of a run
abbrev pub invariant-loop : goal.invariant-loop
invariant-loop g l = HasComeTo g.K.Kinds.kinds g.V.Reopens.reopens g.Q.Read.remaining g.V.Write.contents l.fn.self l.client
