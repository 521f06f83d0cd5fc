use Rattle.std.proofs.Common.{rules}
use Rattle.cspf_publish.proofs.Steps.{forks, merges, AreFirstOf-self}
use Rattle.cspf_publish.proofs.replicas.Replicas.asker.Goals as goal

pub tell-requires : goal.tell-requires
tell-requires g c = forks _ _

pub learn-requires-clause-rule : goal.learn-requires-clause-rule
learn-requires-clause-rule g c = merges _ _ _ _

pub new-requires-clause-entry : goal.new-requires-clause-entry
new-requires-clause-entry g c = record { entered = c.known.result; seat = search rules; first = AreFirstOf-self c.known.result }
