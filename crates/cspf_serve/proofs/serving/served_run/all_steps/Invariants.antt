use Rattle.std.proofs.Common.{All, take}
use mathlib.Core.List.{IsPrefix}
use Rattle.cspf_publish.specs.JournalSteps.{AreJournalSteps}
use Rattle.cspf_client.specs.SessionStates.{AreFirstSteps}
use Rattle.cspf_serve.specs.Publishing.{AreAllCounted}
use Rattle.cspf_serve.proofs.serving.served_run.all_steps.Given as goal

abbrev pub invariant-loop-client : goal.invariant-loop-client
invariant-loop-client g l = record {
  journal : AreJournalSteps l.all.steps;
  updates : IsPrefix l.fn.counted.steps.steps l.all.steps;
  counted : AreAllCounted l.fn.counted.publisher l.all;
  clients : All (λ c. AreFirstSteps l.all c.state.steps) (take l.client-index l.serving);
}
