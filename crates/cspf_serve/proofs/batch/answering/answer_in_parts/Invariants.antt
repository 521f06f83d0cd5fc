use Rattle.std.proofs.Common.{◌≡◌, ◌-◌, ◌<◌, ◌≤◌, take, length, All, vec_len}
use Rattle.cspf_model.specs.Changes.{database_after}
use Rattle.cspf_publish.specs.AskerStates.{AskerState}
use Rattle.cspf_serve.specs.BatchRun.{AreReplies}
use Rattle.cspf_judge.specs.EarlyEnds.{Writes}
use Rattle.cspf_serve.proofs.batch.answering.answer_in_parts.Given as goal

-- the requests before the index `first` are answered, and all askers (which answer the requests)
-- were returned
abbrev pub invariant-loop-first : goal.invariant-loop-first
invariant-loop-first g l = record {
  within : l.first ≤ length l.requests;
  same : l.publisher ≡ l.fn.publisher;
  some : 0 < vec_len l.askers;
  few : vec_len l.askers ≤ 64;
  source : All (λ (a : AskerState). a.source ≡ l.fn.publisher.source) l.askers.items;
  text : Writes (g.W.Write.contents l.fn.writer) (g.W.Write.contents l.writer)
      (AreReplies (database_after l.fn.publisher.batches) (length l.fn.publisher.batches) (take l.first l.requests));
}

abbrev pub decreases-loop-first : goal.decreases-loop-first
decreases-loop-first g l = length l.requests - l.first
