use Rattle.std.proofs.Common.{IfOk, refl, subst, sym}
use Rattle.cspf_model.specs.Changes.{database_after}
use Rattle.cspf_model.specs.Best.{IsBestAnswer}
use Rattle.cspf_model.specs.Outcome.{answer_of}
use Rattle.cspf_journal.specs.KnownBatches.{KnownBatches}
use Rattle.cspf_publish.proofs.asker.Asker.ask.Goals as goal

pub returns-in-Ok-clause-answer : goal.returns-in-Ok-clause-answer
returns-in-Ok-clause-answer c = record {
  id = refl;
  version = c.version.ensures.version;
  best =
      subst (λ (k : KnownBatches). IsBestAnswer (database_after k.batches) c.args.request.now (answer_of c.in-Ok.outcome)) (sym c.if-not-raise.ensures.0)
      (subst (λ found. IfOk found (λ outcome. IsBestAnswer (database_after c.in-Some.known.batches) c.args.request.now (answer_of outcome))) c.in-Ok.is c.in-Some.ensures.1.1.1.0);
}
