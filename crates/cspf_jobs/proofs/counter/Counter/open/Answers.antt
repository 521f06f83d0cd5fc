use Rattle.cspf_jobs.proofs.DrawSteps.{opens}
use Rattle.cspf_jobs.proofs.counter.Counter.open.Goals as goal

pub of_words-requires : goal.of_words-requires
of_words-requires c = opens _ c.requires
