use Rattle.std.proofs.Common.{vec_len}
use Rattle.cspf_jobs.proofs.crew.+call_all.Given as goal

abbrev pub decreases-call_all : goal.decreases-call_all
decreases-call_all g l = vec_len l.jobs.now
