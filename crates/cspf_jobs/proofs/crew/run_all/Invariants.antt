use Rattle.std.proofs.Common.{vec_len}
use Rattle.cspf_jobs.proofs.crew.run_all.Given as goal

-- In the proof of this call, the number of jobs is the length of `jobs`. A `Go` of the run shows
-- this number.
abbrev pub ghosts-run_with : goal.ghosts-run_with
ghosts-run_with g a = record { jobs = vec_len a.jobs }
