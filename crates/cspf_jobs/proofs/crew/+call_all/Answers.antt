use Rattle.std.proofs.Common.{◌≡◌, IsOkAnd, MatchResult, Err, rules, sym, ap, ◌∙◌, subst₂, arith}
use Rattle.cspf_jobs.proofs.JobSteps.{zip_front, gone_none, keeps, gone_more}
use Rattle.std.proofs.lemmas.Bool.Decides.{nat_tests}
use Rattle.cspf_jobs.proofs.crew.+call_all.Goals as goal

pub returns-then-is_empty-clause-gone : goal.returns-then-is_empty-clause-gone
returns-then-is_empty-clause-gone g t c =
    let none = c.if-is_empty.ensures in
    gone_none g.W.Doer.done g.M.Doer.done (g.W.Doer.ready g.N.JobCount.jobs) c.args.workers.now.items c.args.jobs.now c.args.outputs.now.items c.args.last c.finish.result.0.value c.finish.result.1
    (grind (arith, nat_tests)) c.requires.none c.requires.ready.0
    c.finish.ensures.ended

pub spawn_with-requires-clause-runs : goal.spawn_with-requires-clause-runs
spawn_with-requires-clause-runs g t c κs within =
    (zip_front (g.W.Doer.ready g.N.JobCount.jobs) c.take_last-worker.new.self.items c.take_last-job.new.self.items c.take_last-worker.result c.take_last-job.result
    (rw (sym c.take_last-worker.ensures.items, sym c.take_last-job.ensures.items) c.requires.ready.0)).1

pub call_all-said-requires-clause-ready : goal.call_all-said-requires-clause-ready
call_all-said-requires-clause-ready g t c κs within = (
  (zip_front (g.W.Doer.ready g.N.JobCount.jobs) c.take_last-worker.new.self.items c.take_last-job.new.self.items c.take_last-worker.result c.take_last-job.result
      (rw (sym c.take_last-worker.ensures.items, sym c.take_last-job.ensures.items) c.requires.ready.0)).0,
  c.requires.ready.1,
)

pub join-came-requires-clause-runs : goal.join-came-requires-clause-runs
join-came-requires-clause-runs g t c =
    let ready = (zip_front (g.W.Doer.ready g.N.JobCount.jobs) c.take_last-worker.new.self.items c.take_last-job.new.self.items c.take_last-worker.result c.take_last-job.result
    (rw (sym c.take_last-worker.ensures.items, sym c.take_last-job.ensures.items) c.requires.ready.0)).1 in search rules

pub keep-requires : goal.keep-requires
keep-requires g t c =
    let room = c.requires.room in
    let fits = c.args.jobs.now.ok.1 in
    let one = c.take_last-job.ensures.len in
    keeps g.W.Doer.done g.M.Doer.done c.take_last-worker.new.self.items c.take_last-job.new.self c.call_all-said.new.jobs c.call_all-said.new.outputs c.args.last
    c.take_last-worker.result c.take_last-job.result c.call_all-said.result.0.value c.call_all-said.result.1 c.join-came.result.ended c.call_all-said.ensures.gone
    (subst₂ (λ w j. MatchResult c.call_all-said.result.0.value (λ go. IsOkAnd c.join-came.result.ended (g.W.Doer.done w j)) (λ not. c.join-came.result.ended ≡ Err j))
    (ap (λ p. p.worker.value) c.of-promise.ensures ∙ c.of.ensures) (ap (λ p. p.job.value) c.of-promise.ensures ∙ c.of-2.ensures) (rw c.agrees.ensures c.join-came.ensures.ended))
    (rw c.take_last-job.ensures.capacity (omega arith)) (rw c.call_all-said.ensures.capacity (omega arith))

pub returns-clause-gone : goal.returns-clause-gone
returns-clause-gone g t c =
    gone_more g.W.Doer.done g.M.Doer.done c.args.workers.now.items c.take_last-worker.new.self.items c.args.jobs.now c.take_last-job.new.self c.call_all-said.new.jobs c.keep.new.jobs
    c.call_all-said.new.outputs c.keep.new.outputs c.args.last c.take_last-worker.result c.take_last-job.result c.call_all-said.result.0.value c.call_all-said.result.1 c.join-came.result.ended
    c.call_all-said.ensures.gone
    (subst₂ (λ w j. MatchResult c.call_all-said.result.0.value (λ go. IsOkAnd c.join-came.result.ended (g.W.Doer.done w j)) (λ not. c.join-came.result.ended ≡ Err j))
    (ap (λ p. p.worker.value) c.of-promise.ensures ∙ c.of.ensures) (ap (λ p. p.job.value) c.of-promise.ensures ∙ c.of-2.ensures) (rw c.agrees.ensures c.join-came.ensures.ended))
    c.take_last-worker.ensures.items c.take_last-job.ensures.items c.take_last-job.ensures.in_place c.take_last-job.ensures.capacity c.keep.ensures.jobs c.keep.ensures.outputs
