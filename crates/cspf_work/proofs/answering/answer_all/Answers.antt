use Rattle.std.proofs.Common.{rules}
use Rattle.std.proofs.lemmas.Result.{IfOk-at_ok}
use Rattle.cspf_work.specs.Served.{AreAnsweredByWorkers, AreSameAskers}
use Rattle.cspf_work.proofs.Running.{left_of, of_results}
use Rattle.cspf_work.proofs.answering.answer_all.Goals as goal

pub finish-askers-requires-clause-results : goal.finish-askers-requires-clause-results
finish-askers-requires-clause-results g c =
    left_of _ _ c.args.requests.now c.args.askers.items _ _ _ c.in-Ok-employ.ensures.counter (c.in-Ok-employ.ensures.ready c.args.requests.now (search rules)) c.run_workers-results.ensures.results

pub returns-in-Ok-collected-clause-answers : goal.returns-in-Ok-collected-clause-answers
returns-in-Ok-collected-clause-answers g c =
    of_results (λ known. AreAnsweredByWorkers c.args.requests.now known c.finish-askers.result.0.items c.in-Ok-collected.field-0.list.items c.in-Ok-collected.field-0.drawn.items) _ _ c.args.requests.now c.args.askers.items _ _ _ c.in-Ok-employ.ensures.counter (c.in-Ok-employ.ensures.ready c.args.requests.now (search rules)) c.run_workers-results.ensures.results (IfOk-at_ok _ c.in-Ok-collected.is c.finish-askers.ensures.answers)

pub returns-in-Ok-collected-clause-askers : goal.returns-in-Ok-collected-clause-askers
returns-in-Ok-collected-clause-askers g c =
    of_results (λ known. AreSameAskers known c.finish-askers.result.0.items) _ _ c.args.requests.now c.args.askers.items _ _ _ c.in-Ok-employ.ensures.counter (c.in-Ok-employ.ensures.ready c.args.requests.now (search rules)) c.run_workers-results.ensures.results c.finish-askers.ensures.askers

pub returns-in-Err-collected-clause-back : goal.returns-in-Err-collected-clause-back
returns-in-Err-collected-clause-back g c =
    of_results (λ known. AreSameAskers known c.finish-askers.result.0.items) _ _ c.args.requests.now c.args.askers.items _ _ _ c.in-Ok-employ.ensures.counter (c.in-Ok-employ.ensures.ready c.args.requests.now (search rules)) c.run_workers-results.ensures.results c.finish-askers.ensures.askers
