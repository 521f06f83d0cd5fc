use Rattle.std.proofs.Common.{rules, length, refl}
use Rattle.std.proofs.lemmas.Option.{slice_get_read}
use Rattle.cspf_work.proofs.Asked.{done_more_known, done_next}
use Rattle.cspf_work.proofs.worker_loop.serve_one.Goals as goal

pub returns-then-is_err-clause-done : goal.returns-then-is_err-clause-done
returns-then-is_err-clause-done g c = λ before was.
    done_more_known c.args.requests.now before c.args.worker.now _ (record { source = c.ask.ensures.source; later = c.ask.ensures.later }) (search rules) was

pub returns-clause-done : goal.returns-clause-done
returns-clause-done g c = λ before was.
    done_next c.args.requests.now before c.args.worker.now _ c.index-requests-index.result (record { index = c.args.index; answer = c.in_ok-answer.answer })
    (record { source = c.ask.ensures.source; later = c.ask.ensures.later }) (search rules) (search rules)
    (slice_get_read c.args.requests.now (length c.args.requests.now) c.args.index c.index-requests-index.result refl (search rules) c.index-requests-index.is) (search rules) was

pub returns-in_err-answer-clause-done : goal.returns-in_err-answer-clause-done
returns-in_err-answer-clause-done g c = λ before was.
    done_more_known c.args.requests.now before c.args.worker.now _ (record { source = c.ask.ensures.source; later = c.ask.ensures.later }) refl was
