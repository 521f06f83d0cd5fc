use Rattle.cspf_c.specs.Calls.{AreGiven}
use Rattle.cspf_c.proofs.Given.{given_called, not_called}
use Rattle.cspf_c.proofs.calls.routed_rows.Goals as goal

pub returns-then-code-eq-ANSWERED-clause-called : goal.returns-then-code-eq-ANSWERED-clause-called
returns-then-code-eq-ANSWERED-clause-called c =
    given_called c.args.bytes.now c.lines_size-lines.result c.keep_session-code.result c.into_inner.result c.answer-made.result c.args.handle.now.value c.keep_session-code.new.handle.value
    (rw c.into_inner.ensures c.in-Some.ensures.held) c.answer-made.ensures c.lines_size-lines.ensures c.keep_session-code.ensures

pub returns-else-code-eq-ANSWERED-clause-called : goal.returns-else-code-eq-ANSWERED-clause-called
returns-else-code-eq-ANSWERED-clause-called c =
    not_called (AreGiven c.args.bytes.now c.args.size.now) c.keep_session-code.result c.into_inner.result c.answer-made.result c.args.handle.now.value c.keep_session-code.new.handle.value
    (rw c.into_inner.ensures c.in-Some.ensures.held) c.if-code-eq-ANSWERED.false c.keep_session-code.ensures
