use Rattle.std.proofs.Common.{arith}
use Rattle.cspf_addr.proofs.DigitLemmas.{digits_more_none, digits_more_some, digits_whole}
use Rattle.cspf_addr.proofs.decimal.value.Goals as goal

pub returns-in_err-value-clause-none : goal.returns-in_err-value-clause-none
returns-in_err-value-clause-none c =
    rw c.from_residual.ensures
    (digits_more_none c.args.base c.args.text.now c.loop-byte.byte-index c.loop-byte.value (omega arith) c.loop-byte-test.true c.loop-byte.invariant.digits.1 c.in_err-value.ensures.none)

pub loop-byte-preserved : goal.loop-byte-preserved
loop-byte-preserved c = record {
  digits =
      digits_more_some c.args.base c.args.text.now c.loop-byte.byte-index c.loop-byte.value c.in_ok-value.value c.loop-byte-test.true c.loop-byte.invariant.digits c.in_ok-value.ensures.some;
  small = c.in_ok-value.ensures.small;
}

pub returns-clause-some : goal.returns-clause-some
returns-clause-some c =
    digits_whole c.args.base c.args.text.now c.loop-byte.byte-index c.loop-byte.value (omega arith)
    c.loop-byte.invariant.digits
