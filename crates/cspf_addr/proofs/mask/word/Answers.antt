use Rattle.std.proofs.Common.{arith}
use Rattle.cspf_addr.proofs.MaskLemmas.{word_none, short_value}
use Rattle.cspf_addr.proofs.mask.word.Goals as goal

pub returns-in_err-bits : goal.returns-in_err-bits
returns-in_err-bits c =
    rw c.from_residual.ensures (word_none c.args.digits.now c.requires c.in_err-bits.ensures.none)

pub overflow_cast-result : goal.overflow_cast-result
overflow_cast-result c =
    let value = c.in_ok-bits.ensures.some in
    omega (arith, value.1, short_value c.args.digits.now c.requires value.0)
