use Rattle.std.proofs.Common.{sym, ◌∙◌, arith}
use Rattle.cspf_addr.proofs.PrefixLemmas.{length_none, length_more, length_fits}
use Rattle.cspf_addr.proofs.prefix.read_length.Goals as goal

pub returns-in_default-clause-value : goal.returns-in_default-clause-value
returns-in_default-clause-value c =
    sym
    (length_none c.args.text.now (sym c.is_decimal.ensures ∙ c.if-not-is_decimal.false) (sym c.number.ensures.value ∙ c.in_default.is))

pub returns-then-bits-gt32-clause-value : goal.returns-then-bits-gt32-clause-value
returns-then-bits-gt32-clause-value c =
    sym
    (length_more c.args.text.now c.in-Some.bits (sym c.is_decimal.ensures ∙ c.if-not-is_decimal.false) (sym c.number.ensures.value ∙ c.in-Some.is) (omega arith))

pub returns-clause-value : goal.returns-clause-value
returns-clause-value c =
    sym
    (length_fits c.args.text.now c.in-Some.bits (sym c.is_decimal.ensures ∙ c.if-not-is_decimal.false) (sym c.number.ensures.value ∙ c.in-Some.is) (omega arith))
