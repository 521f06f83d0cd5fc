use Rattle.std.proofs.Common.{sym, ◌∙◌}
use Rattle.cspf_addr.proofs.NumberLemmas.{number_value, number_refused, number_some, number_none, number_only}
use Rattle.cspf_addr.proofs.decimal.number.Goals as goal

pub returns-then-has_plain_start : goal.returns-then-has_plain_start
returns-then-has_plain_start c =
    let value = number_value _ _ (sym c.has_plain_start.ensures ∙ c.if-has_plain_start.true) c.value.ensures.some c.value.ensures.none c.value.ensures.small in
    record { value = value; some = number_some _ _ value; none = number_none _ _ value; only = number_only _ _ value }

pub returns-else-has_plain_start : goal.returns-else-has_plain_start
returns-else-has_plain_start c =
    let refused = sym (number_refused _ (sym c.has_plain_start.ensures ∙ c.if-has_plain_start.false)) in
    record { value = refused; some = number_some _ _ refused; none = number_none _ _ refused; only = number_only _ _ refused }
