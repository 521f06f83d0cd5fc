use Rattle.std.proofs.Common.{sym, ◌∙◌}
use Rattle.cspf_book.proofs.RouterBits.{apart_bits, common_among}
use Rattle.cspf_book.proofs.touched.Touched.may_affect.Goals as goal

pub returns-then-self-bits : goal.returns-then-self-bits
returns-then-self-bits c = λ none router far near there its _.
    apart_bits c.args.self.now.bits c.args.bits router (sym c.has_quarters.ensures ∙ none) near its

pub returns-else-self-bits : goal.returns-else-self-bits
returns-else-self-bits c = λ none router far near there its is.
    c.if-self-bits.false (common_among c.args.bits c.args.self.now.common router far near there is)
