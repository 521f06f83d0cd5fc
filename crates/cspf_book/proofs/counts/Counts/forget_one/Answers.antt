use Rattle.std.proofs.Common.{sym, ap, ◌∙◌}
use Rattle.std.specs.Cmp.Lexicographic.{bytes_decides}
use Rattle.cspf_book.specs.Kept.{no_sums, sums_at}
use Rattle.cspf_book.proofs.KeptSums.{forgotten_sums}
use Rattle.cspf_book.proofs.counts.Counts.forget_one.Goals as goal

pub returns-then-eq : goal.returns-then-eq
returns-then-eq c =
    let zeros = (bytes_decides c.sums-sums.result no_sums).0 (sym (c.if-eq.ensures {u = tt})) in
    forgotten_sums c.args.self.now (record { sums = c.remove.new.self }) (c.number.result, c.number-then-eq.result)
    (ap (sums_at c.args.self.now) (λ i. (c.number.ensures i, c.number-then-eq.ensures i)) ∙ sym c.sums-sums.ensures ∙ zeros) c.remove.ensures.updates.0
