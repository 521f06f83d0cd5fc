use Rattle.std.proofs.Common.{◌+◌, cond, nat_le, slice_index, ap, ◌∙◌}
use Rattle.cspf_book.proofs.KeptSums.{put_more}
use Rattle.cspf_book.proofs.counts.Counts.raise.Goals as goal

pub returns-clause-sums : goal.returns-clause-sums
returns-clause-sums c =
    put_more c.args.self.now c.put.new.self (c.args.from, c.args.local) c.raised.result c.args.hold c.args.bandwidth c.put.ensures
    (λ p small. c.raised.ensures p small ∙ ap (λ ns. slice_index ns p + cond (nat_le c.args.hold p) c.args.bandwidth 0) c.sums-sums.ensures)
