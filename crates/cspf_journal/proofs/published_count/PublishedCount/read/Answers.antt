use Rattle.std.proofs.Common.{sym, ◌∙◌, ap}
use Rattle.cspf_journal.proofs.Counting.{reads_moves}
use Rattle.cspf_journal.proofs.published_count.PublishedCount.read.Goals as goal

pub load-requires : goal.load-requires
load-requires c =
    let h = c.self.invariant in
    let offer = c.plain-offer.ensures in (
      ap (λ w. w.tracked) h,
      c.requires ∙ sym c.self.view_is,
      offer.0,
      rw (ap (λ w. w.key) h, offer.1, offer.3) (reads_moves _ c.args.row.reader c.args.row.place 0),
    )
