use Rattle.std.proofs.Common.{sym, ◌∙◌, ap, arith}
use Rattle.cspf_journal.proofs.Counting.{counts_moves}
use Rattle.cspf_journal.proofs.published_count.PublishedCount.move_to.Goals as goal

pub compare_exchange-found-requires : goal.compare_exchange-found-requires
compare_exchange-found-requires c =
    let h = c.self.invariant in
    let offer = c.plain-offer.ensures in
    let pen = c.no_pen-pen.ensures in
    let source = c.requires.source ∙ sym c.self.view_is in (
      ap (λ w. w.tracked) h,
      source,
      pen.0 ∙ source,
      offer.0,
      rw (ap (λ w. w.key) h, pen.1, offer.1, offer.3, c.from.ensures) (counts_moves c.args.seen.now.log c.from-old.result c.args.count (omega (arith, c.from-old.ensures, c.requires.recorded.0)) c.requires.recorded.1),
    )
