use Rattle.std.proofs.Common.{sym, ◌∙◌, ap, subst}
use Rattle.cspf_journal.specs.Histories.{MayFollow}
use Rattle.cspf_journal.specs.KnownBatches.{KnownBatches}
use Rattle.cspf_journal.proofs.BatchAddition.{adds_moves}
use Rattle.cspf_journal.proofs.batch_list.BatchList.add.Goals as goal

pub compare_exchange-found-requires : goal.compare_exchange-found-requires
compare_exchange-found-requires c =
    let h = c.self.invariant in
    let offer = c.plain-offer.ensures in
    let pen = c.no_pen-pen.ensures in
    let seen = c.seen-seen.ensures in
    let source = seen.source ∙ sym (ap (λ w. w.book) h) in (
      ap (λ w. w.tracked) h,
      source,
      pen.0 ∙ source,
      offer.0,
      rw (ap (λ w. w.key) h, pen.1, offer.1, offer.3) (adds_moves c.lawful_batches.ensures.more _ c.self.inside.kept.batches c.args.batch.now c.version-old.result (sym c.version-old.ensures.version) seen.recorded (subst (λ (k : KnownBatches). MayFollow k.batches c.args.batch.now) (sym c.self.view_is) c.requires)),
    )
