use Rattle.std.proofs.Common.{sym, ap, ◌∙◌}
use Rattle.cspf_book.specs.Placements.{key_passed}
use Rattle.cspf_book.proofs.KeptSums.{more_along, more_again, keeps_keys_on}
use Rattle.cspf_book.proofs.counts.Counts.add.Goals as goal
use Rattle.cspf_book.proofs.counts.Counts.add.Goals.{then-not-has_key, else-not-has_key}

pub loop-i-preserved : goal.loop-i-preserved
loop-i-preserved c =
    let l = c.index-links-i.result in
    let links = c.links-links.result.now in
    let its = ap key_passed (sym c.index-links-i.is) in
    elim c.if-not-has_key.branch [
      | then-not-has_key w ↦
          rw w.self-is
          (record {
            sums = more_along links c.loop-i.i l (l.from, l.local) c.args.placement.now.hold c.args.placement.now.request.bandwidth c.loop-i-test.true its c.args.self.now c.loop-i.self w.raise.new.self (sym c.has_key.ensures ∙ w.if-not-has_key.true) c.loop-i.invariant.sums w.raise.ensures.sums;
            kept = keeps_keys_on c.args.self.now c.loop-i.self w.raise.new.self c.loop-i.invariant.kept w.raise.ensures.kept;
          })
      | else-not-has_key w ↦
          rw w.self-is
          (record {
            sums = more_again links c.loop-i.i l (l.from, l.local) c.args.placement.now.hold c.args.placement.now.request.bandwidth c.loop-i-test.true its c.args.self.now c.loop-i.self (sym c.has_key.ensures ∙ w.if-not-has_key.false) c.loop-i.invariant.sums;
            kept = c.loop-i.invariant.kept;
          })
    ]
