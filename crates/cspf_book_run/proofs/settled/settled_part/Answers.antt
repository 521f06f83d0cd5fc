use Rattle.std.proofs.Common.{sym, ap, ◌∙◌}
use Rattle.cspf_book_run.specs.Settled.{is_settling}
use Rattle.cspf_book_run.proofs.SettledParts.{cut_at_first, cut_settled, cut_other, settled_at_last}
use Rattle.cspf_book_run.proofs.settled.settled_part.Goals as goal

pub loop-size-init : goal.loop-size-init
loop-size-init c = cut_at_first c.args.text.now

pub loop-size-preserved-then-is_settling : goal.loop-size-preserved-then-is_settling
loop-size-preserved-then-is_settling c =
    rw c.split_at.ensures.back (cut_settled c.args.text.now c.loop-size.rest.now c.loop-size.at c.loop-size.settled c.in-Some.size c.loop-size.invariant (sym c.in-Some.ensures)
    (ap is_settling (sym c.split_at.ensures.front) ∙ sym c.if-is_settling.ensures))

pub loop-size-preserved : goal.loop-size-preserved
loop-size-preserved c =
    rw c.split_at.ensures.back (cut_other c.args.text.now c.loop-size.rest.now c.loop-size.at c.loop-size.settled c.in-Some.size c.loop-size.invariant (sym c.in-Some.ensures)
    (ap is_settling (sym c.split_at.ensures.front) ∙ sym c.if-is_settling.ensures))

pub returns : goal.returns
returns c = settled_at_last c.args.text.now c.loop-size.rest.now c.loop-size.at c.loop-size.settled c.loop-size.invariant (sym c.in_default.ensures)
