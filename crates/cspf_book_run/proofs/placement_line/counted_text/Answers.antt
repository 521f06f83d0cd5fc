use Rattle.std.proofs.Common.{append_assoc, arith}
use Rattle.std.proofs.lemmas.Result.{IfOk-weaker}
use Rattle.cspf_book_run.proofs.FigureTexts.{eight_figures}
use Rattle.cspf_book_run.proofs.placement_line.counted_text.Goals as goal

pub returns : goal.returns
returns c =
    let eight = eight_figures c.args.figures.now (omega (arith, c.told-figures)) in
    IfOk-weaker c.format.result _ _ (λ text is. rw is (rw eight (simp append_assoc))) c.format.ensures.ok
