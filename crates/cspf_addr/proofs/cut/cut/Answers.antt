use Rattle.std.proofs.Common.{◌∙◌, length, sym}
use Rattle.std.proofs.Math.Seq.{drop-length}
use Rattle.std.proofs.lemmas.List.{take_rest}
use Rattle.cspf_addr.proofs.CutLemmas.{before_some, after_some, before_none, after_none}
use Rattle.cspf_addr.proofs.cut.cut.Goals as goal

pub returns-in-Some-clause-before : goal.returns-in-Some-clause-before
returns-in-Some-clause-before c =
    before_some c.args.mark c.args.text.now c.in-Some.at (sym c.in-Some.ensures)

pub returns-in-Some-clause-after : goal.returns-in-Some-clause-after
returns-in-Some-clause-after c =
    after_some c.args.mark c.args.text.now c.in-Some.at (sym c.in-Some.ensures)

pub returns-in-None-clause-before : goal.returns-in-None-clause-before
returns-in-None-clause-before c = before_none c.args.mark c.args.text.now (sym c.in-None.ensures)

pub returns-in-None-clause-after : goal.returns-in-None-clause-after
returns-in-None-clause-after c =
    take_rest c.args.text.now (length c.args.text.now) ∙ drop-length c.args.text.now
    ∙ after_none c.args.mark c.args.text.now (sym c.in-None.ensures)
