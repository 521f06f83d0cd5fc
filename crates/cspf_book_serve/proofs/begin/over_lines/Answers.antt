use Rattle.std.proofs.Common.{List, ap, ◌∙◌}
use Rattle.std.specs.List.{flat_map}
use Rattle.std.proofs.lemmas.Result.{IfOk-weaker}
use Rattle.cspf_model.specs.Changes.{changes_of}
use Rattle.cspf_model.specs.Numbered.{NumberedChanges}
use Rattle.cspf_book.specs.OverLinks.{over}
use Rattle.cspf_book_run.specs.BookLines.{over_line}
use Rattle.cspf_book_serve.proofs.BeginLines.{snapshot_lines}
use Rattle.cspf_book_serve.proofs.begin.over_lines.Goals as goal

pub returns : goal.returns
returns c =
    let book = c.args.book.now in
    IfOk-weaker c.over_lines_of.result _ _
    (λ lines is. is ∙ ap (λ (making : List NumberedChanges). flat_map over_line (over book.placements (changes_of making))) c.as_slice.ensures.value
    ∙ snapshot_lines book c.in_ok-making.making.items (rw (c.base.ensures) at c.in_ok-making.ensures))
    c.over_lines_of.ensures
