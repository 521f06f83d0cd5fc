use Rattle.std.proofs.Common.{◌++◌, codes, refl}
use Rattle.std.proofs.lemmas.Result.{IfOk-weaker}
use Rattle.std.specs.Fmt.{decimal}
use Rattle.cspf_book_run.proofs.placement_line.offer_line.Goals as goal

pub returns : goal.returns
returns c =
    IfOk-weaker c.reply_line_as.result _ _
    (λ line is. (codes " " ++ decimal c.args.id ++ codes " v" ++ decimal c.args.version ++ codes " " ++ is.0 ++ codes "\n", (is.0, is.1, refl), is.2))
    c.reply_line_as.ensures.line
