use Rattle.std.proofs.lemmas.Result.{IfOk-weaker}
use Rattle.cspf_model.specs.Outcome.{answer_of}
use Rattle.cspf_except.proofs.BestAnswers.{best_left}
use Rattle.cspf_except.proofs.best.answer_between_known.Goals as goal

pub returns : goal.returns
returns c =
    IfOk-weaker c.route_or_none.result _ _
    (λ outcome is. best_left c.args.table c.in_ok-left.left c.args.request.now c.args.exclusions.now (answer_of outcome) c.requires c.in_ok-left.ensures is)
    c.route_or_none.ensures
