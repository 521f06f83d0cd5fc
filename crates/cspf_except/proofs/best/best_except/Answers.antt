use Rattle.std.proofs.Common.{IfOk, subst}
use Rattle.cspf_model.specs.Database.{Database}
use Rattle.cspf_model.specs.Outcome.{answer_of}
use Rattle.cspf_except.specs.BestExcept.{IsBestExcept}
use Rattle.cspf_except.proofs.best.best_except.Goals as goal

pub returns : goal.returns
returns c =
    subst (λ (d : Database). IfOk c.best_except_in.result (λ outcome. IsBestExcept d c.args.request.now c.args.exclusions.now (answer_of outcome)))
    c.in_ok-copy.ensures c.best_except_in.ensures
