use Rattle.std.proofs.lemmas.Result.{err_from_is_err_and}
use Rattle.cspf_serve.proofs.streams.refusing.refuse.Goals as goal

pub returns-in_err-refuse-clause-last : goal.returns-in_err-refuse-clause-last
returns-in_err-refuse-clause-last g c =
    let ends = err_from_is_err_and c.from_residual.result c.from_residual.ensures.1 in
    rw ends.1 (c.in_err-refuse.field-0.0, c.in_err-refuse.ensures.error, ends.2)
