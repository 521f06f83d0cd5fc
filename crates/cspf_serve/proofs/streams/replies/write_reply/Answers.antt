use Rattle.std.proofs.Common.{inl, inr}
use Rattle.std.proofs.KnownBytes.{Keeps-refl}
use Rattle.std.proofs.lemmas.Result.{on_err_weaker}
use Rattle.cspf_judge.proofs.Fronts.{at_error}
use Rattle.cspf_serve.proofs.streams.replies.write_reply.Goals as goal

pub returns-in_err-line-clause-begun : goal.returns-in_err-line-clause-begun
returns-in_err-line-clause-begun g c = at_error _ c.from_residual.result (inl (Keeps-refl (g.W.Write.contents c.args.writer.now)))

pub returns-clause-begun : goal.returns-clause-begun
returns-clause-begun g c =
    on_err_weaker c.put.result (λ begun. inr (c.in_ok-line.line.items, c.in_ok-line.ensures.line, begun)) (rw c.deref.ensures.value at c.put.ensures.front)
