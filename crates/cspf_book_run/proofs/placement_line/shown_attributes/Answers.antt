use Rattle.std.proofs.Common.{◌∙◌, append_assoc}
use Rattle.std.proofs.lemmas.Result.{IfOk-weaker}
use Rattle.cspf_book_run.proofs.placement_line.shown_attributes.Goals as goal

pub returns : goal.returns
returns c = IfOk-weaker c.format.result _ _ (λ text is. is ∙ rw c.links.ensures (simp append_assoc)) c.format.ensures.ok
