use Rattle.cspf_serve.proofs.PublishingSteps.{last_put}
use Rattle.cspf_serve.proofs.serving.served_run.say_last.Goals as goal

pub returns-in-Ok : goal.returns-in-Ok
returns-in-Ok g c =
    last_put c.put_line.result (g.A.Publishing.spec.last c.args.updates.now) c.in-Ok.line.items (g.W.Write.contents c.args.said.now) (g.W.Write.contents c.put_line.new.writer) c.in-Ok.ensures
    (rw c.as_slice.ensures.value at c.put_line.ensures.whole) (rw c.as_slice.ensures.value at c.put_line.ensures.stopped)
