use Rattle.std.proofs.Common.{◌∙◌}
use Rattle.cspf_book.proofs.changed.Changed.last_on.Goals as goal

pub returns : goal.returns
returns c = rw (← c.self.view_is) (c.get.ensures.value ∙ c.self.invariant.last_at c.args.key)
