use Rattle.cspf_journal.proofs.Knowing.{known_in}
use Rattle.cspf_journal.proofs.known.Known.steps.Goals as goal

pub returns-clause-recorded : goal.returns-clause-recorded
returns-clause-recorded c = rw (← c.self.view_is, c.new.ensures) (known_in _ _ c.learn.new.self.log c.learn.ensures.3)
