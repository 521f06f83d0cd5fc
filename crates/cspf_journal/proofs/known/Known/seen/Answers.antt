use Rattle.std.proofs.Common.{ap}
use Rattle.cspf_journal.proofs.Prefixes.{BeginsWith-take}
use Rattle.cspf_journal.proofs.known.Known.seen.Goals as goal

pub returns-clause-recorded : goal.returns-clause-recorded
returns-clause-recorded c = rw (← c.self.view_is, ap (λ s. s.log) c.again.ensures) (BeginsWith-take _ _)
