use Rattle.cspf_stream.proofs.Going.{line_stopped}
use Rattle.cspf_stream.proofs.stream.put_line.Goals as goal

pub returns-clause-stopped : goal.returns-clause-stopped
returns-clause-stopped g c = line_stopped c.put_counted.result.1 c.put_counted.result.0 _ _ _ _ c.put_counted.ensures.stopped
