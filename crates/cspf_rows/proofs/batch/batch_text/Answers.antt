use Rattle.std.proofs.Common.{rules}
use Rattle.cspf_rows.proofs.Lines.{batch_text-lines}
use Rattle.cspf_rows.proofs.batch.batch_text.Goals as goal

pub returns : goal.returns
returns c = rw (← batch_text-lines c.args.batch.now) (search rules)
