use Rattle.cspf_columns.proofs.RouterPlaces.{any_span}
use Rattle.cspf_columns.proofs.rows.begins.Goals as goal

pub returns : goal.returns
returns c = any_span _ c.args.rows.now c.span-first.result.0 c.span-first.result.1 c.span-first.ensures.bound c.span-first.ensures.rows
