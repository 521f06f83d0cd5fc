use Rattle.std.proofs.Common.{rules}
use Rattle.cspf_rows.proofs.Lines.{line_text-put}
use Rattle.cspf_rows.proofs.batch.write_put.Goals as goal

pub returns : goal.returns
returns c =
    search (rules, line_text-put _ _ _ c.args.link.now c.in_ok-write_attributes.ensures c.in_ok-write_bandwidths.ensures)
