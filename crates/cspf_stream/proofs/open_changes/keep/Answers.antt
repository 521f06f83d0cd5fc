use Rattle.std.proofs.Common.{◌∙◌, arith}
use Rattle.cspf_stream.proofs.KeptChanges.{kept_more, kept_full}
use Rattle.cspf_stream.proofs.open_changes.keep.Goals as goal

pub returns-then-len-ge-KEPT_CHANGES-clause-kept : goal.returns-then-len-ge-KEPT_CHANGES-clause-kept
returns-then-len-ge-KEPT_CHANGES-clause-kept c = λ all front. kept_full c.args.changes.now.items all c.args.change front (omega arith)

pub returns-clause-kept : goal.returns-clause-kept
returns-clause-kept c = λ all front. c.in_ok-push.ensures.items ∙ kept_more c.args.changes.now.items all c.args.change front (omega arith)
