use Rattle.std.proofs.Common.{◌≡◌, take}
use Rattle.cspf_work.specs.Working.{indexes}
use Rattle.cspf_work.proofs.collecting.indexes_of.Given as goal

abbrev pub invariant-loop-reply : goal.invariant-loop-reply
invariant-loop-reply l = l.all.items ≡ indexes (take l.reply-index l.list)
