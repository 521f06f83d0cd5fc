use Rattle.std.proofs.Common.{◌≡◌, ◌++◌, map, take}
use Rattle.std.specs.Fmt.{decimal}
use Rattle.cspf_rows.specs.BatchText.{fields_after}
use Rattle.cspf_rows.proofs.batch.write_bandwidths.Given as goal

-- the bandwidths whose index is below `bandwidth-index` are written
abbrev pub invariant-loop-bandwidth : goal.invariant-loop-bandwidth
invariant-loop-bandwidth l = l.text.items ≡ l.fn.text.items ++ fields_after (map decimal (take l.bandwidth-index l.free))
