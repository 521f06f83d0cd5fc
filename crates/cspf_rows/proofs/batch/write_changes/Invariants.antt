use Rattle.std.proofs.Common.{◌≡◌, ◌++◌, take}
use Rattle.std.specs.List.{flat_map}
use Rattle.cspf_rows.specs.BatchText.{record_line, change_fields}
use Rattle.cspf_rows.proofs.batch.write_changes.Given as goal

-- the lines of the changes before the loop's index are written
abbrev pub invariant-loop-change : goal.invariant-loop-change
invariant-loop-change l =
    l.text.items ≡ l.fn.text.items ++ flat_map (λ change. record_line (change_fields change)) (take l.change-index l.changes)
