use Rattle.std.proofs.Common.{◌≡◌, take}
use Rattle.std.specs.List.{flat_map}
use Rattle.cspf_book_run.specs.HeldRows.{held_text}
use Rattle.cspf_book_run.proofs.compact.placements_text.Given as goal

-- the rows of the placements before this index are written
abbrev pub invariant-loop-placement : goal.invariant-loop-placement
invariant-loop-placement l = l.text.items ≡ flat_map held_text (take l.placement-index l.placements)
