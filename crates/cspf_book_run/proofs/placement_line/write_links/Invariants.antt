use Rattle.std.proofs.Common.{◌≡◌, ◌++◌, take}
use Rattle.std.specs.List.{flat_map}
use Rattle.cspf_book_run.specs.PlacementLines.{link_item}
use Rattle.cspf_book_run.proofs.placement_line.write_links.Given as goal

-- The items of the links before this index are written.
abbrev pub invariant-loop-link : goal.invariant-loop-link
invariant-loop-link l = l.line.items ≡ l.fn.line.items ++ flat_map link_item (take l.link-index l.links)
