use Rattle.std.proofs.Common.{◌≡◌, take}
use Rattle.std.specs.List.{flat_map}
use Rattle.cspf_book_run.specs.RouteText.{link_bytes}
use Rattle.cspf_book_run.proofs.route_field.path_bytes.Given as goal

-- the bytes that are written so far are those of the links before the index `link-index`
abbrev pub invariant-loop-link : goal.invariant-loop-link
invariant-loop-link l = l.bytes.items ≡ flat_map link_bytes (take l.link-index l.path)
