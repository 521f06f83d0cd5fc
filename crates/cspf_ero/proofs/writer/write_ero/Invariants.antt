use Rattle.std.proofs.Common.{◌≡◌, ◌++◌, take}
use Rattle.std.specs.List.{flat_map}
use Rattle.cspf_ero.specs.Objects.{subobject_of}
use Rattle.cspf_ero.proofs.writer.write_ero.Given as goal

-- the bytes that are written so far are the header, followed by one subobject for each link before
-- the index `link-index`
abbrev pub invariant-loop-link : goal.invariant-loop-link
invariant-loop-link l = l.object.items ≡ l.initial.object.items ++ flat_map subobject_of (take l.link-index l.links)
