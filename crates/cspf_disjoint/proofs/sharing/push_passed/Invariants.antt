use Rattle.std.proofs.Common.{◌≡◌, ◌++◌, map, take}
use Rattle.cspf_model.specs.declared.link.Link.{Link}
use Rattle.cspf_disjoint.proofs.sharing.push_passed.Given as goal

abbrev pub invariant-loop-link : goal.invariant-loop-link
invariant-loop-link l = record {
  items : l.routers.items ≡ l.fn.routers.items ++ map (λ (m : Link). m.from) (take l.link-index l.rest);
}
