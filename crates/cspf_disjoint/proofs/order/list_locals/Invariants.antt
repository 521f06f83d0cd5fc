use Rattle.std.proofs.Common.{◌≡◌, take}
use Rattle.cspf_model.specs.Walks.{locals_of}
use Rattle.cspf_disjoint.proofs.order.list_locals.Given as goal

abbrev pub invariant-loop-link : goal.invariant-loop-link
invariant-loop-link l = record { items : l.locals.items ≡ locals_of (take l.link-index l.links) }
