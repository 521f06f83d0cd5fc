use Rattle.std.proofs.Common.{◌↔◌, drop}
use Rattle.cspf_book.specs.PathsFrom.{LeadFromTo}
use Rattle.cspf_book.proofs.path.Path.leads.Given as goal

abbrev pub invariant-loop-link : goal.invariant-loop-link
invariant-loop-link l =
    LeadFromTo l.router l.to (drop l.link-index l.link-items) ↔ LeadFromTo l.fn.from l.to l.link-items
