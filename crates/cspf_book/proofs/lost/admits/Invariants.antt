use Rattle.std.proofs.Common.{◌↔◌, drop}
use Rattle.cspf_model.specs.Changes.{after_changes}
use Rattle.cspf_book.specs.LostRoutes.{without_bandwidth}
use Rattle.cspf_book.proofs.RouteWalks.{IsFollowed}
use Rattle.cspf_book.proofs.lost.admits.Given as goal

abbrev pub invariant-loop-i : goal.invariant-loop-i
invariant-loop-i l =
    let d = after_changes l.base l.changes in
    let q = without_bandwidth l.placement.request in
    IsFollowed d q l.i l.router (drop l.i l.placement.route) ↔ IsFollowed d q 0 l.placement.request.from l.placement.route
