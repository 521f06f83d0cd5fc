use Rattle.std.proofs.Common.{◌-◌, subst}
use Rattle.cspf_model.specs.Outcome.{answer_of}
use Rattle.cspf_book.specs.Offers.{IsOffered}
use Rattle.cspf_book.proofs.KeptSums.{count_same}
use Rattle.cspf_book.proofs.Proposals.{not_proposed}
use Rattle.cspf_book.proofs.moves.Held.propose.Goals as goal

pub returns-in-Err-give_placing-clause-why : goal.returns-in-Err-give_placing-clause-why
returns-in-Err-give_placing-clause-why g c =
    λ placements kept.
    let d = c.args.self.now.effective in
    let q = c.args.request.now in
    let room = 1048576 - c.args.self.now.links in
    let answer = answer_of c.in-Ok.found.0 in
    not_proposed g.S.Taker.refuses d q c.args.hold room c.args.base.now placements c.args.version c.args.old.now c.args.taker.now c.give_placing.new.taker c.in-Some.placement answer
    c.in-Ok.ensures.best (subst (IsOffered q c.args.hold room answer) c.in-Some.is c.in-Ok.ensures.placement) c.in-Err-give_placing.why
    (c.in-Err-give_placing.ensures.why placements (count_same c.args.self.now.counts c.offer.new.self.counts placements c.offer.ensures.sums kept))
