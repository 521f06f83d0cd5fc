use Rattle.cspf_book.proofs.KeptSums.{sums_undone}
use Rattle.cspf_book.proofs.giving.give_placing.Goals as goal

pub returns-in-Err-clause-same : goal.returns-in-Err-clause-same
returns-in-Err-clause-same g c =
    let p = c.args.placement.now in
    sums_undone c.args.counts.now c.add.new.self c.take.new.self p.route p.hold p.request.bandwidth c.add.ensures.sums c.take.ensures.sums

pub returns-clause-same : goal.returns-clause-same
returns-clause-same g c =
    let p = c.args.placement.now in
    sums_undone c.args.counts.now c.add.new.self c.take-in-Err-take_placing.new.self p.route p.hold p.request.bandwidth c.add.ensures.sums c.take-in-Err-take_placing.ensures.sums
