use Rattle.std.proofs.Common.{◌⊎◌, ◌+◌, ◌<◌, ◌≤◌, arith}
use Rattle.cspf_meet.specs.Bounds.{head_bound}
use Rattle.cspf_meet.specs.Labels.{rank_at}
use Rattle.cspf_meet.proofs.Looked.{reverse_within, steps_back}
use Rattle.cspf_meet.proofs.narrow.look.Goals as goal

pub pass-requires-clause-within : goal.pass-requires-clause-within
pass-requires-clause-within c some =
    reverse_within c.args.query.table.now c.requires.query.listed c.args.query.request.now c.requires.query.links c.args.place c.ends_at-ends.result.now c.reverses_at-reverses.result.now
    c.ends_at-ends.ensures.within c.ends_at-ends.ensures.each c.reverses_at-reverses.ensures.each c.args.query.from c.loop-row.row c.loop-row-test.true some

pub returns-clause-passed : goal.returns-clause-passed
returns-clause-passed c =
    steps_back c.args.query.table.now c.requires.query.listed c.args.query.request.now c.requires.query.links c.args.place c.ends_at-ends.result.now c.reverses_at-reverses.result.now
    c.ends_at-ends.ensures.within c.ends_at-ends.ensures.each c.reverses_at-reverses.ensures.each c.args.query.from c.requires.query.from
    (λ u step. (rank_at c.loop-row.corridor.near.items u ≤ c.args.base + step) ⊎ (c.args.head.most < c.args.base + step + head_bound c.args.head u))
    (λ k low l here some admitted reach. c.loop-row.invariant.passed k (omega (arith, low, c.loop-row-test.false)) l here some admitted reach)
