use Rattle.std.proofs.Common.{List, length, slice_get, slice_index, sym, ap, subst, ◌∙◌, arith, below_more}
use Rattle.cspf_model.specs.declared.link.Link.{Link}
use Rattle.cspf_meet.specs.Labels.{IsWaiting, rank_at}
use Rattle.cspf_meet.specs.Looks.{IsLinkOffered, IsStepPassed, MayReach, goal_of, link_index}
use Rattle.cspf_meet.proofs.Falling.{falls_on, passed_still}
use Rattle.cspf_meet.proofs.Looked.{goal_is, index_within, steps_passed}
use Rattle.cspf_meet.proofs.look.look.Goals as goal

pub returns-clause-passed : goal.returns-clause-passed
returns-clause-passed c =
    steps_passed c.args.query.table.now c.requires.query.listed c.args.query.request.now c.requires.query.links c.args.place c.ends_at-ends.result.now c.reverses_at-reverses.result.now
    c.ends_at-ends.ensures.within c.ends_at-ends.ensures.each c.reverses_at-reverses.ensures.each (goal_of c.args.turn.direction c.args.query) c.args.turn.direction (goal_is c.args.turn.direction c.args.query c.requires.query)
    (λ w step. IsStepPassed (rank_at c.loop-row.labels.ranks.items w) c.loop-row.least c.args.turn.rank step)
    (λ k low l here some admitted reach.
    c.loop-row.invariant.passed k (omega (arith, low, c.loop-row-test.false)) l (ap (λ (ls : List Link). slice_get ls (link_index c.args.turn.direction k (slice_index c.reverses_at-reverses.result.now k))) c.requires.links ∙ here) some admitted
    (subst (λ g. MayReach c.args.query.table.now g (slice_index c.ends_at-ends.result.now k)) (sym c.requires.goal) reach))

pub loop-row-preserved : goal.loop-row-preserved
loop-row-preserved c =
    let before = c.loop-row.invariant in
    let said = c.in_ok-least.ensures in
    record {
      falls =
          falls_on c.args.labels.now.ranks.items c.loop-row.labels.ranks.items c.pass.new.labels.ranks.items (IsWaiting c.args.labels.now) (IsWaiting c.loop-row.labels) (IsWaiting c.pass.new.labels)
          before.falls said.falls;
      least = omega (arith, before.least, said.least);
      passed =
          below_more (λ k. IsLinkOffered c.args.query.table.now c.args.query.request.now c.args.turn.links.now c.args.turn.rank c.args.turn.goal (link_index c.args.turn.direction k (slice_index c.reverses_at-reverses.result.now k)) (slice_index c.ends_at-ends.result.now k)
          (slice_index c.reverses_at-reverses.result.now k) c.pass.new.labels.ranks.items c.in_ok-least.least) c.loop-row.row
          (λ k low l here some admitted reach.
          passed_still (rank_at c.loop-row.labels.ranks.items (slice_index c.ends_at-ends.result.now k)) (rank_at c.pass.new.labels.ranks.items (slice_index c.ends_at-ends.result.now k)) c.loop-row.least
          c.in_ok-least.least c.args.turn.rank _ (said.falls.lower (slice_index c.ends_at-ends.result.now k)) said.least (before.passed k low l here some admitted reach))
          (subst (λ at. IsLinkOffered c.args.query.table.now c.args.query.request.now c.args.turn.links.now c.args.turn.rank c.args.turn.goal at (slice_index c.ends_at-ends.result.now c.loop-row.row) (slice_index c.reverses_at-reverses.result.now c.loop-row.row) c.pass.new.labels.ranks.items c.in_ok-least.least) c.index_of-at.ensures said.passed);
    }

pub pass-requires-clause-within : goal.pass-requires-clause-within
pass-requires-clause-within c some =
    let low = index_within c.args.query.table.now c.requires.query.listed c.args.query.request.now c.requires.query.links c.args.place c.ends_at-ends.result.now c.reverses_at-reverses.result.now
    c.ends_at-ends.ensures.within c.ends_at-ends.ensures.each c.reverses_at-reverses.ensures.each (goal_of c.args.turn.direction c.args.query) c.args.turn.direction c.loop-row.row c.loop-row-test.true some in
    omega (arith, low, c.index_of-at.ensures, ap (λ (ls : List Link). length ls) c.requires.links)
