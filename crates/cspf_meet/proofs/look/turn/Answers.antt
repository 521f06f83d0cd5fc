use Rattle.std.proofs.Common.{length, ap, subst, arith}
use Rattle.cspf_meet.specs.Labels.{IsWaiting}
use Rattle.cspf_meet.specs.Looks.{AreStepsPassed, Steps}
use Rattle.cspf_meet.proofs.Falling.{falls_none, looked_on, looked_same}
use Rattle.cspf_meet.proofs.Looked.{step_within}
use Rattle.cspf_meet.proofs.look.turn.Goals as goal

pub returns-in_default-clause-looked : goal.returns-in_default-clause-looked
returns-in_default-clause-looked c =
    looked_same (Steps c.args.direction c.args.query.table.now c.args.query.request.now) c.args.labels.now c.next.new.self c.args.most c.next.ensures.ranks c.in_default.ensures.none c.requires.looked

pub returns-then-place-routers-clause-looked : goal.returns-then-place-routers-clause-looked
returns-then-place-routers-clause-looked c =
    looked_on (Steps c.args.direction c.args.query.table.now c.args.query.request.now) c.args.labels.now c.next.new.self c.next.new.self _ _ c.args.most c.args.most c.next.ensures.ranks c.in-Some.ensures.next
    (falls_none c.next.new.self.ranks.items (IsWaiting c.next.new.self) (IsWaiting c.next.new.self) (λ v waits. waits)) (omega arith)
    (λ w step leads.
    absurd
    (omega (arith, step_within c.args.direction c.args.query.table.now c.args.query.request.now _ w step leads, c.if-place-routers.true, c.from-place.ensures, ap length c.routers.ensures.all))) c.requires.looked

pub returns-clause-looked : goal.returns-clause-looked
returns-clause-looked c =
    let steps = Steps c.args.direction c.args.query.table.now c.args.query.request.now in
    let passed : AreStepsPassed (Steps c.args.direction c.args.query.table.now c.args.query.request.now) c.look.new.labels.ranks.items c.in_ok-least.least c.in-Some.rank c.from-place.result =
    rw (c.turn_at-turn.ensures.direction, c.turn_at-turn.ensures.rank) at c.in_ok-least.ensures.passed in
    looked_on steps c.args.labels.now c.next.new.self c.look.new.labels _ _ c.args.most c.in_ok-least.least c.next.ensures.ranks c.in-Some.ensures.next c.in_ok-least.ensures.falls c.in_ok-least.ensures.least
    (subst (AreStepsPassed steps c.look.new.labels.ranks.items c.in_ok-least.least c.in-Some.rank) c.from-place.ensures passed) c.requires.looked
