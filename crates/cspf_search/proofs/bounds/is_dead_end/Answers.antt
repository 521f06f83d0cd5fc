use Rattle.std.proofs.Common.{ℕ, ◌+◌, ◌*◌, ◌<◌, ◌≤◌, IsTrue, length, slice_index_or, arith}
use Rattle.std.proofs.lemmas.List.{take_all}
use Rattle.cspf_search.specs.declared.limits.TheConstants.{NO_WAY}
use Rattle.cspf_search.specs.Bounds.{bound_at}
use Rattle.cspf_graph.specs.RoleSteps.{nothing}
use Rattle.cspf_search.proofs.LegBounds.{told_target}
use Rattle.cspf_search.proofs.LegTargets.{read_targets, taken_more}
use Rattle.cspf_search.proofs.bounds.is_dead_end.Goals as goal
use Rattle.cspf_search.proofs.bounds.is_dead_end.Goals.{else-query-first-via-then-query-first+else-bound_ahead-lt-NO_WAY, else-query-first-via-else-query-first}

pub loop-place-preserved : goal.loop-place-preserved
loop-place-preserved c =
    let Holds : ℕ → Type 0 = λ p. IsTrue (slice_index_or c.args.query.roles.now (c.args.leg_index * 1024 + p) nothing).target → NO_WAY ≤ bound_at c.args.ahead.now p in
    taken_more Holds c.deref-place-items.result.now c.loop-place.place-index c.from-at.result c.loop-place-test.true c.from-at.ensures c.loop-place.invariant
    (λ on. elim c.else-query-first.branch [
      | else-query-first-via-then-query-first+else-bound_ahead-lt-NO_WAY w ↦ omega (arith, w.bound_ahead.ensures, w.if-bound_ahead-lt-NO_WAY.false)
      | else-query-first-via-else-query-first w ↦ absurd (cc)
    ])

pub returns : goal.returns
returns c _ =
    let d = c.args.query.table.now in
    let q = c.args.query.request.now in
    let leg = c.args.leg_index in
    let places = c.deref-place-items.result.now in
    let within : leg < length q.hops = omega (arith, c.if-leg_index-query.false, c.requires.query.targets.many) in
    let are = read_targets d q c.args.query.targets.now leg c.index-query-leg_index.result places c.requires.query.targets within c.deref-place-items.ensures.value in
    let all = take_all c.loop-place.place-index places c.loop-place-test.false in
    record {
      hop = within;
      targets = λ p low turns.
          c.loop-place.invariant p (rw all ((are.each p low).1 turns.target)) (told_target d q c.args.query.roles.now leg p c.requires.query.listed c.requires.query.roles (omega (arith, within)) low turns);
    }
