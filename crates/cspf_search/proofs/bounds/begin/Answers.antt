use Rattle.std.proofs.Common.{◌≡◌, ℕ, ◌+◌, ◌*◌, ◌<◌, ◌≤◌, inl, inr, IsTrue, List, set, length, slice_index_or, ap, arith}
use Rattle.std.proofs.lemmas.List.{take_all, get_or-set_same, get_or-set_other}
use Rattle.cspf_search.specs.Bounds.{bound_at}
use Rattle.cspf_graph.specs.RoleSteps.{nothing}
use Rattle.cspf_search.proofs.LegBounds.{told_target}
use Rattle.cspf_graph.proofs.RouterIndexes.{same_or_not}
use Rattle.cspf_search.proofs.LegTargets.{read_targets, taken_more}
use Rattle.cspf_search.proofs.bounds.begin.Goals as goal
use Rattle.cspf_search.proofs.bounds.begin.Goals.{then-query-first+in_ok-begin_at, else-query-first}

pub begin_at-requires : goal.begin_at-requires
begin_at-requires c =
    let q = c.args.query.request.now in
    let are = read_targets c.args.query.table.now q c.args.query.targets.now c.args.leg_index c.index-query-leg_index.result c.deref-place-items.result.now c.requires.query.targets c.requires.leg c.deref-place-items.ensures.value in
    record { within = omega (arith, are.within c.loop-place.place-index 0 c.loop-place-test.true, c.requires.query.listed.few) }

pub loop-place-preserved : goal.loop-place-preserved
loop-place-preserved c =
    let before = c.loop-place.invariant in
    let leg = c.args.leg_index in
    let at = c.from-at.result in
    let places = c.deref-place-items.result.now in
    let Holds : List ℕ → ℕ → Type 0 = λ near p. IsTrue (slice_index_or c.args.query.roles.now (leg * 1024 + p) nothing).target → bound_at near p ≤ bound_at c.args.ahead.now p in
    elim c.if-query-first.branch [
      | then-query-first+in_ok-begin_at w ↦
          let near = c.loop-place.ring.near.items in
          let least = w.bound_ahead-least.result in
          let are = read_targets c.args.query.table.now c.args.query.request.now c.args.query.targets.now leg c.index-query-leg_index.result places c.requires.query.targets c.requires.leg c.deref-place-items.ensures.value in
          let within : at < length near = omega (arith, c.from-at.ensures, are.within c.loop-place.place-index 0 c.loop-place-test.true, c.requires.query.listed.few, c.loop-place.ring.bounds) in
          let here : bound_at (set near at least) at ≡ least = get_or-set_same near at least 0 within in
          let marks = w.in_ok-begin_at.ensures.marks in
          let bounds : w.begin_at.new.self.near.items ≡ set near at least = rw c.from-at.ensures w.in_ok-begin_at.ensures.bounds in
          rw w.ring-is (record {
            none = λ k. rw marks (before.none k);
            targets =
                rw bounds (taken_more (Holds (set near at least)) places c.loop-place.place-index at c.loop-place-test.true c.from-at.ensures
                (λ p has. elim (same_or_not p at) [
                  | inl same ↦ λ on. omega (arith, ap (bound_at (set near at least)) same, here, w.bound_ahead-least.ensures, ap (bound_at c.args.ahead.now) same)
                  | inr ne ↦ λ on. omega (arith, get_or-set_other near at p least 0 ne, before.targets p has on)
                ])
                (λ on. omega (arith, here, w.bound_ahead-least.ensures)));
          })
      | else-query-first w ↦
          rw w.ring-is (record {
            none = before.none;
            targets = taken_more (Holds c.loop-place.ring.near.items) places c.loop-place.place-index at c.loop-place-test.true c.from-at.ensures before.targets (λ on. absurd (cc));
          })
    ]

pub returns-clause-targets : goal.returns-clause-targets
returns-clause-targets c p low turns =
    let d = c.args.query.table.now in
    let q = c.args.query.request.now in
    let leg = c.args.leg_index in
    let places = c.deref-place-items.result.now in
    let are = read_targets d q c.args.query.targets.now leg c.index-query-leg_index.result places c.requires.query.targets c.requires.leg c.deref-place-items.ensures.value in
    let all = take_all c.loop-place.place-index places c.loop-place-test.false in
    c.loop-place.invariant.targets p (rw all ((are.each p low).1 turns.target)) (told_target d q c.args.query.roles.now leg p c.requires.query.listed c.requires.query.roles (omega (arith, c.requires.leg)) low turns)
