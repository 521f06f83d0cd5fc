use Rattle.std.proofs.Common.{◌≡◌, ◌+◌, ◌-◌, ◌∷◌, [], ◌∙◌, inl, inr, List, length, slice_index_or, ap, subst, arith}
use Rattle.cspf_graph.specs.Roles.{AreTargetsOf}
use Rattle.std.proofs.lemmas.Bool.{cases_lt}
use Rattle.std.proofs.lemmas.List.{get_or_append_left, get_or_push, length_push}
use Rattle.cspf_graph.specs.declared.roles.Role.{Role}
use Rattle.cspf_graph.proofs.RoleLists.{head_alone}
use Rattle.cspf_graph.proofs.Slices.{written_back}
use Rattle.cspf_graph.proofs.roles.find_roles.Goals as goal
use Rattle.cspf_graph.proofs.roles.find_roles.Goals.{then-leg_index-eq0, else-leg_index-eq0}

pub set_roles-requires-clause-starts : goal.set_roles-requires-clause-starts
set_roles-requires-clause-starts c =
    let d = c.args.table.now in
    let q = c.args.request.now in
    elim c.if-leg_index-eq0.branch [
      | then-leg_index-eq0 w ↦
          rw (w.starts-is, w.as_slice-starts.ensures, c.loop-leg_index.invariant.head, w.if-leg_index-eq0.true) (head_alone d q c.listed.ensures.listed c.args.from c.requires.from)
      | else-leg_index-eq0 w ↦
          let one : c.loop-leg_index.leg_index - 1 + 1 ≡ c.loop-leg_index.leg_index = omega (arith, w.if-leg_index-eq0.false) in
          let known = c.loop-leg_index.invariant.targets (c.loop-leg_index.leg_index - 1) w.index.result.now (omega (arith, one)) in
          rw (w.starts-is, w.as_slice-starts-else-leg_index-eq0.ensures.value, w.index.ensures)
          (subst (λ k. AreTargetsOf d q k (slice_index_or c.loop-leg_index.targets.items (c.loop-leg_index.leg_index - 1) w.index.result.now).items) one known)
    ]

pub loop-leg_index-preserved : goal.loop-leg_index-preserved
loop-leg_index-preserved c =
    let before = c.loop-leg_index.invariant in
    let put = written_back c.loop-leg_index.states.len c.set_roles.new.roles c.deref_mut-in-loop-leg_index.result.now c.loop-leg_index.states.items c.set_roles.auto.roles c.deref_mut-in-loop-leg_index.ensures.value c.loop-leg_index.states.ok.0 in
    record {
      many = rw put (c.set_roles.auto.roles ∙ ap (λ (xs : List Role). length xs) c.deref_mut-in-loop-leg_index.ensures.value ∙ before.many);
      roles = rw put c.set_roles.ensures;
      count = rw c.in_ok-push.ensures.items (length_push c.loop-leg_index.targets.items c.in_ok-own.own ∙ ap (λ n. n + 1) before.count);
      targets = λ i e low. rw c.in_ok-push.ensures.items (elim (cases_lt i c.loop-leg_index.leg_index) [
        | inl less ↦ rw (get_or_append_left c.loop-leg_index.targets.items (c.in_ok-own.own ∷ []) e i (omega (arith, less, before.count))) (before.targets i e less)
        | inr ge ↦
            let here : i ≡ c.loop-leg_index.leg_index = omega (arith, low, ge) in
            rw (get_or_push c.loop-leg_index.targets.items c.in_ok-own.own e i (omega (arith, before.count, here))) (rw here c.in_ok-own.ensures)
      ]);
      head = before.head;
    }
