use Rattle.std.proofs.Common.{rules, ◌≡◌, ◌<◌, ◌≤◌, length, get_or, ap, subst, arith}
use Rattle.std.proofs.lemmas.List.{take_all}
use Rattle.std.specs.List.{flat_map}
use Rattle.cspf_judge.specs.declared.audits.faults.AuditFault.TheVariants as fault
use Rattle.cspf_judge.specs.AuditRun.{fault_line}
use Rattle.cspf_judge.proofs.Fronts.{at_error, front_before, front_behind, front_in_list}
use Rattle.cspf_judge.proofs.audit_run.write_audit.Goals as goal

pub returns-in_err-put_line-clause-front : goal.returns-in_err-put_line-clause-front
returns-in_err-put_line-clause-front g c =
    let faults = c.args.found.now.faults.items in
    let at = c.loop-fault.fault-index in
    let same = c.deref-fault-items.ensures.value in
    let none = fault.Unread 0 in
    at_error _ c.from_residual.result
    (front_before _ _ (flat_map fault_line faults) _
    (front_in_list fault_line faults at (get_or c.deref-fault-items.result.now at none) none _ _ _ (subst (λ fs. at < length fs) same c.loop-fault-test.true) (ap (λ fs. get_or fs at none) same) c.loop-fault.invariant c.in_err-put_line.ensures.front))

pub returns-in_err-put_line-2-clause-front : goal.returns-in_err-put_line-2-clause-front
returns-in_err-put_line-2-clause-front g c =
    let same = c.deref-fault-items.ensures.value in
    let most : length c.args.found.now.faults.items ≤ c.loop-fault.fault-index = omega (arith, c.loop-fault-test.false, ap length same) in
    let all = take_all c.loop-fault.fault-index c.args.found.now.faults.items most in
    let count : c.len-faults.result ≡ length c.args.found.now.faults.items = search rules in
    at_error _ c.from_residual-in_err-put_line-2.result
    (front_behind _ _ _ _ _ (rw all at c.loop-fault.invariant) (rw count at c.in_err-put_line-2.ensures.front))
