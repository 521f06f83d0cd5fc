use Rattle.std.proofs.Common.{◌∙◌, refl, length, sym, ap, subst}
use Rattle.cspf_judge.specs.declared.audits.faults.Audit.{Audit}
use Rattle.cspf_judge.specs.Reading.{AreClaims, unnamed_faults}
use Rattle.cspf_judge.proofs.AuditSteps.{claims_sorted, open_sorted, are_unanswered, both_ok}
use Rattle.cspf_judge.proofs.Lookups.{written}
use Rattle.cspf_judge.proofs.audits.auditing.audit_lines.Goals as goal

pub compare_all-requires-clause-claims : goal.compare_all-requires-clause-claims
compare_all-requires-clause-claims g c =
    let read = c.in_ok-replies.ensures c.args.batches.now refl in
    subst (AreClaims g.A.Asks.spec c.args.requests.now (length c.args.batches.now) c.args.lines.now) (sym c.deref.ensures.value)
    (claims_sorted g.A.Asks.spec c.args.requests.now c.args.lines.now c.in_ok-replies.replies.claims.items c.sort_by_key.new.self.items c.sort_by_key.ensures.permutation (length c.args.batches.now) read.claims)

pub compare_all-requires-clause-open : goal.compare_all-requires-clause-open
compare_all-requires-clause-open g c =
    let read = c.in_ok-replies.ensures c.args.batches.now refl in
    rw (c.deref.ensures.value, c.deref_mut.ensures.value)
    (open_sorted g.A.Asks.spec c.args.requests.now c.args.lines.now c.in_ok-replies.replies.claims.items c.sort_by_key.new.self.items c.sort_by_key.ensures.permutation c.args.batches.now c.in_ok-replies.replies.findings.items read.found)

pub returns : goal.returns
returns g c =
    let read = c.in_ok-replies.ensures c.args.batches.now refl in
    let old = c.in_ok-replies.replies.findings in
    let back = c.deref-2.ensures.value ∙ written old.items c.compare_all.new.findings old.len (c.compare_all.auto.findings ∙ ap length c.deref_mut.ensures.value) old.ok.0 in
    both_ok c.report.result c.report.ensures.good c.report.ensures.faults (λ (audit : Audit) good faults. record {
      findings = c.deref-2.result.now;
      unanswered = unnamed_faults g.A.Asks.spec.id c.args.requests.now c.deref-3.result.now;
      found = rw back c.in_ok-compare_all.ensures;
      left = rw c.deref-3.ensures.value (are_unanswered g.A.Asks.spec c.args.requests.now c.args.lines.now c.in_ok-replies.replies.named.items read.named);
      faults = faults;
      good = good;
    })
