use Rattle.std.proofs.Common.{◌∙◌, ◌++◌, ◌∷◌, [], length, sym, ap, subst}
use Rattle.cspf_judge.specs.declared.audits.claim.Claim.{Claim}
use Rattle.cspf_judge.specs.declared.audits.finding.Finding.TheVariants as finding
use Rattle.cspf_judge.specs.declared.audits.replies.ReplyFindings.{ReplyFindings}
use Rattle.cspf_judge.specs.declared.audits.replies.Reading.TheVariants as reading
use Rattle.cspf_judge.specs.Reading.{IsReading}
use Rattle.cspf_judge.proofs.Lookups.{written}
use Rattle.cspf_judge.proofs.ReplySteps.{has_read, settled_step, claims_step}
use Rattle.cspf_judge.proofs.audits.replies.ReplyFindings.take.Goals.{in-Settled, in-Claims+in_ok-push-in-Claims}
use Rattle.cspf_judge.proofs.audits.replies.ReplyFindings.take.Goals as goal

pub returns-clause-read : goal.returns-clause-read
returns-clause-read g c = λ batches requests seen counted own places read.
    let old = c.args.self.now in
    let line = c.args.line.now in
    let after = c.read_reply.new.named in
    let new : ReplyFindings = record { findings = c.push-2.new.self; claims = c.match-branch-2.self.claims; named = c.match-branch-2.self.named } in
    let back = written old.named.items after old.named.len (c.read_reply.ensures.length ∙ ap length c.deref_mut.ensures.value) old.named.ok.0 in
    elim c.match-branch-2.branch [
      | in-Settled w ↦
          let found = w.in-Settled.finding in
          let says = subst (λ last. IsReading g.A.Asks.spec c.args.ids.now last line old.named.items after (reading.Settled found)) (sym counted)
          (subst (λ before. IsReading g.A.Asks.spec c.args.ids.now c.args.last line before after (reading.Settled found)) c.deref_mut.ensures.value (rw w.in-Settled.is at c.in_ok-finding.ensures.says)) in
          let those = settled_step g.A.Asks.spec g.met.A.Asks.one_head g.met.A.Asks.none_skipped batches requests own c.args.ids.now places seen line old.named.items read.named old.claims.items old.findings.items read.found read.claims found after says in
          has_read g.A.Asks.spec batches requests (seen ++ line ∷ []) new (old.findings.items ++ found ∷ []) old.claims.items after
          (c.in_ok-push.ensures.items ∙ ap (λ (r : ReplyFindings). r.findings.items ++ c.match-branch-2.finding ∷ []) w.self-is ∙ ap (λ f. old.findings.items ++ f ∷ []) w.finding-is)
          (ap (λ (r : ReplyFindings). r.claims.items) w.self-is) (ap (λ (r : ReplyFindings). r.named.items) w.self-is ∙ back) those
      | in-Claims+in_ok-push-in-Claims w ↦
          let index = w.in-Claims.request in
          let version = w.in-Claims.version in
          let claim : Claim = record { line = c.len-at.result; request = index; version = version } in
          let at = c.len-at.ensures ∙ old.findings.ok.0 in
          let says = subst (λ last. IsReading g.A.Asks.spec c.args.ids.now last line old.named.items after (reading.Claims index version)) (sym counted)
          (subst (λ before. IsReading g.A.Asks.spec c.args.ids.now c.args.last line before after (reading.Claims index version)) c.deref_mut.ensures.value (rw w.in-Claims.is at c.in_ok-finding.ensures.says)) in
          let those = claims_step g.A.Asks.spec g.met.A.Asks.one_head g.met.A.Asks.none_skipped batches requests own c.args.ids.now places seen line old.named.items read.named old.claims.items old.findings.items read.found read.claims c.len-at.result index version after at says in
          has_read g.A.Asks.spec batches requests (seen ++ line ∷ []) new (old.findings.items ++ finding.Good ∷ []) (old.claims.items ++ claim ∷ []) after
          (c.in_ok-push.ensures.items ∙ ap (λ (r : ReplyFindings). r.findings.items ++ c.match-branch-2.finding ∷ []) w.self-is ∙ ap (λ f. old.findings.items ++ f ∷ []) w.finding-is)
          (ap (λ (r : ReplyFindings). r.claims.items) w.self-is ∙ w.in_ok-push-in-Claims.ensures.items) (ap (λ (r : ReplyFindings). r.named.items) w.self-is ∙ back) those
    ]
