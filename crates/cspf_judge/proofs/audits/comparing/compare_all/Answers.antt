use Rattle.std.proofs.Common.{◌≡◌, ◌∙◌, ◌+◌, length, drop, get_or, take, sym, ap, subst, rules, arith}
use Rattle.std.proofs.lemmas.List.{drop_more, drop_all}
use Rattle.cspf_model.specs.Changes.{database_after}
use Rattle.cspf_judge.specs.Asks.{IsJudged}
use Rattle.cspf_judge.specs.Reading.{AreOpenFindings}
use Rattle.cspf_judge.specs.declared.audits.claim.Claim.{Claim}
use Rattle.cspf_judge.proofs.ComparingSteps.{claim_at, claim_within, asked_of_claim, right_step, altered_step, all_settled}
use Rattle.cspf_judge.proofs.audits.comparing.compare_all.Goals.{then-not-branch, else-not-branch}
use Rattle.cspf_judge.proofs.audits.comparing.compare_all.Goals as goal

abbrev none : Claim
none = record { line = 0; request = 0; version = 0 }

pub go_to-requires-clause-within : goal.go_to-requires-clause-within
go_to-requires-clause-within g c = (claim_at g.A.Asks.spec c.args.requests.now (length c.args.batches.now) c.args.lines.now c.args.claims.now c.loop-claim.claim-index none c.requires.claims c.loop-claim-test.true).within

pub bounds-requests-claim : goal.bounds-requests-claim
bounds-requests-claim g c = (claim_within g.A.Asks.spec c.args.requests.now (length c.args.batches.now) c.args.lines.now c.args.claims.now c.loop-claim.claim-index none c.requires.claims c.loop-claim-test.true).0

pub offset_bounds-requests-claim : goal.offset_bounds-requests-claim
offset_bounds-requests-claim g c = let within = bounds-requests-claim g c in search rules

pub bounds-lines-claim : goal.bounds-lines-claim
bounds-lines-claim g c = (claim_within g.A.Asks.spec c.args.requests.now (length c.args.batches.now) c.args.lines.now c.args.claims.now c.loop-claim.claim-index none c.requires.claims c.loop-claim-test.true).1

pub offset_bounds-lines-claim : goal.offset_bounds-lines-claim
offset_bounds-lines-claim g c = let within = bounds-lines-claim g c in search rules

pub bounds-findings-claim : goal.bounds-findings-claim
bounds-findings-claim g c =
    let there = (claim_within g.A.Asks.spec c.args.requests.now (length c.args.batches.now) c.args.lines.now c.args.claims.now c.loop-claim.claim-index none c.requires.claims c.loop-claim-test.true).1 in
    omega (arith, there, c.loop-claim.invariant.open_ones.counted)

pub loop-claim-preserved : goal.loop-claim-preserved
loop-claim-preserved g c =
    let i = c.loop-claim.claim-index in
    let claims = c.args.claims.now in
    let claim = get_or claims i none in
    let rest = drop (i + 1) claims in
    let is = claim_at g.A.Asks.spec c.args.requests.now (length c.args.batches.now) c.args.lines.now claims i none c.requires.claims c.loop-claim-test.true in
    let within = claim_within g.A.Asks.spec c.args.requests.now (length c.args.batches.now) c.args.lines.now claims i none c.requires.claims c.loop-claim-test.true in
    let front = subst (λ cs. AreOpenFindings g.A.Asks.spec c.args.batches.now c.args.requests.now c.args.lines.now cs c.loop-claim.findings) (drop_more claims i none c.loop-claim-test.true) c.loop-claim.invariant.open_ones in
    let right = c.in_ok-is_answer.field-0 in
    let here = c.table.ensures ∙ c.in_ok-go_to.ensures.here.table ∙ ap (λ v. database_after (take v c.args.batches.now)) c.in_ok-go_to.ensures.version in
    let test = subst (λ l. IsJudged g.A.Asks.spec c.table.result.now c.index-requests-claim.result claim.version l right) c.text-line.ensures c.in_ok-is_answer.ensures in
    let asked = asked_of_claim g.A.Asks.spec c.args.batches.now c.args.requests.now c.args.lines.now claim rest c.loop-claim.findings front is c.table.result.now c.index-requests-claim.result c.index-lines-claim.result right here
    within.0 c.index-requests-claim.is within.1 c.index-lines-claim.is test in
    let judged = IsJudged g.A.Asks.spec (database_after (take claim.version c.args.batches.now)) is.q claim.version is.line in
    record {
      here = c.in_ok-go_to.ensures.here;
      open_ones = elim c.if-not-branch.branch [
        | then-not-branch w ↦ subst (AreOpenFindings g.A.Asks.spec c.args.batches.now c.args.requests.now c.args.lines.now rest) (sym w.findings-is)
            (altered_step g.A.Asks.spec c.args.batches.now c.args.requests.now c.args.lines.now claim rest c.loop-claim.findings front is (subst judged w.if-not-branch.true asked))
        | else-not-branch w ↦ subst (AreOpenFindings g.A.Asks.spec c.args.batches.now c.args.requests.now c.args.lines.now rest) (sym w.findings-is)
            (right_step g.A.Asks.spec c.args.batches.now c.args.requests.now c.args.lines.now claim rest c.loop-claim.findings front is (subst judged w.if-not-branch.false asked))
      ];
    }

pub returns : goal.returns
returns g c =
    all_settled g.A.Asks.spec c.args.batches.now c.args.requests.now c.args.lines.now c.loop-claim.findings
    (subst (λ cs. AreOpenFindings g.A.Asks.spec c.args.batches.now c.args.requests.now c.args.lines.now cs c.loop-claim.findings) (drop_all c.loop-claim.claim-index c.args.claims.now (omega (arith, c.loop-claim-test.false))) c.loop-claim.invariant.open_ones)
