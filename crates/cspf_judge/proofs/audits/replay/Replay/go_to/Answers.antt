use Rattle.std.proofs.Common.{false, slice_index_or, sym, subst, arith}
use Rattle.cspf_db.specs.declared.table.plan.Plan.{Plan}
use Rattle.cspf_db.specs.Plans.{IsPlanOf}
use Rattle.cspf_judge.proofs.BatchSteps.{absorbed}
use Rattle.cspf_judge.proofs.audits.replay.Replay.go_to.Goals as goal

abbrev none : Plan
none = record { tally = record { added = 0; brought = 0; alike = false; apart = false } }

pub absorb_planned-requires : goal.absorb_planned-requires
absorb_planned-requires c =
    let v = c.loop-self.self.version in
    let b = c.index-batches-self.result in
    subst (λ d. IsPlanOf d b (slice_index_or c.args.plans.now v none)) (sym c.loop-self.invariant.here.table)
    (c.requires.planned.each v b none (omega (arith, c.loop-self-test.true, c.requires.within)) c.index-batches-self.is)

pub loop-self-preserved : goal.loop-self-preserved
loop-self-preserved c =
    let v = c.loop-self.self.version in
    let b = c.index-batches-self.result in record {
      here = record {
        within = omega (arith, c.loop-self-test.true, c.requires.within);
        table = absorbed c.args.batches.now v b (omega (arith, c.loop-self-test.true, c.requires.within)) c.index-batches-self.is c.absorbing.ensures
            c.loop-self.self.table c.absorb_planned.new.self c.loop-self.invariant.here.table c.absorb_planned.ensures;
      };
      below = omega (arith, c.loop-self-test.true);
    }
