use Rattle.std.proofs.Common.{◌∷◌, [], arith, ap, length, length-append, rules}
use mathlib.Core.List.{IsPrefix}
use Rattle.cspf_journal.specs.JournalSteps.{KnownSteps, batches_of}
use Rattle.cspf_journal.specs.KnownBatches.{KnownBatches}
use Rattle.cspf_journal.proofs.Knowing.{IsPrefix-up_to}
use Rattle.cspf_journal.proofs.Prefixes.{BeginsWith-trans, length-prefix}
use Rattle.cspf_journal.proofs.JournalSteps.{batches_of-prefix}
use Rattle.cspf_journal.proofs.rights.RightToCount.count.Goals as goal

pub move_to-requires-clause-recorded : goal.move_to-requires-clause-recorded
move_to-requires-clause-recorded c =
    let more = ap (λ k. length k.batches) c.requires.next.1 in
    let recorded = length-prefix _ _ c.seen.ensures.recorded in
    let seen = length-prefix _ _ (batches_of-prefix _ _ c.learn.ensures.3) in (
      omega (arith, c.version.ensures.version, more, length-append c.args.self.now.batches (c.requires.next.0 ∷ [])),
      omega (arith, c.version.ensures.version, recorded, seen),
    )

pub invariant_of-self : goal.invariant_of-self
invariant_of-self c =
    let steps = c.move_to.new.seen.log in
    let pre : IsPrefix c.seen.result.log steps = IsPrefix-up_to _ _ steps _ c.learn.ensures.3 c.if-not-move_to.ensures.counted.0 in (
      search rules,
      search rules,
      rw (ap (λ (s : KnownSteps). s.steps) c.new.ensures, ap (λ (k : KnownBatches). k.batches) c.copy.ensures)
          (BeginsWith-trans (batches_of steps) (batches_of c.seen.result.log) c.args.published.now.batches (batches_of-prefix _ _ pre) c.seen.ensures.recorded),
    )
