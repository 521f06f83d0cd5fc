use Rattle.std.proofs.Common.{ap}
use Rattle.cspf_journal.specs.JournalSteps.{KnownSteps}
use Rattle.cspf_journal.proofs.JournalSteps.{batches_of-prefix, count_of-prefix}
use Rattle.cspf_journal.proofs.seen_steps.SeenSteps.learn.Goals as goal

pub returns-clause-own_count : goal.returns-clause-own_count
returns-clause-own_count c =
    let own = ap (λ (s : KnownSteps). s.steps) c.self.view_is in
    rw (← own) (count_of-prefix c.self.inside.seen.log c.learn.new.self.log c.learn.ensures.2 c.learn.ensures.4.1.journal)

pub returns-clause-other_count : goal.returns-clause-other_count
returns-clause-other_count c =
    let other = ap (λ (s : KnownSteps). s.steps) c.other.view_is in
    rw (← other) (count_of-prefix c.other.inside.seen.log c.learn.new.self.log c.learn.ensures.3 c.learn.ensures.4.1.journal)

pub returns-clause-own_batches : goal.returns-clause-own_batches
returns-clause-own_batches c =
    let own = ap (λ (s : KnownSteps). s.steps) c.self.view_is in
    rw (← own) (batches_of-prefix c.self.inside.seen.log c.learn.new.self.log c.learn.ensures.2)

pub returns-clause-other_batches : goal.returns-clause-other_batches
returns-clause-other_batches c =
    let other = ap (λ (s : KnownSteps). s.steps) c.other.view_is in
    rw (← other) (batches_of-prefix c.other.inside.seen.log c.learn.new.self.log c.learn.ensures.3)
