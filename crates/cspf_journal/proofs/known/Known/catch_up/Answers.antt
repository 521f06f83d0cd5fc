use Rattle.std.proofs.Common.{sym, ap, subst, ◌∙◌, take}
use Rattle.cspf_journal.specs.JournalSteps.{KnownSteps, batches_of}
use Rattle.cspf_journal.specs.KnownBatches.{KnownBatches}
use Rattle.cspf_journal.proofs.Knowing.{IsRaised, IsRaised-max, IsPrefix-up_to, raised-within, IsHistory-raised, catches_up}
use Rattle.cspf_journal.proofs.known.Known.catch_up.Goals as goal

pub invariant_of-self : goal.invariant_of-self
invariant_of-self c =
    let read = c.read-published.ensures in
    let steps = c.read-published.new.seen.log in
    let raised : IsRaised c.self.inside.version c.read-published.result c.max-self-inside.result = subst (IsRaised _ _) (sym c.max-self-inside.ensures) (IsRaised-max _ _) in
    rw (ap (λ s. s.log) c.again.ensures) (
      raised-within _ _ _ c.self.inside.seen.log steps raised c.self.invariant.0 (IsPrefix-up_to _ _ steps _ c.learn.ensures.3 read.read) read.recorded,
      IsHistory-raised c.lawful_batches.ensures.first _ steps read.journal,
    )

pub returns : goal.returns
returns c =
    let read = c.read-published.ensures in
    let raised : IsRaised c.self.inside.version c.read-published.result c.max-self-inside.result = subst (IsRaised _ _) (sym c.max-self-inside.ensures) (IsRaised-max _ _) in
    let both : KnownSteps = record { steps = c.learn.new.self.log; source = c.learn.new.self.book } in
    let source = read.source ∙ (c.learn.ensures.0 ∙ c.seen-seen.ensures.1) in
    let new_source = ap (λ (s : KnownSteps). s.source) c.new.ensures in
    let new_steps = ap (λ (s : KnownSteps). s.steps) c.new.ensures in
    catches_up c.self.inside.version c.args.row.reader c.args.row.place c.read-published.result c.max-self-inside.result c.self.inside.seen.log _ _ _ both c.new.result raised
    (ap (λ (k : KnownBatches). k.batches) (sym c.self.view_is))
    (ap (λ l. take c.max-self-inside.result (batches_of l)) (ap (λ s. s.log) c.again.ensures ∙ sym new_steps))
    (ap (λ s. s.book) c.again.ensures ∙ (source ∙ c.requires.steps))
    (new_source ∙ source)
    c.self.invariant.0
    (rw (← c.seen-seen.ensures.0) c.learn.ensures.2)
    c.learn.ensures.3
    (rw new_steps read.read)
    (rw new_steps read.recorded)
    (rw new_steps read.journal)
