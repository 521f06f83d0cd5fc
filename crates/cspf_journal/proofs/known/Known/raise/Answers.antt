use Rattle.std.proofs.Common.{ap, subst, arith, refl, length, List, ◌<◌, ◌≤◌, ◌∙◌, take}
use Rattle.std.proofs.lemmas.List.{length-take-le}
use mathlib.Core.List.{IsPrefix}
use Rattle.cspf_model.specs.Numbered.{NumberedChanges}
use Rattle.cspf_journal.specs.Histories.{BeginsWith}
use Rattle.cspf_journal.specs.JournalSteps.{batches_of}
use Rattle.cspf_journal.specs.declared.log_step.LogStep.{LogStep}
use Rattle.cspf_journal.proofs.Prefixes.{shorter}
use Rattle.cspf_journal.proofs.Knowing.{known_in}
use Rattle.cspf_journal.proofs.known.Known.raise.Goals as goal

pub returns-then-other-self : goal.returns-then-other-self
returns-then-other-self c =
    let both = c.learn.new.self.log in
    let mine = take c.self.inside.version (batches_of c.self.inside.seen.log) in
    let its = take c.other.inside.version (batches_of c.other.inside.seen.log) in
    let a : BeginsWith (batches_of both) mine = known_in _ _ both (subst (λ (l : List LogStep). IsPrefix l both) (ap (λ s. s.log) c.again-both.ensures) c.learn.ensures.2) in
    let b : BeginsWith (batches_of both) its = known_in _ _ both c.learn.ensures.3 in
    let less : length its < length mine = omega (arith, length-take-le _ _ c.self.invariant.0, length-take-le _ _ c.other.invariant.0, c.if-other-self.true) in
    rw (← c.self.view_is, ← c.other.view_is) (refl, less, shorter its mine (batches_of both) b a (omega (arith, less)))

pub returns : goal.returns
returns c =
    let both = c.learn.new.self.log in
    let mine = take c.self.inside.version (batches_of c.self.inside.seen.log) in
    let its = take c.other.inside.version (batches_of c.other.inside.seen.log) in
    let a : BeginsWith (batches_of both) mine = known_in _ _ both (subst (λ (l : List LogStep). IsPrefix l both) (ap (λ s. s.log) c.again-both.ensures) c.learn.ensures.2) in
    let b : BeginsWith (batches_of both) its = known_in _ _ both c.learn.ensures.3 in
    let less : length mine ≤ length its = omega (arith, length-take-le _ _ c.self.invariant.0, length-take-le _ _ c.other.invariant.0, c.if-other-self.false) in
    let begun = shorter mine its (batches_of both) a b less in
    (c.drop.view_is ∙ c.copy.ensures, rw (← c.self.view_is, ← c.other.view_is) begun)
