use Rattle.std.proofs.Common.{◌+◌, refl, sym, ap, subst, ◌∙◌, arith}
use Rattle.cspf_model.specs.Numbered.{NumberedChanges}
use Rattle.cspf_model.specs.Database.{Database}
use Rattle.cspf_model.specs.Changes.{after_changes, Fits}
use Rattle.cspf_book.specs.Effective.{effective}
use Rattle.cspf_book.specs.Leading.{base_batch, IsBaseBatch}
use Rattle.cspf_book.proofs.BaseBatches.{effective-after_changes, base_fits, base_leads}
use Rattle.cspf_book.proofs.ById.{ids_later}
use Rattle.cspf_book.proofs.KeptSums.{small_after}
use Rattle.cspf_book.proofs.StateParts.{state_of}
use Rattle.cspf_book.proofs.book.Book.try_absorb.Goals as goal

pub invariant_of-self : goal.invariant_of-self
invariant_of-self g c =
    let base = c.self.inside.base in
    let ps = c.self.inside.placements.items in
    let batch = c.args.batch.now in
    let next = c.self.inside.version + 1 in
    let all = c.deref.ensures.value ∙ ap (λ (b : NumberedChanges). b.changes) c.batch.view_is in
    let is = c.in_ok-made.ensures ps c.self.invariant.sums ∙ ap (base_batch ps next) all in
    let fits : Fits c.self.inside.held.effective c.in_ok-made.made = rw (c.self.invariant.current, is) (base_fits base ps batch next c.within_limits.ensures.keyed c.in-Ok.ensures.ok.fits) in
    record {
      current =
          c.absorb.ensures.fitting fits
          ∙ (λ i. after_changes (c.self.invariant.current i) (is i).changes)
          ∙ sym (effective-after_changes base ps batch.changes)
          ∙ ap (λ (d : Database). effective d ps) (sym c.absorb_planned.ensures);
      sums = c.self.invariant.sums;
      small = λ k p. small_after c.self.inside.version _ _ (c.self.invariant.small k p) (omega arith);
      ids = ids_later c.self.inside.held.ids c.self.inside.version ps c.self.invariant.ids;
      own_ids = c.self.invariant.own_ids;
      routes = c.self.invariant.routes;
      ends = c.self.invariant.ends;
      few = c.self.invariant.few;
      links = c.self.invariant.links;
      few_links = c.self.invariant.few_links;
      one = c.self.invariant.one;
    }

pub returns-in-Ok-take-clause-taken : goal.returns-in-Ok-take-clause-taken
returns-in-Ok-take-clause-taken g c =
    let base = c.self.inside.base in
    let ps = c.self.inside.placements.items in
    let batch = c.args.batch.now in
    let next = c.self.inside.version + 1 in
    let all = c.deref.ensures.value ∙ ap (λ (b : NumberedChanges). b.changes) c.batch.view_is in
    let is = c.in_ok-made.ensures ps c.self.invariant.sums ∙ ap (base_batch ps next) all in
    rw (← c.self.view_is) (
      base_batch ps next batch.changes,
      subst (λ (d : Database). IsBaseBatch (state_of base c.self.inside.version ps) batch.changes (base_batch ps next batch.changes) (state_of d next ps)) (sym c.absorb_planned.ensures)
          (base_leads (state_of base c.self.inside.version ps) batch next c.within_limits.ensures.keyed c.in-Ok.ensures.ok.fits refl),
      subst (λ (b : NumberedChanges). g.S.Taker.takes c.args.taker.now b c.take.new.self) is c.in-Ok-take.ensures.taken,
    )

pub returns-clause-err : goal.returns-clause-err
returns-clause-err g c =
    let base = c.self.inside.base in
    let ps = c.self.inside.placements.items in
    let batch = c.args.batch.now in
    let next = c.self.inside.version + 1 in
    let all = c.deref.ensures.value ∙ ap (λ (b : NumberedChanges). b.changes) c.batch.view_is in
    let is = c.in_ok-made.ensures ps c.self.invariant.sums ∙ ap (base_batch ps next) all in
    rw (← c.self.view_is) (
      c.in-Ok.ensures.ok.fits,
      base_batch ps next batch.changes,
      base_leads (state_of base c.self.inside.version ps) batch next c.within_limits.ensures.keyed c.in-Ok.ensures.ok.fits refl,
      subst (λ (b : NumberedChanges). g.S.Taker.refuses c.args.taker.now b c.in-Err-take.why c.take.new.self) is c.in-Err-take.ensures.refused,
    )
