use Rattle.std.proofs.Common.{◌≡◌, not, sym, ap, ◌∙◌, eqb-true, eq-eqb}
use Rattle.std.proofs.lemmas.List.{drop_all}
use Rattle.std.proofs.lemmas.Bool.{false≢true}
use Rattle.cspf_book.proofs.SteppedPaths.{not_off, leads_on, leads_off}
use Rattle.cspf_book.proofs.path.Path.leads.Goals as goal

pub returns-then-ne : goal.returns-then-ne
returns-then-ne c =
    let links = c.deref-link-items.result.now in
    let off : (c.link-item.result.from ≡ c.loop-link.router) → ⊥ = λ same. false≢true (sym (ap not (eq-eqb c.link-item.result.from c.loop-link.router same)) ∙ sym c.ne.ensures ∙ c.if-ne.true) in
    rw (← c.self.view_is, ← c.deref-link-items.ensures.value)
    (λ t. absurd (false≢true t), λ all. absurd (leads_off links c.loop-link.link-index c.args.from c.args.to c.loop-link.router c.loop-link-test.true c.link-item.result c.link-item.is c.loop-link.invariant off all))

pub loop-link-preserved : goal.loop-link-preserved
loop-link-preserved c =
    let links = c.deref-link-items.result.now in
    let begins = eqb-true c.link-item.result.from c.loop-link.router (not_off _ (sym c.ne.ensures ∙ c.if-ne.false)) in
    leads_on links c.loop-link.link-index c.args.from c.args.to c.loop-link.router c.loop-link-test.true c.link-item.result c.link-item.is c.loop-link.invariant begins

pub returns : goal.returns
returns c =
    let links = c.deref-link-items.result.now in
    let none = drop_all c.loop-link.link-index links c.loop-link-test.false in
    let whole = rw none at c.loop-link.invariant in
    rw (← c.self.view_is, ← c.deref-link-items.ensures.value)
    (λ t. whole.0 (eqb-true c.loop-link.router c.args.to (sym c.eq.ensures ∙ t)), λ all. c.eq.ensures ∙ eq-eqb c.loop-link.router c.args.to (whole.1 all))
