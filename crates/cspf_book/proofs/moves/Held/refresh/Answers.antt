use Rattle.std.proofs.Common.{◌+◌, drop, sym, ap, subst, ◌∙◌, arith}
use Rattle.std.proofs.lemmas.List.{drop_all}
use Rattle.cspf_book.specs.Placements.{key_passed, has_key}
use Rattle.cspf_book.specs.Alike.{IsCurrentBut}
use Rattle.cspf_book.specs.Kept.{IsCountOf}
use Rattle.cspf_book.proofs.Currents.{current_step, current_whole}
use Rattle.cspf_book.proofs.moves.Held.refresh.Goals as goal

pub loop-link-preserved : goal.loop-link-preserved
loop-link-preserved c =
    let base = c.args.base.now in
    let l = c.link-item.result in
    let whole = c.links-link-items.ensures in
    let at = c.loop-link.link-index in
    record {
      ids = c.loop-link.invariant.ids;
      links = c.loop-link.invariant.links;
      counts = c.loop-link.invariant.counts;
      one = c.refresh.ensures.one;
      alike = c.refresh.ensures.alike;
      current = λ placements kept before.
          subst (λ ls. IsCurrentBut base placements c.refresh.new.table (drop (at + 1) ls)) whole
          (current_step base placements c.loop-link.self.effective c.refresh.new.table (l.from, l.local) (c.refresh.ensures.at placements kept) c.links-link-items.result.now at l c.loop-link-test.true (ap key_passed (sym c.link-item.is))
          (subst (λ ls. IsCurrentBut base placements c.loop-link.self.effective (drop at ls)) (sym whole) (c.loop-link.invariant.current placements kept before)));
    }

pub returns-clause-current : goal.returns-clause-current
returns-clause-current c =
    λ placements kept before.
    let none = ap (drop c.loop-link.link-index) (sym c.links-link-items.ensures) ∙ drop_all c.loop-link.link-index c.links-link-items.result.now (omega arith) in
    current_whole c.args.base.now placements _ c.loop-link.invariant.alike
    (λ k. c.loop-link.invariant.current placements (subst (λ counts. IsCountOf counts placements) (sym c.loop-link.invariant.counts) kept) before k (ap (λ ls. has_key ls k) none))
