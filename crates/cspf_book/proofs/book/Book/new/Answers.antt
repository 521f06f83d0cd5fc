use Rattle.std.proofs.Common.{refl, sym, ap, subst, length, ◌∙◌, arith}
use Rattle.std.specs.List.{IsDistinct}
use Rattle.cspf_model.specs.Database.{Database}
use Rattle.cspf_book.specs.Effective.{effective}
use Rattle.cspf_book.specs.BookState.{links_placed}
use Rattle.cspf_book.specs.Kept.{IsCountOf}
use Rattle.cspf_book.specs.ById.{AreIdsOf}
use Rattle.cspf_book.specs.PlacedRoutes.{HaveDistinctIds, HaveOwnRoutes, ConnectTheirEnds}
use Rattle.cspf_book.proofs.Currents.{effective-no_links}
use Rattle.cspf_book.proofs.book.Book.new.Goals as goal

pub invariant_of-result : goal.invariant_of-result
unfolding IsDistinct
invariant_of-result c =
    record {
      current =
          c.in_ok-new-2.ensures ∙ effective-no_links c.new-7.result.items
          ∙ ap (λ (d : Database). effective d c.new-7.result.items) (sym c.in_ok-new.ensures);
      sums = subst (IsCountOf c.new-5.result) (sym c.new-7.ensures.items) c.new-5.ensures;
      small = λ k p. rw c.new-7.ensures.items (omega arith);
      ids = subst (AreIdsOf c.new-6.result 0) (sym c.new-7.ensures.items) c.new-6.ensures;
      own_ids = subst HaveDistinctIds (sym c.new-7.ensures.items) tt;
      few = omega (arith, ap length c.new-7.ensures.items);
      links = sym (ap links_placed c.new-7.ensures.items);
      few_links = omega arith;
      routes = subst HaveOwnRoutes (sym c.new-7.ensures.items) tt;
      ends = subst ConnectTheirEnds (sym c.new-7.ensures.items) tt;
      one = rw (c.in_ok-push.ensures.items, c.new-changes.ensures.items) refl;
    }
