use Rattle.std.proofs.Common.{◌≡◌, List, IfOk, Ok, Err, ap, ◌∙◌}
use Rattle.cspf_book.specs.declared.placement.Placement.{Placement}
use Rattle.cspf_book.specs.OverLinks.{over}
use Rattle.cspf_book.specs.Kept.{IsCountOf}
use Rattle.cspf_book.proofs.book.Book.over.Goals as goal

pub returns : goal.returns
returns c =
    let ps = c.self.inside.placements.items in
    rw (← c.self.view_is, ← c.batch.view_is)
    (elim c.find_over.result as (λ r.
    IfOk r (λ list. (placements : List Placement) → IsCountOf c.self.inside.held.counts placements → list.items ≡ over placements c.deref.result.now)
    → IfOk r (λ list. list.items ≡ over ps c.batch.inside.changes.items)) [
      | Ok list ↦ λ told. told ps c.self.invariant.sums ∙ ap (over ps) c.deref.ensures.value
      | Err refused ↦ λ none. tt
    ] c.find_over.ensures)
