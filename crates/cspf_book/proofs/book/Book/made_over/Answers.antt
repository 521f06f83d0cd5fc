use Rattle.std.proofs.Common.{◌≡◌, List, IfOk, Ok, Err}
use Rattle.cspf_book.specs.declared.placement.Placement.{Placement}
use Rattle.cspf_book.specs.OverLinks.{made_over}
use Rattle.cspf_book.specs.Kept.{IsCountOf}
use Rattle.cspf_book.proofs.book.Book.made_over.Goals as goal

pub returns : goal.returns
returns c =
    let ps = c.self.inside.placements.items in
    let base = c.self.inside.base in
    let p = c.args.placement.now in
    rw (← c.self.view_is)
    (elim c.find_made_over.result as (λ r.
    IfOk r (λ list. (placements : List Placement) → IsCountOf c.self.inside.held.counts placements → list.items ≡ made_over base placements p)
    → IfOk r (λ list. list.items ≡ made_over base ps p)) [
      | Ok list ↦ λ told. told ps c.self.invariant.sums
      | Err refused ↦ λ none. tt
    ] c.find_made_over.ensures)
