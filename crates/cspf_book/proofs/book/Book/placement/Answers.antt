use Rattle.std.proofs.Common.{nat_eq, sym, ap, ◌∙◌}
use Rattle.std.specs.List.{slice_get}
use Rattle.std.proofs.lemmas.List.Folds.{find_at}
use Rattle.cspf_book.specs.Placements.{id_of}
use Rattle.cspf_book.proofs.book.Book.placement.Goals as goal

pub returns : goal.returns
returns c =
    let ps = c.self.inside.placements.items in
    let at = c.index_of.ensures c.self.inside.version ps c.self.invariant.ids in
    rw (← c.self.view_is)
    (c.placement_at.ensures ∙ ap (λ qs. slice_get qs c.index_of.result) c.deref.ensures.value ∙ ap (slice_get ps) at ∙ sym (find_at (λ p. nat_eq (id_of p) c.args.id) ps))
