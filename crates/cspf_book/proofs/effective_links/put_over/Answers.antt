use Rattle.std.proofs.Common.{length, ap, ◌∙◌}
use Rattle.cspf_model.specs.declared.batch.Change.TheVariants.{Put}
use Rattle.cspf_model.specs.Numbered.{NumberedChanges}
use Rattle.cspf_model.specs.Changes.{after_changes}
use Rattle.cspf_book.proofs.OneLink.{one_change, one_fits}
use Rattle.cspf_book.proofs.effective_links.put_over.Goals as goal

pub returns-clause-put : goal.returns-clause-put
returns-clause-put c =
    let one = ap (λ (b : NumberedChanges). length b.changes) c.one.view_is ∙ c.requires.one in
    let is = one_change c.one.inside.changes.items (Put c.args.link) one in
    c.absorb.ensures.fitting (one_fits c.args.table.now c.args.link _ c.within_limits.ensures c.requires.there is)
    ∙ ap (after_changes c.args.table.now) is
