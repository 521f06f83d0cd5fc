use Rattle.std.proofs.Common.{sym, ap, ◌∙◌}
use Rattle.cspf_model.specs.declared.batch.Change.TheVariants.{Put}
use Rattle.cspf_model.specs.Changes.{after_change}
use Rattle.cspf_book.proofs.OneLink.{ends_there_too, alike_with, at_put}
use Rattle.cspf_book.proofs.effective_links.refresh.Goals as goal

pub put_over-requires-clause-there : goal.put_over-requires-clause-there
put_over-requires-clause-there c =
    ends_there_too c.args.base.now c.args.table.now (c.args.from, c.args.local) c.within_limits.ensures.keyed c.requires.alike c.in-Some.link c.effective_link.result (sym c.find.ensures ∙ c.in-Some.is) c.effective_link.ensures.ends

pub returns-in-Some-clause-alike : goal.returns-in-Some-clause-alike
returns-in-Some-clause-alike c =
    alike_with c.args.base.now c.args.table.now (c.args.from, c.args.local) c.within_limits.ensures.keyed c.requires.alike c.in-Some.link c.effective_link.result _ (sym c.find.ensures ∙ c.in-Some.is) c.effective_link.ensures.ends c.put_over.ensures.put

pub returns-in-Some-clause-at : goal.returns-in-Some-clause-at
returns-in-Some-clause-at c =
    λ placements kept.
    at_put c.args.base.now c.args.table.now placements (c.args.from, c.args.local) c.within_limits.ensures.keyed c.requires.alike c.in-Some.link _ (sym c.find.ensures ∙ c.in-Some.is)
    (c.put_over.ensures.put ∙ ap (λ m. after_change c.args.table.now (Put m)) (c.effective_link.ensures.effective placements kept))
