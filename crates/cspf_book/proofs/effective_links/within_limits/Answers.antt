use Rattle.cspf_book.proofs.TableLimits.{limits_of}
use Rattle.cspf_book.proofs.effective_links.within_limits.Goals as goal

pub returns : goal.returns
returns c =
    limits_of c.args.table.now _ _ c.links.ensures.most c.links.ensures.sorted c.links.ensures.few c.links.ensures.keyed c.marks.ensures.all c.marks.ensures.few
