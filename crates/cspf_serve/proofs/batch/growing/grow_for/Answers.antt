use Rattle.std.proofs.Common.{◌≡◌, ◌∙◌, ap, get_or, set}
use Rattle.std.proofs.lemmas.List.{set-get_or}
use Rattle.cspf_serve.proofs.batch.growing.grow_for.Goals as goal

pub loop-index-preserved : goal.loop-index-preserved
loop-index-preserved c =
    let items = c.loop-index.askers.items in
    let asker = c.index_mut.result.now in
    let same : c.set_growth.new.self ≡ get_or items c.loop-index.index asker = c.set_growth.ensures ∙ c.index_mut.ensures.value in
    record {
      items = ap (λ a. set items c.loop-index.index a) same ∙ set-get_or items c.loop-index.index asker ∙ c.loop-index.invariant.items;
      count = c.loop-index.invariant.count;
    }
