use Rattle.std.proofs.Common.{rules, ◌≡◌, List, length, ap, ◌∙◌, subst}
use Rattle.cspf_model.specs.Numbered.{NumberedChanges}
use Rattle.cspf_publish.specs.Histories.{BeginsWith}
use Rattle.cspf_publish.specs.PublisherStates.{PublisherState}
use Rattle.cspf_work.proofs.Telling.{told_more, same_askers}
use Rattle.cspf_work.proofs.askers.tell_each.Goals as goal

pub loop-index-preserved : goal.loop-index-preserved
loop-index-preserved g c =
    let begins : BeginsWith c.learn.new.self.batches c.args.publisher.now.batches =
    subst (λ (bs : List NumberedChanges). BeginsWith c.learn.new.self.batches bs)
    (c.tell.ensures.batches ∙ ap (λ (p : PublisherState g.row.W.Denot). p.batches) c.loop-index.invariant.same) c.learn.ensures.told in
    let told = told_more c.args.publisher.now.batches c.args.askers.now.items c.loop-index.askers.items c.loop-index.index c.index_mut.result.now c.learn.new.self
    (search rules) c.index_mut.ensures.value (record { source = c.learn.ensures.source; later = c.learn.ensures.later }) begins c.loop-index.invariant.each c.loop-index.invariant.told in
    record {
      same = c.tell.ensures.same ∙ c.loop-index.invariant.same;
      count = c.loop-index.invariant.count;
      each = told.each;
      told = told.told;
    }

pub returns-clause-askers : goal.returns-clause-askers
returns-clause-askers g c =
    let count : length c.loop-index.askers.items ≡ length c.args.askers.now.items = search rules in
    same_askers c.args.askers.now.items c.loop-index.askers.items count c.loop-index.invariant.each
