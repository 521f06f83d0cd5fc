use Rattle.std.proofs.Common.{◌≡◌, ◌∙◌}
use Rattle.cspf_model.specs.Numbered.{AreNumberedFrom}
use Rattle.cspf_model.specs.Changes.{changes_of}
use Rattle.cspf_snapshot.specs.Snapshots.{AreFullButLast, IsSnapshot}
use Rattle.cspf_snapshot.proofs.SnapshotMade.{AreListsOf, is_snapshot, if_ok_by}
use Rattle.cspf_snapshot.proofs.making.snapshot.Goals as goal

pub returns : goal.returns
returns c =
    let lists : AreListsOf c.args.table.now c.links.result.now c.marks.result.now = record {
      listed = c.links.ensures.listed;
      most = c.links.ensures.most;
      once = c.links.ensures.once;
      are_marks = record { all = c.marks.ensures.all; rising = c.marks.ensures.rising };
      keyed = c.links.ensures.keyed;
      few = c.links.ensures.few;
      sorted = c.links.ensures.sorted;
      few_marks = c.marks.ensures.few;
    } in
    let listed = c.deref.ensures.value ∙ c.in_ok-changes.ensures in
    if_ok_by (λ batches. changes_of batches.items ≡ c.deref.result.now) (λ batches. AreNumberedFrom 1 batches.items) (λ batches. AreFullButLast batches.items) (λ batches. IsSnapshot c.args.table.now batches.items)
    (λ batches changes numbers full. is_snapshot c.args.table.now c.links.result.now c.marks.result.now lists c.counted_routers.ensures.counted batches.items (changes ∙ listed) numbers full)
    c.cut_into_batches.result c.cut_into_batches.ensures.all c.cut_into_batches.ensures.numbers c.cut_into_batches.ensures.full
