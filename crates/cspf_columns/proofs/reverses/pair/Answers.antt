use Rattle.std.proofs.Common.{slice_index_or, subst, arith}
use Rattle.std.proofs.lemmas.List.{get_or_default}
use Rattle.cspf_model.specs.Database.{key_of}
use Rattle.cspf_columns.specs.Reverses.{IsIndexOfReverse, no_key}
use Rattle.cspf_columns.proofs.PairedRows.{taken_in_open, taken_in_paired}
use Rattle.cspf_columns.proofs.reverses.pair.Goals as goal

pub returns-then-other-clause-paired : goal.returns-then-other-clause-paired
returns-then-other-clause-paired c =
    let rows = c.args.columns.now.rows.items in
    let at = c.args.at in
    let l = c.index.result.now in
    let is = subst (λ m. IsIndexOfReverse no_key rows m c.reverse_index-other.result) c.index.ensures (rw c.deref.ensures.value at c.reverse_index-other.ensures) in
    record {
      tied = c.requires.tied;
      reverses = taken_in_open rows c.requires.tied.by_key at c.requires.within (key_of (slice_index_or rows at l)) (λ d. let same = get_or_default rows at d l c.requires.within in λ t. key_of (same t))
          c.args.columns.now.reverses.items (c.requires.parted l) c.reverse_index-other.result l is c.if-other.true;
    }

pub index_mut-requires : goal.index_mut-requires
index_mut-requires c =
    let is = rw c.deref.ensures.value at c.reverse_index-other.ensures in
    omega (arith, is.within c.if-other.false, c.from.ensures, (c.requires.parted c.index.result.now).many, c.args.columns.now.reverses.ok.0)

pub index_mut-requires-2 : goal.index_mut-requires-2
index_mut-requires-2 c = omega (arith, c.requires.within, (c.requires.parted c.index.result.now).many, c.args.columns.now.reverses.ok.0)

pub returns-clause-paired : goal.returns-clause-paired
returns-clause-paired c =
    let rows = c.args.columns.now.rows.items in
    let at = c.args.at in
    let l = c.index.result.now in
    let tied = c.requires.tied in
    let is = subst (λ m. IsIndexOfReverse no_key rows m c.reverse_index-other.result) c.index.ensures (rw c.deref.ensures.value at c.reverse_index-other.ensures) in
    record {
      tied = record { room = record { rows = tied.room.rows; routers = tied.room.routers; ends = tied.room.ends; reverses = tied.room.reverses; spans = tied.room.spans }; by_key = tied.by_key; rising = tied.rising; few = tied.few; column = tied.column };
      reverses = rw c.from.ensures (taken_in_paired rows tied.by_key at c.requires.within (key_of (slice_index_or rows at l)) (λ d. let same = get_or_default rows at d l c.requires.within in λ t. key_of (same t))
          c.args.columns.now.reverses.items (c.requires.parted l) c.reverse_index-other.result l is c.if-other.false (λ e. absurd (omega (arith, e, c.requires.within, c.requires.most))));
    }
