use Rattle.std.proofs.Common.{length, map, refl, sym, ap, subst, ◌∙◌, arith}
use Rattle.std.proofs.lemmas.List.Edits.{length-insert, get_or-insert_at}
use Rattle.std.specs.List.{insert}
use Rattle.cspf_model.specs.declared.batch.Change.TheVariants.{Put}
use Rattle.cspf_model.specs.Database.{key_of}
use Rattle.cspf_model.specs.Lemmas.LinkChanges.{relinked}
use Rattle.cspf_model.specs.Lemmas.LinkRows.{database_of}
use Rattle.cspf_columns.specs.Reverses.{AreReversesBut, index_behind, same_key}
use Rattle.cspf_columns.specs.declared.limits.TheConstants.{NO_LINK}
use Rattle.cspf_columns.proofs.RowOrder.{entries-gap, by_key-entries, database_of-entries, unmet_at_gap}
use Rattle.cspf_columns.proofs.EndColumn.{put_between}
use Rattle.cspf_columns.proofs.PairedRows.{left_out_unmet}
use Rattle.cspf_columns.proofs.MovedReverses.{put_between as reverses_between}
use Rattle.cspf_columns.proofs.one_row.insert_at.Goals as goal

pub pair-requires-clause-tied : goal.pair-requires-clause-tied
pair-requires-clause-tied c =
    let columns = c.args.columns.now in
    let l = c.args.link.now in
    let old = c.requires.paired.tied in
    let end = rw c.deref.ensures.value at c.index_among-end.ensures in
    record {
      room = record {
        rows = omega (arith, old.room.rows, c.insert_within.ensures.capacity);
        routers = old.room.routers;
        ends = omega (arith, old.room.ends, c.insert_within-2.ensures.capacity);
        reverses = omega (arith, old.room.reverses, c.open_gap.ensures.capacity);
        spans = old.room.spans;
      };
      by_key = rw c.insert_within.ensures.items (by_key-entries _ _ (entries-gap columns.rows.items c.args.at l old.by_key c.requires.upto c.requires.gap));
      rising = old.rising;
      few = old.few;
      column = rw (c.insert_within.ensures.items, c.insert_within-2.ensures.items) (put_between _ _ _ old.column l c.index_among-end.result c.requires.known.0 end.within end.found c.args.at);
    }

pub pair-requires-clause-parted : goal.pair-requires-clause-parted
pair-requires-clause-parted c d =
    let columns = c.args.columns.now in
    let rows = columns.rows.items in
    let l = c.args.link.now in
    let parted = left_out_unmet (key_of l) rows columns.reverses.items (unmet_at_gap rows (key_of l) c.args.at c.requires.gap) c.requires.paired.reverses in
    rw (c.insert_within.ensures.items, c.open_gap.ensures.opened)
    (subst (λ k. AreReversesBut (same_key k) (insert rows c.args.at l) (insert (map (index_behind c.args.at) columns.reverses.items) c.args.at NO_LINK)) (sym (ap key_of (get_or-insert_at rows c.args.at l d c.requires.upto)))
    (reverses_between rows columns.reverses.items (key_of l) (omega (arith, c.requires.room)) parted l refl c.args.at c.requires.upto))

pub returns : goal.returns
returns c =
    let rows = c.args.columns.now.rows.items in
    let l = c.args.link.now in
    let put = c.pair.ensures.rows ∙ c.insert_within.ensures.items in
    record {
      changed = ap database_of put ∙ database_of-entries (relinked (database_of rows) (Put l)) _ refl (entries-gap rows c.args.at l c.requires.paired.tied.by_key c.requires.upto c.requires.gap);
      paired = c.pair.ensures.paired;
      longer = omega (arith, ap length put, length-insert rows c.args.at l c.requires.upto);
      routers = c.pair.ensures.routers;
    }
