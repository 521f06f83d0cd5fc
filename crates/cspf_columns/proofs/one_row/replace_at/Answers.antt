use Rattle.std.proofs.Common.{◌≡◌, ◌<◌, List, length, refl, sym, ap, subst, slice_set, ◌∙◌, arith}
use Rattle.std.proofs.lemmas.List.{length-set, get_or-set_same}
use Rattle.std.specs.List.{HoldsAt}
use Rattle.cspf_model.specs.declared.batch.Change.TheVariants.{Put}
use Rattle.cspf_model.specs.declared.link.Link.{Link}
use Rattle.cspf_model.specs.Database.{key_of}
use Rattle.cspf_model.specs.Lemmas.CountedEnds.{HasListedEnds}
use Rattle.cspf_model.specs.Lemmas.LinkChanges.{relinked}
use Rattle.cspf_model.specs.Lemmas.LinkRows.{database_of}
use Rattle.cspf_columns.specs.Reverses.{AreReversesBut, same_key}
use Rattle.cspf_columns.proofs.AlikeRows.{written_alike, ends_alike, reverses_alike}
use Rattle.cspf_columns.proofs.RowOrder.{entries-hit, by_key-entries, database_of-entries}
use Rattle.cspf_columns.proofs.EndColumn.{length-ends, put_over}
use Rattle.cspf_columns.proofs.MovedReverses.{put_over as reverses_over}
use Rattle.cspf_columns.proofs.one_row.replace_at.Goals as goal

pub returns-then-is_alike : goal.returns-then-is_alike
returns-then-is_alike c =
    let columns = c.args.columns.now in
    let rows = columns.rows.items in
    let l = c.args.link.now in
    let old = c.requires.paired.tied in
    let same = written_alike rows c.args.at c.requires.within l (rw c.deref.ensures.value at c.is_alike.ensures c.if-is_alike.true) in
    let written = entries-hit rows c.args.at l old.by_key c.requires.within c.requires.key in
    record {
      changed = database_of-entries (relinked (database_of rows) (Put l)) _ refl written;
      paired = record {
        tied = record {
          room = record { rows = old.room.rows; routers = old.room.routers; ends = old.room.ends; reverses = old.room.reverses; spans = old.room.spans };
          by_key = by_key-entries _ _ written;
          rising = old.rising;
          few = old.few;
          column = ends_alike rows _ same columns.routers.items columns.ends.items old.column;
        };
        reverses = reverses_alike rows _ same columns.reverses.items c.requires.paired.reverses;
      };
      longer = omega (arith, length-set rows c.args.at l);
      routers = refl;
    }

pub index_mut-requires-3 : goal.index_mut-requires-3
index_mut-requires-3 c =
    let parted = c.unpair.ensures in
    omega (arith, length-ends _ _ _ parted.tied.column.ends, ap length parted.rows, c.requires.within, c.unpair.new.columns.ends.ok.0)

pub pair-requires-clause-tied : goal.pair-requires-clause-tied
pair-requires-clause-tied c =
    let parted = c.unpair.ensures in
    let rows = c.unpair.new.columns.rows.items in
    let l = c.args.link.now in
    let has = subst (λ (rs : List Link). HoldsAt (λ m. key_of m ≡ key_of l) rs c.args.at) (sym parted.rows) c.requires.key in
    let known : HasListedEnds c.unpair.new.columns.routers.items (Put l) = rw parted.routers c.requires.known in
    let end = rw c.deref-2.ensures.value at c.index_among.ensures in
    record {
      room = record { rows = parted.tied.room.rows; routers = parted.tied.room.routers; ends = parted.tied.room.ends; reverses = parted.tied.room.reverses; spans = parted.tied.room.spans };
      by_key = by_key-entries _ _ (entries-hit rows c.args.at l parted.tied.by_key (omega (arith, ap length parted.rows, c.requires.within)) has);
      rising = parted.tied.rising;
      few = parted.tied.few;
      column = put_over rows _ _ parted.tied.column l c.index_among.result known.0 end.within end.found c.args.at;
    }

pub pair-requires-clause-parted : goal.pair-requires-clause-parted
pair-requires-clause-parted c d =
    let parted = c.unpair.ensures in
    let columns = c.unpair.new.columns in
    let rows = columns.rows.items in
    let l = c.args.link.now in
    let within : c.args.at < length rows = omega (arith, ap length parted.rows, c.requires.within) in
    let has = subst (λ (rs : List Link). HoldsAt (λ m. key_of m ≡ key_of l) rs c.args.at) (sym parted.rows) c.requires.key in
    subst (λ k. AreReversesBut (same_key k) (slice_set rows c.args.at l) columns.reverses.items) (sym (ap key_of (get_or-set_same rows c.args.at l d within)))
    (reverses_over rows columns.reverses.items (key_of l) (omega (arith, ap length parted.rows, c.requires.room)) (parted.parted (key_of l) has) l refl c.args.at within has)

pub returns : goal.returns
returns c =
    let parted = c.unpair.ensures in
    let rows = c.unpair.new.columns.rows.items in
    let l = c.args.link.now in
    let has = subst (λ (rs : List Link). HoldsAt (λ m. key_of m ≡ key_of l) rs c.args.at) (sym parted.rows) c.requires.key in
    record {
      changed =
          ap database_of c.pair.ensures.rows
          ∙ database_of-entries (relinked (database_of rows) (Put l)) _ refl (entries-hit rows c.args.at l parted.tied.by_key (omega (arith, ap length parted.rows, c.requires.within)) has)
          ∙ ap (λ (rs : List Link). relinked (database_of rs) (Put l)) parted.rows;
      paired = c.pair.ensures.paired;
      longer = omega (arith, ap length c.pair.ensures.rows, length-set rows c.args.at l, ap length parted.rows);
      routers = c.pair.ensures.routers ∙ parted.routers;
    }
