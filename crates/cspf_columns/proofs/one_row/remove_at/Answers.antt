use Rattle.std.proofs.Common.{◌≡◌, ◌<◌, List, length, sym, ap, subst, ◌∙◌, arith}
use Rattle.std.proofs.lemmas.List.{get_or_default}
use Rattle.std.proofs.lemmas.List.Edits.{length-remove}
use Rattle.std.specs.List.{HoldsAt}
use Rattle.cspf_model.proofs.Databases.OneChange.{database-without}
use Rattle.cspf_model.specs.declared.batch.Change.TheVariants.{Remove}
use Rattle.cspf_model.specs.declared.link.Link.{Link}
use Rattle.cspf_model.specs.Database.{key_of}
use Rattle.cspf_model.specs.Lemmas.LinkChanges.{relinked}
use Rattle.cspf_model.specs.Lemmas.LinkRows.{database_of}
use Rattle.cspf_columns.proofs.RowOrder.{own_keys, by_key-without}
use Rattle.cspf_columns.proofs.EndColumn.{taken_out}
use Rattle.cspf_columns.proofs.MovedReverses.{taken_out as reverses_out}
use Rattle.cspf_columns.proofs.one_row.remove_at.Goals as goal

pub close_gap-requires : goal.close_gap-requires
close_gap-requires c =
    let parted = c.unpair.ensures in
    let rows = c.unpair.new.columns.rows.items in
    let gone = c.remove.result in
    let within : c.args.at < length rows = omega (arith, ap length parted.rows, c.requires.within) in
    let column = parted.parted (key_of gone) (λ d. ap key_of (get_or_default rows c.args.at d gone within ∙ sym c.remove.ensures.value)) in
    omega (arith, column.many, within, c.unpair.new.columns.reverses.ok.0)

pub returns : goal.returns
returns c from local key =
    let parted = c.unpair.ensures in
    let columns = c.unpair.new.columns in
    let rows = columns.rows.items in
    let gone = c.remove.result in
    let within : c.args.at < length rows = omega (arith, ap length parted.rows, c.requires.within) in
    let has = subst (λ (rs : List Link). HoldsAt (λ l. key_of l ≡ (from, local)) rs c.args.at) (sym parted.rows) key in
    record {
      changed =
          ap database_of c.remove.ensures.items
          ∙ database-without rows c.args.at gone (from, local) (own_keys rows parted.tied.by_key) within c.remove.ensures.value (ap key_of c.remove.ensures.value ∙ has gone)
          ∙ ap (λ (rs : List Link). relinked (database_of rs) (Remove from local)) parted.rows;
      paired = record {
        tied = record {
          room = record {
            rows = omega (arith, parted.tied.room.rows, c.remove.ensures.capacity);
            routers = parted.tied.room.routers;
            ends = omega (arith, parted.tied.room.ends, c.remove-2.ensures.capacity);
            reverses = omega (arith, parted.tied.room.reverses, c.close_gap.ensures.capacity);
            spans = parted.tied.room.spans;
          };
          by_key = rw c.remove.ensures.items (by_key-without rows c.args.at parted.tied.by_key);
          rising = parted.tied.rising;
          few = parted.tied.few;
          column = rw (c.remove.ensures.items, c.remove-2.ensures.items) (taken_out _ _ _ parted.tied.column c.args.at);
        };
        reverses = rw (c.remove.ensures.items, c.close_gap.ensures.closed)
            (reverses_out rows columns.reverses.items (from, local) (omega (arith, ap length parted.rows, c.requires.room)) (parted.parted (from, local) has) parted.tied.by_key c.args.at within has);
      };
      longer = omega (arith, ap length c.remove.ensures.items, length-remove rows c.args.at within, ap length parted.rows);
      routers = parted.routers;
    }
