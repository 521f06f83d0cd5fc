use Rattle.std.proofs.Common.{◌≡◌, List, length, sym, ap, ◌∙◌, arith}
use Rattle.cspf_model.specs.declared.link.Link.{Link}
use Rattle.cspf_model.specs.Database.{router_count}
use Rattle.cspf_model.specs.Lemmas.LinkChanges.{all_relinked}
use Rattle.cspf_model.specs.Lemmas.LinkRows.{database_of}
use Rattle.cspf_columns.specs.Index.{router_list}
use Rattle.cspf_columns.proofs.RouterColumn.{column_table}
use Rattle.cspf_columns.proofs.TableLimits.{most_rows}
use Rattle.cspf_columns.proofs.RouterLists.{rising-router_list, length-router_list}
use Rattle.cspf_columns.proofs.row_changes.change_columns.Goals as goal

pub add_routers-requires-clause-tied : goal.add_routers-requires-clause-tied
add_routers-requires-clause-tied c =
    let parts = c.requires.columns.parts in
    record {
      room = parts.room;
      by_key = parts.by_key;
      rising = rw parts.all (rising-router_list _);
      few = omega (arith, ap length parts.all, length-router_list (database_of c.args.columns.now.rows.items), parts.few);
      column = column_table _ _ _ parts.by_key parts.all parts.ends;
    }

pub add_routers-requires-clause-few : goal.add_routers-requires-clause-few
add_routers-requires-clause-few c = omega (arith, ap length c.requires.columns.parts.all, length-router_list (database_of c.args.columns.now.rows.items), c.requires.columns.parts.few)

pub change_with_ends-follows-requires-clause-paired : goal.change_with_ends-follows-requires-clause-paired
change_with_ends-follows-requires-clause-paired c =
    let added = c.add_routers.ensures in
    record { tied = added.tied; reverses = rw (added.rows, added.reverses) c.requires.columns.reverses }

pub change_with_ends-follows-requires-clause-added : goal.change_with_ends-follows-requires-clause-added
change_with_ends-follows-requires-clause-added c = rw c.add_routers.ensures.rows c.requires.added

pub change_with_ends-follows-requires-clause-most : goal.change_with_ends-follows-requires-clause-most
change_with_ends-follows-requires-clause-most c = rw c.add_routers.ensures.rows c.requires.columns.parts.most

pub list_beside-requires-clause-parts : goal.list_beside-requires-clause-parts
list_beside-requires-clause-parts c =
    let made = c.change_with_ends-follows.ensures in
    let dropped = c.drop_routers.ensures in
    let changed : database_of c.drop_routers.new.columns.rows.items ≡ all_relinked (database_of c.args.columns.now.rows.items) c.args.changes.now =
    ap database_of dropped.rows ∙ made.changed ∙ ap (λ (rows : List Link). all_relinked (database_of rows) c.args.changes.now) c.add_routers.ensures.rows in
    record {
      room = dropped.room;
      by_key = rw dropped.rows made.tied.by_key;
      most = most_rows _ _ (rw dropped.rows made.tied.by_key) changed c.requires.links;
      few = omega (arith, ap router_count changed, c.requires.few);
      all = dropped.all ∙ ap (λ (rows : List Link). router_list (database_of rows)) (sym dropped.rows);
      ends = rw dropped.rows dropped.ends;
    }

pub list_beside-requires-clause-reverses : goal.list_beside-requires-clause-reverses
list_beside-requires-clause-reverses c on = rw (c.drop_routers.ensures.rows, c.drop_routers.ensures.reverses) (c.change_with_ends-follows.ensures.reverses on)

pub returns-clause-changed : goal.returns-clause-changed
returns-clause-changed c =
    ap database_of (c.list_beside.ensures.rows ∙ c.drop_routers.ensures.rows) ∙ c.change_with_ends-follows.ensures.changed
    ∙ ap (λ (rows : List Link). all_relinked (database_of rows) c.args.changes.now) c.add_routers.ensures.rows
