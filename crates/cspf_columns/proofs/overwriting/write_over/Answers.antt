use Rattle.std.proofs.Common.{length, ap, arith}
use Rattle.cspf_model.specs.Lemmas.LinkRows.{database_of}
use Rattle.cspf_columns.proofs.AlikeRows.{ends_alike, reverses_alike, routers_alike, spans_alike, as_many}
use Rattle.cspf_columns.proofs.RouterColumn.{column_table}
use Rattle.cspf_columns.proofs.RouterLists.{length-router_list}
use Rattle.cspf_columns.proofs.overwriting.write_over.Goals as goal

pub returns-clause-columns : goal.returns-clause-columns
returns-clause-columns c =
    let columns = c.args.columns.now in
    let rows = columns.rows.items in
    let new = c.write_all.new.rows.items in
    let is = c.requires.columns in
    let over = c.write_all.ensures in
    let all = routers_alike rows new over.alike columns.routers.items columns.ends.items is.parts.by_key over.by_key is.parts.all is.parts.ends in
    let column = column_table rows columns.routers.items columns.ends.items is.parts.by_key is.parts.all is.parts.ends in
    record {
      parts = record {
        room = record {
          rows = omega (arith, is.parts.room.rows, over.capacity);
          routers = is.parts.room.routers;
          ends = is.parts.room.ends;
          reverses = is.parts.room.reverses;
          spans = is.parts.room.spans;
        };
        by_key = over.by_key;
        most = omega (arith, is.parts.most, as_many rows new over.alike);
        few = omega (arith, ap length all, ap length is.parts.all, length-router_list (database_of new), length-router_list (database_of rows), is.parts.few);
        all = all;
        ends = (ends_alike rows new over.alike columns.routers.items columns.ends.items column).ends;
      };
      reverses = reverses_alike rows new over.alike columns.reverses.items is.reverses;
      spans = spans_alike rows new over.alike columns.routers.items columns.spans.items is.spans;
    }
