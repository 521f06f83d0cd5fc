use Rattle.std.proofs.Common.{length, ap, arith}
use Rattle.cspf_columns.proofs.RouterPlaces.{column_more, moved_ends, ends_kept}
use Rattle.cspf_columns.proofs.scratch.Scratch.add_routers.Goals as goal

pub list_places-requires-clause-among : goal.list_places-requires-clause-among
list_places-requires-clause-among c =
    let kept = rw (c.copy_routers.ensures.items, c.deref.ensures.value) at c.add_ends.ensures.kept in
    rw (c.deref-3.ensures.value, c.deref-2.ensures.value) kept

pub returns-clause-tied : goal.returns-clause-tied
returns-clause-tied c =
    let old = c.requires.tied in
    let within = old.column.ends.within in
    let kept = rw (c.copy_routers.ensures.items, c.deref.ensures.value) at c.add_ends.ensures.kept in
    let placed = rw (c.deref-3.ensures.value, c.deref-2.ensures.value) at c.list_places.ensures.each in
    let moved = moved_ends _ _ _ c.args.columns.now.ends.items within (ends_kept _ _ _ within kept) placed in
    rw (c.swap.ensures.x_after) (record {
      room = record {
        rows = old.room.rows;
        routers = omega (arith, c.args.self.now.room_for_routers, c.copy_routers.ensures.capacity, c.add_ends.ensures.capacity);
        ends = omega (arith, old.room.ends, c.move_ends.ensures.capacity);
        reverses = old.room.reverses;
        spans = old.room.spans;
      };
      by_key = old.by_key;
      rising = c.add_ends.ensures.rising;
      few =
          omega (arith, c.add_ends.ensures.longer, c.add_ends.new.routers.ok.0, c.copy_routers.new.listed.ok.0, ap length (rw c.deref.ensures.value at c.copy_routers.ensures.items), c.requires.few, c.requires.short);
      column = column_more _ _ _ _ _ old.column kept (rw (c.move_ends.ensures.moved, c.deref-4.ensures.value) moved.0) (rw (c.move_ends.ensures.moved, c.deref-4.ensures.value) moved.1);
    })
