use Rattle.cspf_columns.proofs.EndColumn.{length-ends}
use Rattle.cspf_columns.proofs.ReverseColumn.{spans_at_ends}
use Rattle.cspf_columns.proofs.RouterLists.{length-router_list}
use Rattle.cspf_columns.proofs.row_changes.list_beside.Goals as goal

pub list_spans-requires-clause-few : goal.list_spans-requires-clause-few
list_spans-requires-clause-few c = rw (c.deref.ensures.value, c.requires.parts.all, length-router_list) c.requires.parts.few

pub list_reverses-requires-clause-spans : goal.list_reverses-requires-clause-spans
list_reverses-requires-clause-spans c =
    rw (c.deref-then-not-follows.ensures.value, c.deref-then-not-follows-2.ensures.value, c.deref-then-not-follows-3.ensures.value)
    (spans_at_ends _ _ _ _ c.requires.parts.ends (rw (← c.deref-2.ensures.value, ← c.deref.ensures.value) c.list_spans.ensures.each))

pub list_reverses-requires-clause-ends : goal.list_reverses-requires-clause-ends
list_reverses-requires-clause-ends c =
    rw (c.deref-then-not-follows.ensures.value, c.deref-then-not-follows-2.ensures.value) (length-ends _ _ _ c.requires.parts.ends)

pub returns-then-not-follows-clause-columns : goal.returns-then-not-follows-clause-columns
returns-then-not-follows-clause-columns c =
    let parts = c.requires.parts in
    record {
      parts = record {
        room = record { rows = parts.room.rows; routers = parts.room.routers; ends = parts.room.ends; reverses = c.list_reverses.ensures.room; spans = c.list_spans.ensures.room };
        by_key = parts.by_key;
        most = parts.most;
        few = parts.few;
        all = parts.all;
        ends = parts.ends;
      };
      reverses = rw (← c.deref-then-not-follows.ensures.value) c.list_reverses.ensures.column;
      spans = rw (← c.deref-2.ensures.value, ← c.deref.ensures.value) c.list_spans.ensures.each;
    }

pub returns-else-not-follows-clause-columns : goal.returns-else-not-follows-clause-columns
returns-else-not-follows-clause-columns c =
    let parts = c.requires.parts in
    record {
      parts = record {
        room = record { rows = parts.room.rows; routers = parts.room.routers; ends = parts.room.ends; reverses = parts.room.reverses; spans = c.list_spans.ensures.room };
        by_key = parts.by_key;
        most = parts.most;
        few = parts.few;
        all = parts.all;
        ends = parts.ends;
      };
      reverses = c.requires.reverses c.if-not-follows.false;
      spans = rw (← c.deref-2.ensures.value, ← c.deref.ensures.value) c.list_spans.ensures.each;
    }
