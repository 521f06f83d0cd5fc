use Rattle.std.proofs.Common.{length, arith, sym, ap}
use Rattle.cspf_columns.proofs.RemainingRouters.{filter_whole, column_kept, router_list-kept}
use Rattle.cspf_columns.proofs.scratch.Scratch.drop_routers.Goals as goal

pub returns-then-len-clause-all : goal.returns-then-len-clause-all
returns-then-len-clause-all c =
    let old = c.requires.tied in
    let kept = rw (c.deref.ensures.value, c.deref-3.ensures.value) at c.keep_ends.ensures.kept in
    router_list-kept _ _ _ old.column _ _ old.by_key old.rising (sym (filter_whole _ _ (omega (arith, ap length kept, c.if-len.true, c.len.ensures, c.len-2.ensures)))) old.column

pub returns-clause-all : goal.returns-clause-all
returns-clause-all c =
    let old = c.requires.tied in
    let new = rw (c.deref.ensures.value, c.deref-3.ensures.value) at c.keep_ends.ensures in
    rw c.swap.ensures.x_after (router_list-kept _ _ _ old.column _ _ old.by_key old.rising new.kept (column_kept _ _ _ old.column _ _ new.kept new.placed))

pub returns-clause-ends : goal.returns-clause-ends
returns-clause-ends c =
    let new = rw (c.deref.ensures.value, c.deref-3.ensures.value) at c.keep_ends.ensures in
    rw (c.swap.ensures.x_after, c.move_ends.ensures.moved, c.deref-4.ensures.value) (column_kept _ _ _ c.requires.tied.column _ _ new.kept new.placed).ends
