use Rattle.std.proofs.Common.{[], refl, ◌∙◌, arith}
use Rattle.cspf_columns.proofs.RouterLists.{router_list-nil, routers_marked}
use Rattle.cspf_db.proofs.table.Table.new.Goals as goal

pub invariant_of-result : goal.invariant_of-result
invariant_of-result c =
    let made = c.in_ok-new.ensures in
    let m = c.in_ok-with_capacity.ensures in
    let u = c.in_ok-with_capacity-2.ensures in
    record {
      columns = made.columns;
      marks = record { rising = rw m.items refl; most = rw m.items (omega arith); room = omega (arith, m.exact) };
      listed = rw (made.routers, made.rows) (router_list-nil ∙ routers_marked [] _);
      transits = record { many = rw (u.items, made.routers) refl; each = rw made.routers (λ at h. absurd (omega arith)) };
      room_for_transits = omega (arith, u.exact);
    }
