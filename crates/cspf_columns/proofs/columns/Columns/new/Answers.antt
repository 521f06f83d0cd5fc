use Rattle.std.proofs.Common.{refl, arith}
use Rattle.std.proofs.lemmas.List.Elements.{All-nil}
use Rattle.cspf_model.proofs.Databases.DistinctRouters.{router_count-no_links}
use Rattle.cspf_columns.proofs.RouterLists.{router_list-nil}
use Rattle.cspf_columns.proofs.columns.Columns.new.Goals as goal

pub returns-clause-columns : goal.returns-clause-columns
returns-clause-columns c =
    let r = c.in_ok-with_capacity.ensures in
    let s = c.in_ok-with_capacity-2.ensures in
    let e = c.in_ok-with_capacity-3.ensures in
    let b = c.in_ok-with_capacity-4.ensures in
    let t = c.in_ok-with_capacity-5.ensures in
    record {
      parts = record {
        room = record { rows = omega (arith, r.exact); routers = omega (arith, s.exact); ends = omega (arith, e.exact); reverses = omega (arith, b.exact); spans = omega (arith, t.exact) };
        by_key = rw r.items refl;
        most = rw r.items (omega arith);
        few = rw r.items (omega (arith, router_count-no_links));
        all = rw (s.items, r.items) router_list-nil;
        ends = record { within = rw e.items (All-nil _); each = rw (e.items, r.items) refl };
      };
      reverses = record { many = rw (b.items, r.items) refl; each = rw r.items (λ at d h. absurd (omega arith)) };
      spans = record { many = rw (t.items, s.items) refl; each = rw s.items (λ at d h. absurd (omega arith)) };
    }
