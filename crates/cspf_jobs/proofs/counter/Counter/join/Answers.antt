use Rattle.std.proofs.Common.{rules, arith, ◌≡◌, ◌+◌, ◌*◌, ◌++◌, ◌∙◌, ℕ, [], ◌∷◌, length, ap, sym, subst, append_assoc, flat_map, length-append}
use Rattle.std.specs.List.Sorted.{IsStrictlyIncreasing}
use Rattle.std.specs.Vec.Iter.{into_iter_items}
use Rattle.std.proofs.lemmas.List.Elements.{All-push}
use Rattle.atomic_table.specs.Table.{Me}
use Rattle.cspf_jobs.specs.declared.seat_draws.SeatDraws.{SeatDraws}
use Rattle.cspf_jobs.specs.DrawnNumbers.{DrawnNumbers, CounterId}
use Rattle.cspf_jobs.proofs.DrawSteps.{joins, shares-more}
use Rattle.cspf_jobs.proofs.Totals.{next_of, drawn-push}
use Rattle.cspf_jobs.proofs.counter.Counter.join.Goals as goal

pub join_seat-requires : goal.join_seat-requires
join_seat-requires c =
    let counter : c.in-Some.drawer.counter ≡ c.args.self.now =
    next_of (λ (d : DrawnNumbers). d.counter ≡ c.args.self.now) c.loop-drawer.yielded c.in-Some.drawer (into_iter_items c.loop-drawer.drawer-iterator) (into_iter_items c.next.new.self) c.args.drawers.items
    c.loop-drawer.invariant.left c.in-Some.ensures.steps.0 c.requires.counter.1 in
    let table = ap (λ (i : CounterId). i.table) (sym c.self.view_is) in (
      c.loop-drawer.invariant.home ∙ ap (λ (i : CounterId). i.table) c.requires.counter.0 ∙ table,
      c.into_seat.ensures.seat.0 ∙ ap (λ (i : CounterId). i.table) counter ∙ table,
      search rules,
      (let one = c.self.invariant.2 in omega arith),
      joins _ _ _ _ _,
    )

pub loop-drawer-preserved : goal.loop-drawer-preserved
loop-drawer-preserved c =
    let counter : c.in-Some.drawer.counter ≡ c.args.self.now =
    next_of (λ (d : DrawnNumbers). d.counter ≡ c.args.self.now) c.loop-drawer.yielded c.in-Some.drawer (into_iter_items c.loop-drawer.drawer-iterator) (into_iter_items c.next.new.self) c.args.drawers.items
    c.loop-drawer.invariant.left c.in-Some.ensures.steps.0 c.requires.counter.1 in
    let requests : c.in-Some.drawer.counter.requests ≡ c.args.first.counter.requests = ap (λ (i : CounterId). i.requests) (counter ∙ sym c.requires.counter.0) in
    let drawn = ap (λ (m : Me ℕ SeatDraws). m.0.drawn) c.join_seat.ensures.2 in
    record {
      left = append_assoc c.loop-drawer.yielded (c.in-Some.drawer ∷ []) (into_iter_items c.next.new.self) ∙ ap (λ l. c.loop-drawer.yielded ++ l) (sym c.in-Some.ensures.steps.0) ∙ c.loop-drawer.invariant.left;
      home = c.join_seat.ensures.0 ∙ c.loop-drawer.invariant.home;
      slots = ap (λ (m : Me ℕ SeatDraws). m.1) c.join_seat.ensures.2 ∙ c.loop-drawer.invariant.slots;
      drawn =
          drawn ∙ ap (λ l. l ++ c.into_seat.result.me.0.drawn) c.loop-drawer.invariant.drawn
          ∙ ap (λ l. flat_map (λ (d : DrawnNumbers). d.drawn) c.loop-drawer.yielded ++ l) c.into_seat.ensures.drawn.0 ∙ sym (drawn-push c.loop-drawer.yielded c.in-Some.drawer);
      rising =
          All-push (λ (d : DrawnNumbers). IsStrictlyIncreasing d.drawn) c.loop-drawer.yielded c.in-Some.drawer c.loop-drawer.invariant.rising
          (subst IsStrictlyIncreasing c.into_seat.ensures.drawn.0 c.into_seat.ensures.drawn.1.rising);
      draws =
          (let left = ap (λ (m : Me ℕ SeatDraws). m.0.left) c.join_seat.ensures.2 in
          let was = c.loop-drawer.invariant.draws in
          let own = c.into_seat.ensures.drawn.1.all in
          let list = ap length drawn ∙ length-append c.loop-drawer.seat.me.0.drawn c.into_seat.result.me.0.drawn in
          let more = shares-more (c.args.first.counter.requests + 1) (c.args.first.shares + length c.loop-drawer.yielded) in
          let count = ap (λ n. (c.args.first.counter.requests + 1) * (c.args.first.shares + n)) (length-append c.loop-drawer.yielded (c.in-Some.drawer ∷ [])) in
          let product : (c.args.first.counter.requests + 1) * (c.args.first.shares + (length c.loop-drawer.yielded + 1)) ≡ (c.args.first.counter.requests + 1) * (c.args.first.shares + length c.loop-drawer.yielded + 1) = ap (λ n. (c.args.first.counter.requests + 1) * n) (omega arith) in
          omega arith);
    }
