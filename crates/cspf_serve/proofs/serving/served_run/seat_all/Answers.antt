use Rattle.std.proofs.Common.{◌≡◌, ◌+◌, ◌∷◌, ◌++◌, [], ℕ, List, All, length, sum_by, vec_len, length-append, rules, sym, ap, subst, ◌∙◌, arith}
use Rattle.std.specs.Vec.Iter.{into_iter_items}
use Rattle.std.proofs.lemmas.List.Elements.{All-push}
use Rattle.std.proofs.lemmas.List.Sums.{sum_by-append}
use Rattle.cspf_publish.specs.AskerStates.{AskerState}
use Rattle.cspf_serve.specs.ClientSeats.{SeatState, IsSeat, AreNumberedSeats}
use Rattle.cspf_work.proofs.Filling.{left_none, left_step, left_next}
use Rattle.cspf_serve.proofs.ServedSteps.{seats_more}
use Rattle.cspf_serve.proofs.serving.served_run.seat_all.Goals as goal

-- the number of trees of lower bounds that a seat's asker may keep
abbrev seat_trees : SeatState → ℕ
seat_trees s = s.asker.most_trees

-- one more seat keeps as many trees as its asker
trees_more : (seats : List SeatState) (seat : SeatState) (askers : List AskerState) → sum_by seat_trees seats ≡ sum_by (λ (a : AskerState). a.most_trees) askers
    → sum_by seat_trees (seats ++ seat ∷ []) ≡ sum_by (λ (a : AskerState). a.most_trees) (askers ++ seat.asker ∷ [])
trees_more seats seat askers was =
    let more = sum_by-append seat_trees seats (seat ∷ []) in
    let one = sum_by-append (λ (a : AskerState). a.most_trees) askers (seat.asker ∷ []) in omega arith

pub loop-asker-preserved : goal.loop-asker-preserved
loop-asker-preserved g c = record {
  left = left_step _ _ _ _ _ c.loop-asker.invariant.left c.in-Some.ensures.steps.0;
  seats = λ source each.
      subst (All (IsSeat source)) (sym c.in_ok-push.ensures.items)
      (All-push (IsSeat source) c.loop-asker.seats.items (record { asker = c.in-Some.asker; number = c.len-number.result + 1 }) (c.loop-asker.invariant.seats source each)
      (left_next (λ (a : AskerState). a.source ≡ source) c.loop-asker.yielded c.in-Some.asker (into_iter_items c.loop-asker.asker-iterator) (into_iter_items c.next.new.self)
      c.args.askers.items c.loop-asker.invariant.left c.in-Some.ensures.steps.0 each));
  numbers =
      subst (AreNumberedSeats 1) (sym c.in_ok-push.ensures.items)
      (seats_more 1 c.loop-asker.seats.items (record { asker = c.in-Some.asker; number = c.len-number.result + 1 }) c.loop-asker.invariant.numbers (let is = c.len-number.ensures in omega arith));
  many = (
      let more = ap length c.in_ok-push.ensures.items in
      let was = c.loop-asker.invariant.many in
      let pushed = length-append c.loop-asker.seats.items ((record { asker = c.in-Some.asker; number = c.len-number.result + 1 }) ∷ []) in
      let one = length-append c.loop-asker.yielded (c.in-Some.asker ∷ []) in omega arith
      );
  trees =
      ap (sum_by seat_trees) c.in_ok-push.ensures.items
      ∙ trees_more c.loop-asker.seats.items (record { asker = c.in-Some.asker; number = c.len-number.result + 1 }) c.loop-asker.yielded c.loop-asker.invariant.trees;
}

pub returns-clause-seats : goal.returns-clause-seats
returns-clause-seats g c = λ source each.
    let all = left_none c.loop-asker.yielded (into_iter_items c.loop-asker.asker-iterator) c.args.askers.items c.loop-asker.invariant.left (let zero = c.in-None.ensures.steps.0 in search rules) in
    let long = ap length all in
    let many = c.loop-asker.invariant.many in
    let askers : vec_len c.args.askers ≡ length c.args.askers.items = search rules in
    record { each = c.loop-asker.invariant.seats source each; many = omega arith }

pub returns-clause-trees : goal.returns-clause-trees
returns-clause-trees g c =
    let all = left_none c.loop-asker.yielded (into_iter_items c.loop-asker.asker-iterator) c.args.askers.items c.loop-asker.invariant.left (let zero = c.in-None.ensures.steps.0 in search rules) in
    c.loop-asker.invariant.trees ∙ ap (sum_by (λ (a : AskerState). a.most_trees)) all
