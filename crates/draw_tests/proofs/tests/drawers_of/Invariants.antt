use Rattle.std.proofs.Common.{◌≡◌, ◌+◌, vec_len}
use Rattle.draw_tests.proofs.tests.drawers_of.Given as goal

abbrev pub invariant-loop : goal.invariant-loop
invariant-loop l = record {
  counter : l.first.counter ≡ l.counter-2;
  shares : l.first.shares + l.counter ≡ l.initial.first.shares;
  count : vec_len l.all ≡ l.counter;
}
