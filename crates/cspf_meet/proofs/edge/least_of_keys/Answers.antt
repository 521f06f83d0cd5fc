use Rattle.std.proofs.Common.{◌≤◌, ◌/◌, ℕ, slice_index_or, subst, arith}
use Rattle.std.specs.List.{All}
use Rattle.std.specs.declared.cmp.Reverse.{Reverse}
use Rattle.std.proofs.lemmas.List.{get_or_default, take_all}
use Rattle.cspf_meet.proofs.Falling.{one_more}
use Rattle.cspf_meet.proofs.edge.least_of_keys.Goals as goal

abbrev blank : Reverse ℕ
blank = record { 0 = 0 }

pub loop-key-preserved : goal.loop-key-preserved
loop-key-preserved c =
    let keys = c.args.keys.now in
    let k = c.loop-key.key-index in
    let low : (y : Reverse ℕ) → c.loop-key.least ≤ y.0 / 1024 → c.min-least.result ≤ y.0 / 1024 = λ y h. omega (arith, h, c.min-least.ensures) in
    record {
      least = one_more (λ (key : Reverse ℕ). c.loop-key.least ≤ key.0 / 1024) (λ (key : Reverse ℕ). c.min-least.result ≤ key.0 / 1024) keys k (slice_index_or c.args.keys.now c.loop-key.key-index blank)
          c.loop-key-test.true (get_or_default keys k blank (slice_index_or c.args.keys.now c.loop-key.key-index blank) c.loop-key-test.true) low c.loop-key.invariant.least (omega (arith, c.min-least.ensures, c.rank_in.ensures.value));
      small = omega (arith, c.loop-key.invariant.small, c.min-least.ensures);
    }

pub returns-clause-least : goal.returns-clause-least
returns-clause-least c =
    subst (All (λ (key : Reverse ℕ). c.loop-key.least ≤ key.0 / 1024)) (take_all c.loop-key.key-index c.args.keys.now c.loop-key-test.false) c.loop-key.invariant.least
