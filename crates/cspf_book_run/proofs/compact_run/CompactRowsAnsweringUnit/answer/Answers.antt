use Rattle.std.proofs.Common.{sym, refl, arith}
use Rattle.std.proofs.lemmas.Bool.{ltb-true, ltb-false}
use Rattle.cspf_book_run.proofs.CompactRuns.{unstopped}
use Rattle.cspf_book_run.proofs.compact_run.CompactRowsAnsweringUnit.answer.Goals as goal

pub returns-then-has_refused-clause-failed : goal.returns-then-has_refused-clause-failed
returns-then-has_refused-clause-failed c = (
  refl,
  record {
    lead = λ s keeps.
        let led = c.in_ok-line.ensures.answered.lead s keeps in
        (led.0, led.1, unstopped _ s _ _ led.0 _ _ led.2);
    some = ltb-true 0 _ (sym c.if-has_refused.ensures);
  },
)

pub returns-clause-answered : goal.returns-clause-answered
returns-clause-answered c = record {
  quiet = c.new.ensures.items;
  lead = λ s keeps.
      let led = c.in_ok-line.ensures.answered.lead s keeps in
      (led.0, led.1, (c.in_ok-line.line.items, unstopped _ s _ _ led.0 _ _ led.2));
  none = omega (arith, ltb-false 0 _ (sym c.if-has_refused.ensures));
}
