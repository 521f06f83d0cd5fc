use Rattle.std.proofs.Common.{is_some, sym, ap, ◌∙◌}
use Rattle.std.specs.BTreeMap.{get}
use Rattle.cspf_model.specs.Database.{Key, key_cmp}
use Rattle.cspf_book.proofs.KeptSums.{entered_sums, entered_keys}
use Rattle.cspf_book.proofs.counts.Counts.enter_one.Goals as goal

pub returns-in_ok-insert-clause-sums : goal.returns-in_ok-insert-clause-sums
returns-in_ok-insert-clause-sums c =
    entered_sums c.args.self.now (record { sums = c.insert.new.self }) (c.number.result, c.number-then-not-has.result)
    (ap (λ (k : Key). is_some (get key_cmp c.args.self.now.sums k)) (λ i. (c.number.ensures i, c.number-then-not-has.ensures i)) ∙ sym c.has.ensures ∙ c.if-not-has.true) c.in_ok-insert.ensures.updates.0

pub returns-in_ok-insert-clause-kept : goal.returns-in_ok-insert-clause-kept
returns-in_ok-insert-clause-kept c =
    entered_keys c.args.self.now (record { sums = c.insert.new.self }) (c.number.result, c.number-then-not-has.result) c.in_ok-insert.ensures.updates.0
