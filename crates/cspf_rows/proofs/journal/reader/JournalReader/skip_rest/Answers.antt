use Rattle.std.proofs.Common.{true, refl}
use Rattle.std.proofs.lemmas.Result.{err_from_is_err_and}
use Rattle.csv.specs.Records.{fields_of}
use Rattle.cspf_rows.specs.declared.read_error.ReadError.TheVariants.{TooManyRows}
use Rattle.cspf_rows.proofs.JournalSteps.{ReadsOne, same_fault, read_behind, read_too_many, read_torn}
use Rattle.cspf_rows.proofs.journal.reader.JournalReader.skip_rest.Goals as goal

pub returns-in_err-next_row-clause-too_many : goal.returns-in_err-next_row-clause-too_many
returns-in_err-next_row-clause-too_many g c = λ refused all given changes h.
    let ends = err_from_is_err_and c.from_residual.result c.from_residual.ensures.1 in
    let many = c.next_row.ensures.too_many (same_fault c.from_residual.result c.next_row.result _ ends.0 TooManyRows refused ends.1 ends.2 c.in_err-next_row.was) in
    read_too_many g.R.Read.remaining all c.loop.self c.next_row.new.self (fields_of c.next_row.new.self.fields) given changes true
    (c.loop.invariant.read all given changes h) many.0 many.1

pub loop-preserved : goal.loop-preserved
loop-preserved g c =
    let takes = rw c.if-branch.true at c.in_ok-next_row.ensures.row in
    let rows = rw c.if-branch.true at c.in_ok-next_row.ensures.rows in
    let can = rw c.if-branch.true at c.in_ok-next_row.ensures.can in
    let one : ReadsOne g.R.Read.remaining c.loop.self c.next_row.new.self (fields_of c.next_row.new.self.fields) = record { takes = takes; rows = rows refl } in
    record {
      can = can refl;
      read = λ all given changes h.
          read_behind g.R.Read.remaining all c.loop.self c.next_row.new.self (fields_of c.next_row.new.self.fields) given changes one
          (c.loop.invariant.read all given changes h) c.in_ok-next_row.ensures.count;
    }

pub returns-clause-end : goal.returns-clause-end
returns-clause-end g c = λ all given changes h.
    read_torn g.R.Read.remaining all c.loop.self c.next_row.new.self (fields_of c.next_row.new.self.fields) given changes
    (c.loop.invariant.read all given changes h) c.loop.invariant.can.rows (rw c.if-branch.false at c.in_ok-next_row.ensures.row)
