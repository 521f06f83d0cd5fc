use Rattle.std.proofs.Common.{rules, ◌≡◌, ◌+◌, refl, ap}
use Rattle.std.proofs.lemmas.Result.{err_from_is_err_and}
use Rattle.csv.specs.Records.{fields_of}
use Rattle.cspf_rows.specs.declared.read_error.ReadError.TheVariants.{TooManyRows}
use Rattle.cspf_rows.proofs.JournalSteps.{ReadsOne, same_fault, read_change, read_batch, read_end, read_rest}
use Rattle.cspf_rows.proofs.journal.reader.JournalReader.take_row.Goals as goal

pub returns-then-not-branch-clause-some : goal.returns-then-not-branch-clause-some
returns-then-not-branch-clause-some g c = λ all given h.
    let same : c.deref.result.now ≡ c.args.batch.now.changes = search rules in
    read_rest g.R.Read.remaining all c.args.self.now c.next_row.new.self (fields_of c.next_row.new.self.fields) given c.args.batch.now.changes c.rest_of.result
    (rw same at c.rest_of.ensures.clean) (rw same at c.rest_of.ensures.torn) h c.requires.rows (rw c.if-not-branch.true at c.in_ok-next_row.ensures.row)

pub returns-in-Change-clause-none : goal.returns-in-Change-clause-none
returns-in-Change-clause-none g c =
    let takes = rw c.if-not-branch.false at c.in_ok-next_row.ensures.row in
    let rows = rw c.if-not-branch.false at c.in_ok-next_row.ensures.rows in
    let one : ReadsOne g.R.Read.remaining c.args.self.now c.next_row.new.self (fields_of c.next_row.new.self.fields) = record { takes = takes; rows = rows refl } in
    λ all given h.
    read_change g.R.Read.remaining all c.args.self.now c.next_row.new.self (fields_of c.next_row.new.self.fields) given (c.next_row.new.self.count + 1) c.args.batch.now c.take.new.batch one h
    c.in_ok-next_row.ensures.count (rw c.in-Change.is at c.in_ok-take.ensures)

pub returns-in-Batch-clause-some : goal.returns-in-Batch-clause-some
returns-in-Batch-clause-some g c =
    let takes = rw c.if-not-branch.false at c.in_ok-next_row.ensures.row in
    let rows = rw c.if-not-branch.false at c.in_ok-next_row.ensures.rows in
    λ all given h.
    read_batch g.R.Read.remaining all c.args.self.now _ (fields_of c.next_row.new.self.fields) given c.args.batch.now c.take.new.batch
    (record { takes = takes; rows = rows refl }) h (ap (λ n. n + 1) c.in_ok-next_row.ensures.count) (rw c.in-Batch.is at c.in_ok-take.ensures)

pub returns-in_ok-skip_rest-in-Behind-clause-some :
    goal.returns-in_ok-skip_rest-in-Behind-clause-some
returns-in_ok-skip_rest-in-Behind-clause-some g c =
    let takes = rw c.if-not-branch.false at c.in_ok-next_row.ensures.row in
    let rows = rw c.if-not-branch.false at c.in_ok-next_row.ensures.rows in
    λ all given h.
    c.in_ok-skip_rest-in-Behind.ensures.end all given c.args.batch.now.changes
    (read_end g.R.Read.remaining all c.args.self.now c.next_row.new.self (fields_of c.next_row.new.self.fields) given c.args.batch.now c.take.new.batch
    (record { takes = takes; rows = rows refl }) h c.in_ok-next_row.ensures.count (rw c.in-Behind.is at c.in_ok-take.ensures))

pub returns-in_err-skip_rest-in-Behind-clause-too_many :
    goal.returns-in_err-skip_rest-in-Behind-clause-too_many
returns-in_err-skip_rest-in-Behind-clause-too_many g c =
    let takes = rw c.if-not-branch.false at c.in_ok-next_row.ensures.row in
    let rows = rw c.if-not-branch.false at c.in_ok-next_row.ensures.rows in
    let ends = err_from_is_err_and c.from_residual-in_err-skip_rest-in-Behind.result c.from_residual-in_err-skip_rest-in-Behind.ensures.1 in
    λ refused all given h.
    c.skip_rest.ensures.too_many
    (same_fault c.from_residual-in_err-skip_rest-in-Behind.result c.skip_rest.result _ ends.0 TooManyRows refused ends.1 ends.2 c.in_err-skip_rest-in-Behind.was)
    all given c.args.batch.now.changes
    (read_end g.R.Read.remaining all c.args.self.now c.next_row.new.self (fields_of c.next_row.new.self.fields) given c.args.batch.now c.take.new.batch
    (record { takes = takes; rows = rows refl }) h c.in_ok-next_row.ensures.count (rw c.in-Behind.is at c.in_ok-take.ensures))
