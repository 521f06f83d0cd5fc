use Rattle.std.proofs.Common.{◌+◌, true, refl, arith}
use Rattle.std.proofs.Math.Logic.{∥∥₁_map}
use Rattle.csv.specs.Records.{fields_of}
use Rattle.cspf_rows.specs.Rows.{row_of}
use Rattle.cspf_c.proofs.RowCounts.{few, counted_more}
use Rattle.cspf_c.proofs.Steps.{one_more, one_past_all, counted_still}
use Rattle.cspf_c.specs.declared.session.TakenRows.{TakenRows}
use Rattle.cspf_c.proofs.session.TakenRowsAnswering.answer.Goals as goal

pub returns-then-self-ge-MOST_ROWS-clause-answered : goal.returns-then-self-ge-MOST_ROWS-clause-answered
returns-then-self-ge-MOST_ROWS-clause-answered g c =
    let new : TakenRows = record { solver = c.args.self.now.solver; answered = c.args.self.now.answered; too_many = true } in
    rw c.new.ensures.items (one_past_all c.args._place c.args.self.now new (fields_of c.args.fields.now) refl (omega (arith, c.if-self-ge-MOST_ROWS.true)))

pub returns-then-self-ge-MOST_ROWS-clause-state : goal.returns-then-self-ge-MOST_ROWS-clause-state
returns-then-self-ge-MOST_ROWS-clause-state g c = ∥∥₁_map c.requires.state (counted_still c.args.self.now)

pub answer-requires : goal.answer-requires
answer-requires g c = few c.args.self.now c.requires.state

pub returns-clause-answered : goal.returns-clause-answered
returns-clause-answered g c =
    let new : TakenRows = record { solver = c.answer.new.self; answered = c.args.self.now.answered + 1; too_many = c.args.self.now.too_many } in
    let law = c.runs_go_on_row_by_row.ensures in
    one_more law.more law.counts c.args._place c.args.self.now new (fields_of c.args.fields.now) c.in_ok-line.line.items refl refl (omega (arith, c.if-self-ge-MOST_ROWS.false)) (rw c.read.ensures at c.in_ok-line.ensures.answered)

pub returns-clause-state : goal.returns-clause-state
returns-clause-state g c =
    let new : TakenRows = record { solver = c.answer.new.self; answered = c.args.self.now.answered + 1; too_many = c.args.self.now.too_many } in
    ∥∥₁_map c.requires.state (counted_more c.runs_go_on_row_by_row.ensures.counts c.args.self.now new (row_of (fields_of c.args.fields.now)) c.in_ok-line.line.items refl (omega (arith, c.if-self-ge-MOST_ROWS.false)) (rw c.read.ensures at c.in_ok-line.ensures.answered))
