-- Defines the text of each line of a run over a journal, requests or replies, except reply lines.
use Rattle.std.specs.Prelude.{ℕ, List}
use Rattle.cspf_judge.specs.declared.line.JudgeLine.{JudgeLine}
use Rattle.cspf_judge.specs.declared.line.JudgeLine.TheVariants as line
use Rattle.cspf_stream.specs.LineTexts.{stream_line_text}
use Rattle.cspf_judge.specs.AuditRun.{fault_line, audited_line, same_id_line}
use Rattle.cspf_judge.specs.Inputs.{torn_line, refused_request_line, refused_question_row_line}

-- the text of a line
abbrev pub judge_line_text : JudgeLine → List ℕ
judge_line_text (line.Stream said) = stream_line_text said
judge_line_text (line.Torn count) = torn_line count
judge_line_text (line.RefusedRequest row error) = refused_request_line row error
judge_line_text (line.RefusedQuestion row error) = refused_question_row_line row error
judge_line_text (line.SameId row) = same_id_line row
judge_line_text (line.Fault fault) = fault_line fault
judge_line_text (line.Audited good faults) = audited_line good faults
