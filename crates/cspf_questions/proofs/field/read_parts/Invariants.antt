use Rattle.std.proofs.Common.{◌≡◌, ◌+◌, length, drop}
use Rattle.cspf_addr.specs.HopLists.{parts_of}
use Rattle.cspf_questions.specs.QuestionRows.{exclusions_from}
use Rattle.cspf_questions.proofs.ExclusionParts.{joined}
use Rattle.cspf_questions.proofs.field.read_parts.Given as goal

abbrev pub invariant-loop-part : goal.invariant-loop-part
invariant-loop-part l = record {
  same : length l.list.items ≡ length l.yielded;
  read : joined l.list.items (exclusions_from (length l.yielded + 1) (drop (length l.yielded) (parts_of l.text))) ≡ exclusions_from 1 (parts_of l.text);
}
