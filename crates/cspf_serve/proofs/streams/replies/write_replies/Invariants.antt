use Rattle.std.proofs.Common.{take}
use Rattle.cspf_serve.specs.AnswerLines.{AreAnswerLines}
use Rattle.cspf_judge.specs.EarlyEnds.{Writes}
use Rattle.cspf_serve.proofs.streams.replies.write_replies.Given as goal

-- the lines of the answers before the current index are written
abbrev pub invariant-loop-answer : goal.invariant-loop-answer
invariant-loop-answer g l =
    Writes (g.W.Write.contents l.fn.writer) (g.W.Write.contents l.writer) (AreAnswerLines (take l.answer-index l.answers))
