-- Private: the text of each line of a run. Replies, and the lines that refuse a journal or requests
-- (`JudgeLine`), are defined elsewhere.
use Rattle.std.specs.Prelude.{ℕ, List}
use Rattle.cspf_serve.specs.declared.line.Line.{Line}
use Rattle.cspf_serve.specs.declared.line.Line.TheVariants as line
use Rattle.cspf_stream.specs.LineTexts.{stream_line_text}
use Rattle.cspf_serve.specs.LiveWords.{applied_line, unpublished_line}

-- the text of a line
abbrev pub line_text : Line → List ℕ
line_text (line.Stream said) = stream_line_text said
line_text (line.Applied count) = applied_line count
line_text (line.Unpublished number error) = unpublished_line number error
