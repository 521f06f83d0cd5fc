-- The text of each `StreamLine`.
use Rattle.std.specs.Prelude.{ℕ, List}
use Rattle.cspf_stream.specs.declared.line.StreamLine.{StreamLine}
use Rattle.cspf_stream.specs.declared.line.StreamLine.TheVariants as line
use Rattle.cspf_stream.specs.Lines.{version_line, refused_batch_line, unended_line, too_many_line}

-- the text of a line, with its line feed
abbrev pub stream_line_text : StreamLine → List ℕ
stream_line_text (line.Version version) = version_line version
stream_line_text (line.RefusedBatch number refusal) = refused_batch_line number refusal
stream_line_text (line.Unended count) = unended_line count
stream_line_text line.TooManyRows = too_many_line
