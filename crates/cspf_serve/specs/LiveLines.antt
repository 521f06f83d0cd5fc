-- Private: the lines of a live run, computed from its answers and its applied batches.
use Rattle.std.specs.Prelude.{◌≡◌, ℕ, List, [], ◌++◌, Option, Some, None, slice_get}
use Rattle.cspf_model.specs.Numbered.{NumberedChanges}
use Rattle.cspf_publish.specs.declared.answer.Answer.{Answer}
use Rattle.cspf_publish.specs.declared.errors.ApplyError.{ApplyError}
use Rattle.cspf_serve.specs.AnswerLines.{AreAnswerLines}
use Rattle.cspf_serve.specs.LiveWords.{applied_line, unpublished_line}
use Rattle.cspf_serve.specs.declared.line.Line.{Line}
use Rattle.cspf_serve.specs.LineTexts.{line_text}

-- If a batch was refused, `line` is the line that refuses it, and `status` is 2. Otherwise `line`
-- is empty, and `status` is 0.
abbrev pub IsFaultShown : Option NumberedChanges → Option ApplyError → List ℕ → ℕ → Type 0
IsFaultShown next None line status = (line ≡ []) × (status ≡ 0)
IsFaultShown None (Some why) line status = (line ≡ []) × (status ≡ 0)
IsFaultShown (Some next) (Some why) line status = (line ≡ unpublished_line next.number why) × (status ≡ 2)

-- The lines of a live run: first the replies, and then the line that counts the applied batches. If
-- the next batch wasn't applied, a last line says why.
abbrev pub AreLiveLines : List Answer → List NumberedChanges → ℕ → Option ApplyError → ℕ → List ℕ → Type 0
AreLiveLines answers batches applied fault status lines =
    (replies : List ℕ) × (last : List ℕ) × AreAnswerLines answers replies
    × IsFaultShown (slice_get batches applied) fault last status × (lines ≡ replies ++ applied_line applied ++ last)

-- the text of a live run's last line, or the empty text if there is no such line
abbrev pub last_text : Option Line → List ℕ
last_text None = []
last_text (Some line) = line_text line

abbrev pub last_status : Option Line → ℕ
last_status None = 0
last_status (Some line) = 2
