-- The lines that answer the rows of a stream, except replies and the lines of refused rows. Each
-- line ends with one line feed.
use Rattle.std.specs.Prelude.{ℕ, nat_lt, if◌then◌else◌, Bool, true, false, List, [], ◌++◌, length, codes}
use Rattle.std.specs.Fmt.{decimal}
use Rattle.cspf_model.specs.declared.batch.Change.{Change}
use Rattle.cspf_stream.specs.BatchWords.{batch_words}
use Rattle.cspf_stream.specs.declared.batch_refusal.BatchRefusal.{BatchRefusal}

-- the line of an accepted batch: the version that the batch makes
abbrev pub version_line : ℕ → List ℕ
version_line version = codes "version " ++ decimal version ++ codes "\n"

-- the line of a refused batch: the batch's number, and why the batch is refused
abbrev pub refused_batch_line : ℕ → BatchRefusal → List ℕ
refused_batch_line number refusal = codes "batch " ++ decimal number ++ codes " refused: " ++ batch_words refusal ++ codes "\n"

-- the line that says how many changes are still open after the last row
abbrev pub unended_line : ℕ → List ℕ
unended_line count = codes "unended " ++ decimal count ++ codes "\n"

-- The last line of a stream that has more rows than the limit allows. It follows the answers to the
-- rows up to the limit. The rows past the limit aren't answered.
abbrev pub too_many_line : List ℕ
too_many_line = codes "too many rows\n"

-- the last line, which says how many changes are still open after the last row; it is empty if no
-- changes are open
abbrev pub end_line : List Change → List ℕ
end_line changes = if nat_lt 0 (length changes) then unended_line (length changes) else []

-- The last line of a run. If there are too many rows, the line reports only this. Otherwise it says
-- how many changes are still open, and is empty if no changes are open.
abbrev pub last_line : Bool → List Change → List ℕ
last_line true changes = too_many_line
last_line false changes = end_line changes
