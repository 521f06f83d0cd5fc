-- Defines the lines that a live run writes after its replies.
use Rattle.std.specs.Prelude.{ℕ, List, ◌++◌, codes}
use Rattle.std.specs.Fmt.{decimal}
use Rattle.cspf_publish.specs.declared.errors.ApplyError.{ApplyError}
use Rattle.cspf_publish.specs.declared.errors.ApplyError.TheVariants as error
use Rattle.cspf_stream.specs.declared.batch_refusal.BatchRefusal.{BatchRefusal}
use Rattle.cspf_stream.specs.declared.batch_refusal.BatchRefusal.TheVariants as refusal
use Rattle.cspf_stream.specs.Lines.{refused_batch_line}

-- the refusal that a line gives for each error of the publisher
abbrev pub refusal_of : ApplyError → BatchRefusal
refusal_of error.Stopped = refusal.Stopped
refusal_of error.Exhausted = refusal.Exhausted
refusal_of (error.WrongNumber expected) = refusal.WrongNumber expected
refusal_of (error.Refused why) = refusal.Unfit why
refusal_of error.Memory = refusal.Memory
refusal_of (error.Journal written) = refusal.Journal written

-- the line that counts the published batches
abbrev pub applied_line : ℕ → List ℕ
applied_line count = codes "applied " ++ decimal count ++ codes "\n"

-- the line that says why the batch with this number isn't published
abbrev pub unpublished_line : ℕ → ApplyError → List ℕ
unpublished_line number why = refused_batch_line number (refusal_of why)
