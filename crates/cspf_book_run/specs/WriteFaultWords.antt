-- What a line says if a write fails while a row is accepted.
use Rattle.std.specs.Prelude.{ℕ, List, ◌++◌, codes}
use Rattle.std.specs.Fmt.{decimal}
use Rattle.cspf_stream.specs.declared.batch_refusal.BatchRefusal.{BatchRefusal}
use Rattle.cspf_stream.specs.declared.batch_refusal.BatchRefusal.TheVariants as refusal
use Rattle.cspf_book_run.specs.declared.write_fault.WriteFault.{WriteFault}
use Rattle.cspf_book_run.specs.declared.write_fault.WriteFault.TheVariants as fault

-- the words that say which write failed, and how many bytes of its text were written
abbrev pub write_fault_words : WriteFault → List ℕ
write_fault_words (fault.Keep written) = codes "keep " ++ decimal written
write_fault_words (fault.Journal written) = codes "journal " ++ decimal written

-- the refusal of a base batch, if its row is refused because of this failure
abbrev pub batch_refusal_of : WriteFault → BatchRefusal
batch_refusal_of (fault.Keep written) = refusal.Keep written
batch_refusal_of (fault.Journal written) = refusal.Journal written
