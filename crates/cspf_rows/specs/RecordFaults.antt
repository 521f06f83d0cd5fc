-- The reason why a record can't be read, for each error of `csv`.
use Rattle.csv.specs.declared.error.ErrorKind.{ErrorKind}
use Rattle.csv.specs.declared.error.ErrorKind.TheVariants as kind
use Rattle.cspf_rows.specs.declared.record_error.RecordError.{RecordError}
use Rattle.cspf_rows.specs.declared.record_error.RecordError.TheVariants as error

-- The reason is `Memory` if memory was refused, and `Device` otherwise. The reader has no header
-- and accepts any number of fields in a record. So any bytes are valid, and every other error is a
-- failed read.
abbrev pub fault_of : ErrorKind → RecordError
fault_of kind.OutOfMemory = error.Memory
fault_of other = error.Device
