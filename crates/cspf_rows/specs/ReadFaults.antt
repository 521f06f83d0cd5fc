-- The error of a stream in which a record can't be read.
use Rattle.cspf_rows.specs.declared.record_error.RecordError.{RecordError}
use Rattle.cspf_rows.specs.declared.record_error.RecordError.TheVariants as record_error

-- the error of a stream if one of its records can't be read: `memory` if memory was refused, and
-- `device` if a read failed
abbrev pub stream_fault_of : {E : Type 0} → E → E → RecordError → E
stream_fault_of memory device record_error.Memory = memory
stream_fault_of memory device record_error.Device = device
