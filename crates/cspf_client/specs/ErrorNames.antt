-- The error of a client whose stream stops, and the fault of a row whose question has no answer.
use Rattle.cspf_disjoint.specs.declared.error.PairError.{PairError}
use Rattle.cspf_disjoint.specs.declared.error.PairError.TheVariants as pair_error
use Rattle.cspf_publish.specs.declared.errors.AskError.TheVariants as ask_error
use Rattle.cspf_stream.specs.declared.error.StreamError.TheVariants as stream_error
use Rattle.cspf_stream.specs.declared.error.StreamStop.{StreamStop}
use Rattle.cspf_stream.specs.declared.error.StreamStop.TheVariants as stop
use Rattle.cspf_client.specs.declared.error.ClientError.{ClientError}
use Rattle.cspf_client.specs.declared.error.ClientError.TheVariants as error
use Rattle.cspf_client.specs.declared.error.RowFault.{RowFault}
use Rattle.cspf_client.specs.declared.error.RowFault.TheVariants as row_fault

-- The error of a client whose stream stops in this way. `NoEntry` means that the client couldn't
-- enter the published replica, which is a copy of the table.
abbrev pub client_error_of : StreamStop RowFault → ClientError
client_error_of (stop.Stream why) = error.Stream why
client_error_of (stop.Answer (row_fault.Ask ask_error.Memory)) = error.Stream stream_error.Memory
client_error_of (stop.Answer (row_fault.Ask ask_error.NoEntry)) = error.NoEntry
client_error_of (stop.Answer row_fault.Undecided) = error.Undecided

-- the fault of a row whose question has no answer for this reason
abbrev pub fault_of_answer : PairError → RowFault
fault_of_answer pair_error.Memory = row_fault.Ask ask_error.Memory
fault_of_answer pair_error.Undecided = row_fault.Undecided
