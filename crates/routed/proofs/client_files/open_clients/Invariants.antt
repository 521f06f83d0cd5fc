use Rattle.std.proofs.Common.{◌≡◌, vec_len}
use Rattle.routed.proofs.client_files.open_clients.Given as goal

-- the number of clients with open files is the number of arguments that were read
abbrev pub invariant-loop-word : goal.invariant-loop-word
invariant-loop-word g l = vec_len l.clients ≡ l.word-index
