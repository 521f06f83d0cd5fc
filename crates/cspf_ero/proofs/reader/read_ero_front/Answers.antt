use Rattle.std.proofs.Common.{◌∙◌, length}
use Rattle.cspf_ero.proofs.FirstBytes.{first_bytes_decide}
use Rattle.cspf_ero.proofs.reader.read_ero_front.Goals as goal

pub returns : goal.returns
returns c = λ bytes size front.
    c.read_sized.ensures ∙ rw (← front, ← size) (first_bytes_decide (length bytes) bytes)
