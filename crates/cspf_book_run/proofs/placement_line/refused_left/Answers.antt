use Rattle.std.proofs.Common.{append_assoc}
use Rattle.cspf_book_run.proofs.placement_line.refused_left.Goals as goal

pub returns : goal.returns
returns c = rw (c.into_bytes.ensures.value, c.in_ok-format.ensures.ok) (simp append_assoc)
