use Rattle.std.proofs.Common.{length, length-append, ap, arith}
use Rattle.cspf_client.proofs.laws.replies_are_fresh.Goals as goal

pub returns : goal.returns
returns c = λ place q s t line a.
    let up = a.reads.caught_up in
    let later = a.reads.later.begins in
    (up.fresh, omega (arith, up.known, ap length later.1, length-append a.reads.mid.batches later.0))
