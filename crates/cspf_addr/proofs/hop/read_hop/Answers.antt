use Rattle.cspf_addr.proofs.HopLemmas.{hop_of-empty}
use Rattle.cspf_addr.proofs.hop.read_hop.Goals as goal

pub returns-in_err-letter : goal.returns-in_err-letter
returns-in_err-letter c =
    rw c.from_residual.ensures (hop_of-empty c.args.text.now c.in_err-letter.ensures.cases)
