use Rattle.cspf_client.proofs.Forward.{forward}
use Rattle.cspf_client.proofs.laws.clients_go_forward.Goals as goal

pub returns : goal.returns
returns c = forward
