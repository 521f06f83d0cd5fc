use Rattle.std.proofs.Common.{◌≡◌, vec_len}
use Rattle.cspf_client.proofs.permits.Permits.new.Given as goal

abbrev pub invariant-loop : goal.invariant-loop
invariant-loop g l = vec_len l.turns ≡ l.counter
