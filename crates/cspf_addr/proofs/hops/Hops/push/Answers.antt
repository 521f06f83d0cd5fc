use Rattle.std.proofs.Common.{ap, length, arith}
use Rattle.cspf_addr.specs.KeptHops.{length-kept}
use Rattle.cspf_addr.proofs.HopListLemmas.{kept_after_push}
use Rattle.cspf_addr.proofs.hops.Hops.push.Goals as goal

pub invariant_of-self : goal.invariant_of-self
invariant_of-self c =
    kept_after_push c.self.inside.places c.self.inside.count c.args.hop c.self.invariant
    (omega (arith, length-kept c.self.inside.places c.self.inside.count c.self.invariant, ap length c.self.view_is, c.requires))
