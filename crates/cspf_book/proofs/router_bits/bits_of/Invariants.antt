use Rattle.std.proofs.Common.{◌≡◌, drop}
use Rattle.cspf_book.specs.RouterBits.{bits_with, bits_of}
use Rattle.cspf_book.proofs.router_bits.bits_of.Given as goal

abbrev pub invariant-loop-link : goal.invariant-loop-link
invariant-loop-link l = bits_with l.bits (drop l.link-index l.placement.route) ≡ bits_of l.placement
