use Rattle.std.proofs.Common.{◌≡◌, ◌+◌, length, drop}
use Rattle.cspf_addr.specs.HopLists.{hops_from, parts_of}
use Rattle.cspf_addr.proofs.HopListLemmas.{joined}
use Rattle.cspf_addr.proofs.hop_reader.read_parts.Given as goal

abbrev pub invariant-loop-part : goal.invariant-loop-part
invariant-loop-part l = record {
  same : length l.hops ≡ length l.yielded;
  read : joined l.hops (hops_from (length l.yielded + 1) (drop (length l.yielded) (parts_of l.text))) ≡ hops_from 1 (parts_of l.text);
}
