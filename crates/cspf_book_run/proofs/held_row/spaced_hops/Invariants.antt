use Rattle.std.proofs.Common.{◌≡◌, ◌∷◌, take}
use Rattle.std.specs.List.{flat_map}
use Rattle.cspf_addr.specs.HopText.{hop_text}
use Rattle.cspf_book_run.proofs.held_row.spaced_hops.Given as goal

-- the texts of the hops before this index are written, each after a space
abbrev pub invariant-loop-hop : goal.invariant-loop-hop
invariant-loop-hop l = l.text.items ≡ flat_map (λ hop. 32 ∷ hop_text hop) (take l.hop-index l.hops)
