use Rattle.std.proofs.Common.{◌≡◌, min, length, take, drop, ap, ◌∙◌}
use Rattle.cspf_exclusions.proofs.ChangesInParts.{in_parts}
use Rattle.cspf_exclusions.proofs.removal.change.Goals as goal

pub loop-rest-preserved : goal.loop-rest-preserved
loop-rest-preserved c =
    let rest = c.loop-rest.rest.now in
    let n = min (length rest) 4096 in
    let front : c.in_ok-changes.changes.items ≡ take n rest = c.in_ok-changes.ensures.items ∙ c.split_at.ensures.front ∙ ap (λ k. take k rest) c.min.ensures in
    let back : c.split_at.result.1.now ≡ drop n rest = c.split_at.ensures.back ∙ ap (λ k. drop k rest) c.min.ensures in
    in_parts _ _ _ rest c.in_ok-changes.changes.items c.split_at.result.1.now n front back c.in_ok-absorb.ensures c.loop-rest.invariant
