use Rattle.std.proofs.Common.{refl, sym}
use Rattle.cspf_rows.proofs.ObjectDigits.{hex_hops_of-pairs, not_pairs}
use Rattle.cspf_rows.proofs.object.read_object.Goals as goal

pub returns-then-not-are_pairs : goal.returns-then-not-are_pairs
returns-then-not-are_pairs c = sym (not_pairs c.args.digits.now (λ pairs. let told = c.if-not-are_pairs.ensures.1 pairs in absurd (cc)))

pub returns-in-Ok : goal.returns-in-Ok
returns-in-Ok c = sym (hex_hops_of-pairs c.args.digits.now _ (c.if-not-are_pairs.ensures.0 refl) c.in-Ok.ensures)

pub returns-in-Err : goal.returns-in-Err
returns-in-Err c = sym (hex_hops_of-pairs c.args.digits.now _ (c.if-not-are_pairs.ensures.0 refl) c.in-Err.ensures)
