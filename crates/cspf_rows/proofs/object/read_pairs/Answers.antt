use Rattle.std.proofs.Common.{◌≤◌, length, replicate, refl, sym, ◌∙◌, arith}
use Rattle.hex.proofs.HexLemmas.{decode_of-ok}
use Rattle.cspf_rows.proofs.ObjectDigits.{front_taken, front_placed}
use Rattle.cspf_rows.proofs.object.read_pairs.Goals as goal

pub returns : goal.returns
returns c = λ bytes found.
    let size = (decode_of-ok c.args.digits.now bytes found).2 in
    let count = c.min-count.result in
    let within : count ≤ length bytes = omega (arith, size, c.min-count.ensures) in
    c.read_ero_front.ensures bytes (omega (arith, size))
    (front_taken (length bytes) count bytes refl (omega (arith, size, c.min-count.ensures))
    ∙ sym (front_placed count bytes c.decode_first_bytes.new.front (replicate 64 0) _ (omega (arith, c.min-count.ensures)) within (c.decode_first_bytes.ensures bytes found)))
