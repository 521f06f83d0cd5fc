use Rattle.std.proofs.Common.{length}
use Rattle.cspf_rows.proofs.ObjectDigits.{front_decoded, pairs_decoded, no_error}
use Rattle.cspf_rows.proofs.object.decode_first_bytes.Goals as goal

pub prove-unreachable-requires : goal.prove-unreachable-requires
prove-unreachable-requires c =
    let (bytes, found, size) = pairs_decoded c.args.digits.now c.requires.pairs in
    let written = rw (c.split_at.ensures.front, front_decoded (length c.args.front.now) c.args.digits.now bytes found c.requires.within) at c.decode_to_slice-decoded.ensures.value in
    no_error c.decode_to_slice-decoded.result tt written.0 c.if-prove.ensures.value

pub returns : goal.returns
returns c = λ bytes found.
    let written = rw (c.split_at.ensures.front, front_decoded (length c.args.front.now) c.args.digits.now bytes found c.requires.within) at c.decode_to_slice-decoded.ensures.value in
    written.1
