use Rattle.cspf_addr.proofs.Readers.{ok_or_read}
use Rattle.cspf_addr.proofs.MaskLemmas.{mask_ok, mask_err, mask_only}
use Rattle.cspf_addr.proofs.mask.Mask.parse.Goals as goal

pub returns : goal.returns
returns c =
    let read = ok_or_read _ c.ok_or.ensures.value c.read_mask.ensures in
    record { value = read; ok = mask_ok _ _ read; err = mask_err _ _ read; only = mask_only _ _ read }
