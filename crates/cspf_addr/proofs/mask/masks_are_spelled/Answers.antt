use Rattle.cspf_addr.proofs.MaskLemmas.{masks_read, spells_one_mask, mask_of-mask_text}
use Rattle.cspf_addr.proofs.mask.masks_are_spelled.Goals as goal

pub returns : goal.returns
returns c = record { read = masks_read; one = spells_one_mask; back = mask_of-mask_text }
