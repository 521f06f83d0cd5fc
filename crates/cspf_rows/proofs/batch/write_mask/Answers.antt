use Rattle.std.proofs.Common.{rules}
use Rattle.cspf_rows.proofs.MaskDigits.{mask_digits}
use Rattle.cspf_rows.proofs.batch.write_mask.Goals as goal

pub returns : goal.returns
returns c =
    search (
      rules,
      mask_digits c.args.mask c.args.text.now.items c.extend_from_slice.new.self.items c.extend_from_slice-2.new.self.items c.encode_to_slice.new.output,
      c.in-Ok.ensures.written,
      c.in_ok-extend_from_slice.ensures.items,
    )
