use Rattle.std.proofs.Common.{true, false, refl, ap, get_or-set_same, arith}
use Rattle.std.specs.Int.Bits.{bit_or}
use Rattle.cspf_book.specs.RouterBits.{four_bits}
use Rattle.cspf_book.proofs.RouterBits.{among_added, common_last}
use Rattle.cspf_book.proofs.TouchedKeys.{touched_kept}
use Rattle.cspf_book.proofs.touched.Touched.add.Goals as goal

pub returns-clause-kept : goal.returns-clause-kept
returns-clause-kept c =
    touched_kept c.args.self.now _ (c.args.router, c.args.local) _ c.slot_of-slot.result
    (omega (arith, c.slot_of-slot.ensures.small, c.args.self.now.many)) refl (ap (bit_or c.args.self.now.bits) c.four_bits.ensures) refl refl

pub returns-clause-touched : goal.returns-clause-touched
returns-clause-touched c =
    let old = c.args.self.now in record {
      slot = rw (← c.slot_of-slot.ensures.slot) (get_or-set_same old.slots.items c.slot_of-slot.result true false (omega (arith, c.slot_of-slot.ensures.small, old.many)));
      bits = rw c.four_bits.ensures (among_added old.bits c.args.router);
      common = rw (c.four_bits-2.ensures, c.four_bits-3.ensures) (common_last old.common (bit_or (four_bits c.args.router) (four_bits c.args.far)));
    }
