use Rattle.std.proofs.Common.{refl, length, ap, arith}
use Rattle.cspf_book.proofs.versions.Ids.new.Goals as goal

pub returns : goal.returns
returns c = record {
  many = ap length c.new.ensures.items;
  rising = rw c.new.ensures.items (omega arith);
  at = λ id. rw (c.new-3.ensures.empty, c.new.ensures.items) refl;
  bits = c.new-2.ensures.items;
}
