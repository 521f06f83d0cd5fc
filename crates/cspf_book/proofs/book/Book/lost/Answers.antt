use Rattle.std.proofs.Common.{map, ap, sym, ◌∙◌}
use Rattle.cspf_book.specs.RouterBits.{bits_of}
use Rattle.cspf_book.proofs.LostRanks.{other_ids}
use Rattle.cspf_book.proofs.book.Book.lost.Goals as goal

pub lost-requires-clause-ids : goal.lost-requires-clause-ids
lost-requires-clause-ids c =
    rw c.deref.ensures.value (other_ids c.self.inside.placements.items c.self.invariant.own_ids)

pub lost-requires-clause-bits : goal.lost-requires-clause-bits
lost-requires-clause-bits c =
    c.bits.ensures ∙ c.self.invariant.ids.bits ∙ ap (map bits_of) (sym c.deref.ensures.value)
