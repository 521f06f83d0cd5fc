use Rattle.std.proofs.Common.{length, slice_index, sym, ap, ◌∙◌, arith}
use Rattle.std.proofs.lemmas.Bool.{false≢true}
use Rattle.std.proofs.lemmas.List.{get_or-map, length-map}
use Rattle.cspf_model.specs.Changes.{after_changes}
use Rattle.cspf_book.specs.RouterBits.{bits_of}
use Rattle.cspf_book.proofs.LostRanks.{ranks_more, ranks_same}
use Rattle.cspf_book.proofs.lost.list_ranks.Goals as goal
use Rattle.cspf_book.proofs.lost.list_ranks.Goals.{then-is_lost+in_ok-push, else-is_lost}

pub loop-i-preserved : goal.loop-i-preserved
loop-i-preserved c =
    let before = c.args.base.now in
    let after = after_changes before c.args.changes.now in
    let i = c.loop-i.i in
    elim c.if-is_lost.branch [
      | then-is_lost+in_ok-push w ↦
          ranks_more before after c.args.placements.now i c.index-placements-i.result c.requires.ids c.loop-i-test.true c.index-placements-i.is
          c.loop-i.ranks.items c.if-is_lost.ranks.items (c.is_lost.ensures.0 w.if-is_lost.true) (ap (λ v. v.items) w.ranks-is ∙ w.in_ok-push.ensures.items) c.loop-i.invariant
      | else-is_lost w ↦
          ranks_same before after c.args.placements.now i c.index-placements-i.result c.requires.ids c.loop-i-test.true c.index-placements-i.is
          c.loop-i.ranks.items c.if-is_lost.ranks.items (λ lost. false≢true (sym w.if-is_lost.false ∙ c.is_lost.ensures.1 lost)) (ap (λ v. v.items) w.ranks-is) c.loop-i.invariant
    ]

pub bounds-bits-i : goal.bounds-bits-i
bounds-bits-i c =
    let many = ap length c.requires.bits ∙ length-map c.args.placements.now bits_of in
    omega (arith, many, c.loop-i-test.true)

pub is_lost-requires-clause-bits : goal.is_lost-requires-clause-bits
is_lost-requires-clause-bits c =
    let i = c.loop-i.i in
    ap (λ bits. slice_index bits i) c.requires.bits
    ∙ get_or-map bits_of c.args.placements.now i c.index-placements-i.result 0 c.loop-i-test.true
    ∙ ap bits_of (sym c.index-placements-i.is)
