use Rattle.std.proofs.Common.{◌≡◌, ◌+◌, ◌∷◌, ◌++◌, [], take, sym, ap, ◌∙◌}
use Rattle.std.proofs.lemmas.List.{take_more, take_all}
use Rattle.cspf_graph.proofs.RoleLists.{one_marked}
use Rattle.cspf_graph.proofs.roles.mark.Goals as goal

pub loop-place-preserved : goal.loop-place-preserved
loop-place-preserved c =
    let place = c.from-at.result in
    let front = take c.loop-place.place-index c.args.places.now in
    let more : take (c.loop-place.place-index + 1) c.args.places.now ≡ front ++ place ∷ [] = take_more c.args.places.now c.loop-place.place-index 0 c.loop-place-test.true ∙ ap (λ p. front ++ p ∷ []) (sym c.from-at.ensures) in
    rw more (one_marked c.args.rows front place c.args.own c.args.from c.args.roles.now c.loop-place.roles c.with_more.result c.requires.rows (rw c.from-at.ensures (c.requires.places c.loop-place.place-index 0 c.loop-place-test.true)) c.loop-place.invariant c.with_more.ensures.enter c.with_more.ensures.target)

pub returns : goal.returns
returns c = rw (take_all c.loop-place.place-index c.args.places.now c.loop-place-test.false) at c.loop-place.invariant
