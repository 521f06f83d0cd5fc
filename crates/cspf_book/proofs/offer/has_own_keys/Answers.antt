use Rattle.std.proofs.Common.{◌+◌, refl, sym, ◌∙◌, arith}
use Rattle.std.specs.List.{IsDistinct}
use Rattle.std.proofs.lemmas.List.{take_rest, drop_all}
use Rattle.std.proofs.lemmas.Bool.{false≢true}
use Rattle.cspf_book.proofs.TwiceUsed.{passed, shared}
use Rattle.cspf_book.proofs.offer.has_own_keys.Goals as goal

pub returns-then-has_key : goal.returns-then-has_key
returns-then-has_key c =
    let links = c.args.links.now in
    let i = c.loop-i.i in
    let found = rw (take_rest links (i + 1)) at (sym c.has_key.ensures ∙ c.if-has_key.true) in
    (λ t. absurd (false≢true t), λ all. absurd (shared links i c.loop-i-test.true c.index-links-i.result c.index-links-i.is c.loop-i.invariant found all))

pub loop-i-preserved : goal.loop-i-preserved
loop-i-preserved c =
    let links = c.args.links.now in
    let i = c.loop-i.i in
    let found = rw (take_rest links (i + 1)) at (sym c.has_key.ensures ∙ c.if-has_key.false) in
    passed links i c.loop-i-test.true c.index-links-i.result c.index-links-i.is c.loop-i.invariant found

pub returns : goal.returns
unfolding IsDistinct
returns c =
    let none = drop_all c.loop-i.i c.args.links.now (omega arith) in
    let start = c.loop-i.invariant.0 in
    (λ _. (rw none at start) tt, λ _. refl)
