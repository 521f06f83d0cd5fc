use Rattle.std.proofs.Common.{◌+◌, refl, sym, ◌∙◌, arith}
use Rattle.std.specs.List.{IsDistinct}
use Rattle.std.proofs.lemmas.List.{take_rest, drop_all}
use Rattle.std.proofs.lemmas.Bool.{false≢true}
use Rattle.cspf_model.proofs.Routes.Twice.{passed, shared}
use Rattle.cspf_model.proofs.route.any_pair_meets.Goals as goal

pub returns-then-ends_at : goal.returns-then-ends_at
returns-then-ends_at c =
    let links = c.args.links.now in
    let i = c.loop-i.i in
    let found = rw (take_rest links (i + 1)) at (sym c.ends_at.ensures ∙ c.if-ends_at.true) in
    (λ _. shared links i c.loop-i-test.true c.index-links-i.result c.index-links-i.is c.loop-i.invariant found, λ _. refl)

pub loop-i-preserved : goal.loop-i-preserved
loop-i-preserved c =
    let links = c.args.links.now in
    let i = c.loop-i.i in
    let found = rw (take_rest links (i + 1)) at (sym c.ends_at.ensures ∙ c.if-ends_at.false) in
    passed links i c.loop-i-test.true c.index-links-i.result c.index-links-i.is c.loop-i.invariant found

pub returns : goal.returns
unfolding IsDistinct
returns c =
    let none = drop_all c.loop-i.i c.args.links.now (omega arith) in
    let start = c.loop-i.invariant.0 in
    (λ t. absurd (false≢true t), λ twice. absurd (twice ((rw none at start) tt)))
