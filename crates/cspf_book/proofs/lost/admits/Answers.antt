use Rattle.std.proofs.Common.{refl, sym, subst, ◌∙◌}
use Rattle.std.proofs.lemmas.Bool.{false≢true}
use Rattle.cspf_model.specs.Changes.{after_changes}
use Rattle.cspf_book.specs.LostRoutes.{without_bandwidth}
use Rattle.cspf_book.specs.Following.{MayGoOn}
use Rattle.cspf_book.proofs.RouteWalks.{admits_followed, goes_on, followed_more, followed_all, IsFollowed}
use Rattle.cspf_book.proofs.lost.admits.Goals as goal

pub returns-then-not-may_go_on : goal.returns-then-not-may_go_on
returns-then-not-may_go_on c =
    let d = after_changes c.args.base.now c.args.changes.now in
    let p = c.args.placement.now in (
      λ no. absurd (false≢true no),
      λ admits.
          let here = c.loop-i.invariant.1 ((admits_followed d p).1 admits) in
          let go = goes_on d (without_bandwidth p.request) p.route c.links-link-items.result.now c.loop-i.i c.loop-i.router c.link-item.result c.links-link-items.ensures c.loop-i-test.true c.link-item.is here in
          absurd (false≢true (sym c.if-not-may_go_on.true ∙ c.may_go_on.ensures.1 (subst (λ q. MayGoOn d q c.loop-i.i c.loop-i.router c.link-item.result) (sym c.without_bandwidth-request.ensures) go))),
    )

pub loop-i-preserved : goal.loop-i-preserved
loop-i-preserved c =
    let d = after_changes c.args.base.now c.args.changes.now in
    let p = c.args.placement.now in
    let q = without_bandwidth p.request in
    followed_more d q p.route c.links-link-items.result.now c.loop-i.i c.loop-i.router c.link-item.result c.links-link-items.ensures c.loop-i-test.true c.link-item.is (IsFollowed d q 0 p.request.from p.route) (subst (λ r. MayGoOn d r c.loop-i.i c.loop-i.router c.link-item.result) c.without_bandwidth-request.ensures (c.may_go_on.ensures.0 c.if-not-may_go_on.false)) c.loop-i.invariant

pub returns : goal.returns
returns c =
    let d = after_changes c.args.base.now c.args.changes.now in
    let p = c.args.placement.now in
    let q = without_bandwidth p.request in
    (λ _. (admits_followed d p).0 (c.loop-i.invariant.0 (followed_all d q p.route c.links-link-items.result.now c.loop-i.i c.loop-i.router c.links-link-items.ensures c.loop-i-test.false)), λ _. refl)
