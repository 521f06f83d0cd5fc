use Rattle.std.proofs.Common.{sym, subst, ◌∙◌}
use Rattle.std.proofs.lemmas.Bool.{false≢true}
use Rattle.cspf_model.specs.Changes.{after_changes}
use Rattle.cspf_book.specs.Following.{MayGoOn}
use Rattle.cspf_book.proofs.UntouchedRoutes.{up_to_start, up_to_more, up_to_broken, up_to_end, untouched_goes_on}
use Rattle.cspf_book.proofs.lost.still_admits.Goals as goal
use Rattle.cspf_book.proofs.lost.still_admits.Goals.{else-may_touch-via-then-may_touch+else-not-may_still_go_on, else-may_touch-via-else-may_touch}

pub loop-i-init : goal.loop-i-init
loop-i-init c = up_to_start c.args.base.now (after_changes c.args.base.now c.args.changes.now) c.args.placement.now

pub returns-then-not-may_still_go_on : goal.returns-then-not-may_still_go_on
returns-then-not-may_still_go_on c =
    let d = c.args.base.now in
    let e = after_changes d c.args.changes.now in
    up_to_broken d e c.args.placement.now c.links-link-items.result.now c.loop-i.i c.loop-i.router c.link-item.result
    c.links-link-items.ensures c.loop-i-test.true c.link-item.is c.loop-i.invariant
    (λ before go. false≢true (sym c.if-not-may_still_go_on.true ∙ (c.may_still_go_on.ensures (subst (λ q. MayGoOn d q c.loop-i.i c.loop-i.router c.link-item.result) (sym c.without_bandwidth-request.ensures) before)).1 (subst (λ q. MayGoOn e q c.loop-i.i c.loop-i.router c.link-item.result) (sym c.without_bandwidth-request.ensures) go)))

pub loop-i-preserved : goal.loop-i-preserved
loop-i-preserved c =
    let d = c.args.base.now in
    let e = after_changes d c.args.changes.now in
    let p = c.args.placement.now in
    up_to_more d e p c.links-link-items.result.now c.loop-i.i c.loop-i.router c.link-item.result c.links-link-items.ensures c.loop-i-test.true c.link-item.is c.loop-i.invariant
    (λ here. elim c.else-may_touch.branch [
      | else-may_touch-via-then-may_touch+else-not-may_still_go_on w ↦
          subst (λ q. MayGoOn e q c.loop-i.i c.loop-i.router c.link-item.result) c.without_bandwidth-request.ensures
          ((w.may_still_go_on.ensures (subst (λ q. MayGoOn d q c.loop-i.i c.loop-i.router c.link-item.result) (sym c.without_bandwidth-request.ensures) here)).0 w.if-not-may_still_go_on.false)
      | else-may_touch-via-else-may_touch w ↦
          untouched_goes_on d c.args.changes.now c.args.touched.now c.requires.touched p.request c.within_limits.ensures.keyed c.requires.groups c.loop-i.i c.loop-i.router c.link-item.result
          (c.may_touch.ensures w.if-may_touch.false) here
    ])

pub returns : goal.returns
returns c =
    let d = c.args.base.now in
    up_to_end d (after_changes d c.args.changes.now) c.args.placement.now c.links-link-items.result.now c.loop-i.i c.loop-i.router
    c.links-link-items.ensures c.loop-i-test.false c.loop-i.invariant
