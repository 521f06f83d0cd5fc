use Rattle.std.proofs.Common.{◌≡◌, sym, length, ap, subst, ◌∙◌, arith}
use Rattle.std.proofs.lemmas.List.{get_or_read}
use Rattle.std.proofs.lemmas.Bool.{false≢true}
use Rattle.cspf_search.specs.Bounds.{bound_at}
use Rattle.cspf_graph.specs.Roles.{MayLeadOver}
use Rattle.cspf_search.proofs.Trees.{fallen_tree, none_over, one_more_done}
use Rattle.cspf_search.proofs.tree_steps.take.Goals.{then-to-routers-via-then-to-routers, then-to-routers-via-else-to-routers+then-not-may_lead_over}
use Rattle.cspf_search.proofs.tree_steps.take.Goals as goal

pub returns-then-to-routers-clause-ring : goal.returns-then-to-routers-clause-ring
returns-then-to-routers-clause-ring c =
    none_over c.args.table.now c.args.any.now c.args.to c.args.ring.now c.requires.ring
    (λ router at over. elim c.then-to-routers.branch [
      | then-to-routers-via-then-to-routers w ↦ omega (arith, at.within, w.if-to-routers.true, ap length c.routers.ensures.all)
      | then-to-routers-via-else-to-routers+then-not-may_lead_over w ↦ false≢true (sym w.if-not-may_lead_over.true ∙ w.may_lead_over.ensures.1 (subst (MayLeadOver c.args.table.now c.args.any.now) (sym at.is) over))
    ])

pub returns-then-index-links-clause-ring : goal.returns-then-index-links-clause-ring
returns-then-index-links-clause-ring c =
    let said = c.in_ok-walk.ensures in
    let ring = c.walk.new.ring in
    let read = get_or_read c.walk.new.ring.near.items c.args.to c.index.result.now (omega (arith, c.requires.within, c.walk.new.ring.bounds)) c.index.ensures 0 in
    let same : bound_at c.walk.new.ring.near.items c.args.to ≡ c.index-base.result.now = sym read ∙ c.if-index-base.true in
    let seen = get_or_read c.walk.new.ring.links.items c.args.to c.index-then-index-base.result.now (omega (arith, c.requires.within, c.walk.new.ring.counts)) c.index-then-index-base.ensures 0 in
    let links : bound_at c.walk.new.ring.links.items c.args.to ≡ c.index-links.result.now = sym seen ∙ c.if-index-links.true in
    one_more_done c.args.table.now c.args.any.now c.args.to _ _ c.args.ring.now c.walk.new.ring c.requires.ring said.falls said.passed same (omega (arith, links, c.saturating_add.ensures))

pub returns-else-index-base-clause-ring : goal.returns-else-index-base-clause-ring
returns-else-index-base-clause-ring c =
    fallen_tree c.args.table.now c.args.any.now c.args.ring.now c.walk.new.ring c.in_ok-walk.ensures.falls c.requires.ring
