use Rattle.std.proofs.Common.{◌≡◌, ◌-◌, length, sym, ap, ◌∙◌, arith}
use Rattle.cspf_search.proofs.LegBounds.{one_leg_more}
use Rattle.cspf_search.proofs.Trees.{cost_told, leg_of_tree, tree_costs}
use Rattle.cspf_search.proofs.bounds.set_last_leg.Goals as goal

pub returns-clause-bounds : goal.returns-clause-bounds
returns-clause-bounds c =
    let d = c.args.query.table.now in
    let q = c.args.query.request.now in
    let tree = c.args.tree.now in
    let leg = c.args.query.legs - 1 in
    let last : c.args.query.legs - 1 ≡ length c.args.query.request.now.hops = omega (arith, c.requires.query.count) in
    let all = ap length c.routers-count.ensures.all in
    let few = c.routers-count.ensures.few in
    one_leg_more d q leg (length c.routers-count.result.now) all few c.args.bounds.now c.set_leg_by.new.bounds (tree_costs tree) 4294967295 (omega arith) c.requires.bounds
    (λ i low. c.requires.zeros i) (leg_of_tree d q tree (omega (arith, all, few)) c.requires.tree leg last _) c.set_leg_by.auto.bounds
    (λ p within. c.set_leg_by.ensures.leg p within ∙ sym (cost_told tree p (omega (arith, within, few)))) c.set_leg_by.ensures.others
