use Rattle.std.proofs.Common.{ap, subst, ◌∙◌, ◌+◌}
use Rattle.std.specs.List.{Contains}
use Rattle.cspf_model.specs.Database.{AreLinksOf}
use Rattle.cspf_db.specs.Index.{links_of, router_list}
use Rattle.cspf_disjoint.specs.Potentials.{potentials_of}
use Rattle.cspf_disjoint.specs.Weights.{weights_of}
use Rattle.cspf_disjoint.proofs.Sums.{whole_excess}
use Rattle.cspf_disjoint.proofs.excess.total_excess.Goals as goal

pub returns : goal.returns
returns c =
    let d = c.args.table.now in
    whole_excess d c.args.request.now (potentials_of c.args.table.now c.args.lists) (weights_of c.args.rule.now) (links_of c.args.table.now) (router_list c.args.table.now) c.in_ok-links.links c.in_ok-total.total
    (subst (AreLinksOf c.args.table.now) c.links-links.ensures.sorted c.links-links.ensures.listed)
    (λ router is. subst (λ rs. Contains rs router) c.routers-routers.ensures.all ((c.routers-routers.ensures.known router).1 is))
    c.in_ok-links.ensures (c.in_ok-total.ensures.1 ∙ ap (λ n. c.in_ok-links.links + n) c.in_ok-routers.ensures)
