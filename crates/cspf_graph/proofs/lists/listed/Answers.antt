use Rattle.std.proofs.Common.{arith}
use Rattle.std.proofs.lemmas.List.Elements.{Contains-get_or}
use Rattle.cspf_db.specs.Index.{router_list}
use Rattle.cspf_graph.proofs.lists.listed.Goals as goal

pub returns-clause-listed : goal.returns-clause-listed
returns-clause-listed c =
    let all = c.routers-routers.ensures.all in
    record {
      known = rw all at c.routers-routers.ensures.known;
      rising = rw all at c.routers-routers.ensures.rising;
      few = rw all at c.routers-routers.ensures.few;
      room = rw c.links-links.ensures.sorted at c.links-links.ensures.most;
    }

pub returns-clause-links : goal.returns-clause-links
returns-clause-links c = rw c.links-links.ensures.sorted at c.links-links.ensures.listed

pub returns-clause-known : goal.returns-clause-known
returns-clause-known c = λ router place end.
    let known = rw c.routers-routers.ensures.all at c.routers-routers.ensures.known in
    (known router).0 (rw end.is at (Contains-get_or (router_list c.args.table.now) place 0 end.within))

pub returns-clause-few : goal.returns-clause-few
returns-clause-few c = λ routers apart all.
    let counted = c.counted_routers.ensures.distinct c.args.table.now routers apart all in
    omega (arith, counted, c.links-links.ensures.few)
