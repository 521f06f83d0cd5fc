use Rattle.std.proofs.Common.{◌≡◌, ◌%◌, List, length, slice_index, sym, ap, subst, arith}
use Rattle.std.proofs.lemmas.Bool.{false≢true}
use Rattle.cspf_model.specs.declared.link.Link.{Link}
use Rattle.cspf_model.specs.Admissible.{MayLeave}
use Rattle.cspf_db.specs.Index.{links_from_index, router_list}
use Rattle.cspf_search.proofs.Expanded.{here_from, from_here}
use Rattle.cspf_search.proofs.Firsts.{first_same}
use Rattle.cspf_search.proofs.Looked.{turn_here, here_turn}
use Rattle.cspf_search.proofs.rounds.look_from.Goals as goal

pub returns : goal.returns
returns c =
    let from = c.requires.look.from in
    let all : c.loop-row.row ≡ length (links_from_index c.args.look.query.table.now (c.args.look.star.state % 1024)) = omega (arith, ap (λ (ls : List Link). length ls) c.requires.look.star.links) in
    first_same _ _ _ (here_from _ _ _ _ _ from) (from_here _ _ _ _ _ from) _ (rw all at c.loop-row.invariant)

pub returns-then-not-may_leave_at : goal.returns-then-not-may_leave_at
returns-then-not-may_leave_at c =
    let d = c.args.look.query.table.now in
    let arena = c.requires.look.arena in
    let from = c.requires.look.from in
    let router = slice_index (router_list d) (c.args.look.star.state % 1024) in
    first_same _ _ _ (turn_here _ _ _ arena _ _ from) (here_turn _ _ _ arena _ _ from (λ may. false≢true (c.if-not-may_leave_at.ensures.1 (subst (MayLeave d router) (sym c.links_at-count.ensures) may)))) _
    c.look_at_turn-best.ensures
