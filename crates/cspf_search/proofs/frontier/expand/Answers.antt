use Rattle.std.proofs.Common.{◌≡◌, ◌+◌, ◌%◌, List, length, slice_index, refl, sym, ap, subst, heap_items, arith}
use Rattle.std.proofs.lemmas.Bool.{false≢true}
use Rattle.std.proofs.lemmas.Option.{slice_get_read}
use Rattle.cspf_model.specs.declared.link.Link.{Link}
use Rattle.cspf_model.specs.Admissible.{MayLeave}
use Rattle.cspf_db.specs.Index.{links_of, links_from_index, router_list}
use Rattle.cspf_search.specs.Rounds.{CrossesBelow}
use Rattle.cspf_search.specs.Frontier.{CrossesUpTo}
use Rattle.cspf_search.proofs.Expanded.{turn_below, below_turn, all_below, below_all}
use Rattle.cspf_search.proofs.Offered.{labels_same}
use Rattle.cspf_graph.proofs.LinkRows.{reverse_of_row, end_of_row}
use Rattle.cspf_search.proofs.Taken.{few_rows}
use Rattle.cspf_search.proofs.frontier.expand.Goals as goal

pub offer_link-requires-clause-edge : goal.offer_link-requires-clause-edge
offer_link-requires-clause-edge c =
    let links = c.out_at-links.result.now in
    let each = rw (← c.out_at-links.ensures) at c.ends_at-ends.ensures.each in
    let here = slice_get_read links (length links) c.loop-row.row c.index-links-row.result refl c.loop-row-test.true c.index-links-row.is in
    record {
      row = rw c.out_at-links.ensures at here;
      end =
          end_of_row c.args.query.table.now c.ends_at-ends.result.now links c.ends_at-ends.ensures.within each c.loop-row.row c.index-links-row.result c.from.result c.loop-row-test.true
          c.index-links-row.is c.from.ensures;
      reverse =
          reverse_of_row c.args.query.table.now (c.args.state % 1024) c.reverses_at-reverses.result.now c.reverses_at-reverses.ensures.each c.loop-row.row c.index-links-row.result
          (rw c.out_at-links.ensures at here);
    }

pub returns-then-not-may_leave_at-clause-after : goal.returns-then-not-may_leave_at-clause-after
returns-then-not-may_leave_at-clause-after c =
    let d = c.args.query.table.now in
    let q = c.args.query.request.now in
    let nodes = c.args.nodes.now in
    let from = c.requires.from in
    let router = slice_index (router_list d) (c.args.state % 1024) in
    labels_same d q nodes (CrossesUpTo d q nodes c.args.at (c.args.state % 1024) 0) (CrossesBelow d q nodes (links_of d) (c.args.at + 1)) (turn_below d q nodes c.args.at c.args.state from)
    (below_turn d q nodes c.args.at c.args.state from (λ may. false≢true (c.if-not-may_leave_at.ensures.1 (subst (MayLeave d router) (sym c.links_at-count.ensures) may)))) c.args.goal c.offer_turn.new.labels
    (heap_items c.offer_turn.new.heap) c.in_ok-offer_turn.ensures.after

pub returns-clause-after : goal.returns-clause-after
returns-clause-after c =
    let d = c.args.query.table.now in
    let q = c.args.query.request.now in
    let nodes = c.args.nodes.now in
    let all : c.loop-row.row ≡ length (links_from_index d (c.args.state % 1024)) = omega (arith, ap (λ (ls : List Link). length ls) c.out_at-links.ensures) in
    labels_same d q nodes (CrossesUpTo d q nodes c.args.at (c.args.state % 1024) (length (links_from_index d (c.args.state % 1024)))) (CrossesBelow d q nodes (links_of d) (c.args.at + 1))
    (all_below d q nodes c.args.at c.args.state c.requires.from) (below_all d q nodes c.args.at c.args.state c.requires.from) c.args.goal c.loop-row.labels
    (heap_items c.loop-row.heap) (rw all at c.loop-row.invariant.labels)

pub returns-clause-few : goal.returns-clause-few
returns-clause-few c =
    let d = c.args.query.table.now in
    let few = few_rows d c.requires.query.listed (c.args.state % 1024) in
    omega (arith, few, c.loop-row.invariant.few, ap (λ (ls : List Link). length ls) c.out_at-links.ensures)
