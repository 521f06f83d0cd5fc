use Rattle.std.proofs.Common.{List, length, slice_index_or, map, sym, ap, ◌∙◌, arith}
use Rattle.cspf_model.specs.declared.link.Link.{Link}
use Rattle.cspf_db.specs.Index.{links_of}
use Rattle.cspf_disjoint.specs.Potentials.{potentials_of}
use Rattle.cspf_disjoint.specs.Weights.{weights_of}
use Rattle.cspf_disjoint.proofs.Ends.{end_at}
use Rattle.cspf_disjoint.proofs.Sums.{among_more}
use Rattle.cspf_disjoint.proofs.excess.excess_of_links.Goals as goal

pub excess_of-requires-clause-to : goal.excess_of-requires-clause-to
excess_of-requires-clause-to c =
    let sorted = c.links-links.ensures.sorted in
    end_at c.args.table.now c.ends-ends.result.now c.links-links.result.now (c.ends-ends.ensures.each ∙ ap (map (λ (l : Link). l.to)) (sym sorted)) c.ends-ends.ensures.within
    c.loop-row.row c.index-links-row.result c.from-to.result c.loop-row-test.true c.index-links-row.is c.from-to.ensures

pub loop-row-preserved : goal.loop-row-preserved
loop-row-preserved c =
    let d = c.args.table.now in
    let sorted = c.links-links.ensures.sorted in
    let sum = c.in_ok-total.ensures.1 in
    record {
      among = rw sum
          (among_more d c.args.request.now (potentials_of c.args.table.now c.args.lists) (weights_of c.args.rule.now) (links_of c.args.table.now) c.loop-row.row c.index-links-row.result c.loop-row.total c.excess_of.result
          (omega (arith, c.loop-row-test.true, ap (λ (ls : List Link). length ls) sorted)) (c.index-links-row.is ∙ ap (λ ls. slice_index_or ls c.loop-row.row c.index-links-row.result) sorted)
          c.loop-row.invariant.among c.excess_of.ensures);
    }
