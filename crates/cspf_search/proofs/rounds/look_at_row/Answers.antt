use Rattle.std.proofs.Common.{◌≡◌, ◌%◌, Some, slice_get, slice_index, slice_index_or, refl, subst}
use Rattle.std.proofs.lemmas.Option.{slice_get_read}
use Rattle.cspf_model.specs.declared.link.Link.{Link}
use Rattle.cspf_db.specs.Index.{links_from_index, IsReverseAt}
use Rattle.cspf_search.specs.Arena.{state_of}
use Rattle.cspf_search.specs.Frontier.{nowhere}
use Rattle.cspf_graph.specs.Lists.{IsIndexOf}
use Rattle.cspf_search.proofs.Looked.{row_end, row_settled, row_left}
use Rattle.cspf_graph.proofs.LinkRows.{reverse_of_row}
use Rattle.cspf_search.proofs.rounds.look_at_row.Goals as goal

pub returns-then-marks-star : goal.returns-then-marks-star
returns-then-marks-star c = record {
  after = row_settled c.args.look c.requires.look c.args.row c.requires.row c.from-end.result c.from-end.ensures c.if-marks-star.true c.args.best.now c.requires.before;
}

pub look_at_link-requires-clause-edge : goal.look_at_link-requires-clause-edge
look_at_link-requires-clause-edge c =
    let d = c.args.look.query.table.now in
    let s = state_of (slice_index_or c.args.look.nodes.now c.args.look.at nowhere) in
    let star = c.requires.look.star in
    let read = rw star.links at c.index-star-row.is in
    let l = c.index-star-row.result in
    let here = slice_get_read (links_from_index d (c.args.look.star.state % 1024)) _ c.args.row l refl c.requires.row read in
    record {
      row = subst (λ m. slice_get (links_from_index d (c.args.look.star.state % 1024)) c.args.row ≡ Some m) c.index-star-row.is here;
      end = subst (λ (m : Link). IsIndexOf d m.to c.from-end.result) c.index-star-row.is (row_end d s c.args.look.star star c.args.row l c.requires.row here c.from-end.result c.from-end.ensures);
      reverse =
          subst (λ m. IsReverseAt d m (slice_index c.args.look.star.reverses.now c.args.row)) c.index-star-row.is (reverse_of_row d (c.args.look.star.state % 1024) c.args.look.star.reverses.now star.reverses c.args.row l here);
    }

pub look_at_link-requires-clause-left : goal.look_at_link-requires-clause-left
look_at_link-requires-clause-left c = row_left c.args.look c.requires.look c.args.row c.requires.row c.from-end.result c.from-end.ensures c.if-marks-star.false
