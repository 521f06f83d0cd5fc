use Rattle.std.proofs.Common.{filter, sym, ap, subst, ◌∙◌, arith}
use Rattle.std.proofs.lemmas.List.{take_all, get_or_read}
use Rattle.cspf_model.specs.Lemmas.CountedEnds.{is_end_of, any_to}
use Rattle.cspf_columns.specs.Rows.{ArePlacesIn}
use Rattle.cspf_columns.proofs.RouterPlaces.{filter_places, any_to-ends}
use Rattle.cspf_columns.proofs.renumbering.keep_ends.Goals as goal

pub returns : goal.returns
returns c =
    let is = c.loop-at.invariant in
    let routers = c.args.routers.now in
    let kept = is.kept ∙ ap (filter (is_end_of c.args.rows.now)) (take_all c.loop-at.at routers (omega arith)) in
    record {
      kept = kept;
      placed = subst (λ kept. ArePlacesIn kept routers c.loop-at.places.items) (sym kept)
          (filter_places (is_end_of c.args.rows.now) routers c.loop-at.places.items (λ k h. is.placed k (omega (arith, h))));
      len = omega (arith, is.len, c.loop-at.places.ok.0);
      capacity = is.capacity;
      capacity_of_places = is.capacity_of_places;
    }

pub is_end-stays-requires-clause-known : goal.is_end-stays-requires-clause-known
is_end-stays-requires-clause-known c =
    let at = c.loop-at.at in
    let routers = c.args.routers.now in
    let within = c.loop-at-test.true in
    c.mark_ends.ensures.marked at (omega (arith, within, c.requires.few)) ∙ any_to-ends routers c.requires.rising c.args.rows.now c.args.ends.now c.requires.column.ends at within
    ∙ ap (any_to c.args.rows.now) (sym (get_or_read routers at c.index-routers-at.result within c.index-routers-at.is 0))
