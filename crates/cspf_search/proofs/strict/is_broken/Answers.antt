use Rattle.std.proofs.Common.{slice_index, refl}
use Rattle.std.proofs.lemmas.Bool.{false≢true}
use Rattle.std.proofs.lemmas.List.{take_all}
use Rattle.cspf_graph.specs.Lists.{router_at}
use Rattle.cspf_search.specs.Strict.{IsApart}
use Rattle.cspf_search.proofs.LegTargets.{taken_more}
use Rattle.cspf_search.proofs.strict.is_broken.Goals as goal

pub loop-place-preserved : goal.loop-place-preserved
loop-place-preserved c =
    let d = c.args.query.table.now in
    let starts = c.args.starts.now in
    let k = c.loop-place.place-index in
    taken_more (λ p. IsApart d c.args.query.request.now c.args.leg_index (router_at d p)) starts k (slice_index starts k) c.loop-place-test.true refl c.loop-place.invariant (c.joins.ensures c.if-joins.false)

pub returns : goal.returns
returns c _ =
    let all = take_all c.loop-place.place-index c.args.starts.now c.loop-place-test.false in
    record {
      hop = c.requires.leg;
      strict = λ loose. absurd (false≢true (c.if-is_loose.ensures.1 loose));
      apart = λ p low begins. c.loop-place.invariant p (rw all ((c.requires.starts.each p low).1 begins));
    }
