use Rattle.std.proofs.Common.{◌≡◌, ◌⊎◌, ◌<◌, length, slice_index_or, subst, arith}
use Rattle.std.proofs.lemmas.List.{get_or_read}
use Rattle.cspf_search.specs.Frontier.{no_rank}
use Rattle.cspf_search.specs.RoundSteps.{low_of}
use Rattle.cspf_search.proofs.Lows.{found_kept, low_found, lows_set, passed}
use Rattle.cspf_search.proofs.rounds.first.Goals as goal

pub loop-at-preserved-then-is_passed : goal.loop-at-preserved-then-is_passed
loop-at-preserved-then-is_passed c =
    let before = c.loop-at.invariant in
    let within : c.loop-at.at < length c.args.round.nodes.now = omega arith in
    let low = get_or_read c.loop-at.lows.items c.loop-at.at c.index.result.now (omega (arith, within, before.lows.many)) c.index.ensures 0 in
    record {
      best =
          passed c.args.round.query.table.now c.args.round.query.request.now c.args.round.nodes.now c.requires.round.arena c.loop-at.at within c.loop-at.best (slice_index_or c.loop-at.lows.items c.loop-at.at 0) before.best
          (before.lows.each c.loop-at.at within)
          (subst (λ low. (low ≡ no_rank) ⊎ (low_of c.loop-at.best < low)) low (c.is_passed.ensures c.if-is_passed.true));
      lows = before.lows;
    }

pub loop-at-preserved : goal.loop-at-preserved
loop-at-preserved c =
    let d = c.args.round.query.table.now in
    let q = c.args.round.query.request.now in
    let nodes = c.args.round.nodes.now in
    let are = c.requires.round.arena in
    let at = c.loop-at.at in
    let before = c.loop-at.invariant in
    let found = c.look_from-found.ensures in
    let within : c.loop-at.at < length c.args.round.nodes.now = omega arith in
    record {
      best = rw c.keep_found.ensures (found_kept d q nodes are at within c.loop-at.best c.look_from-found.result before.best found);
      lows = rw c.low_of.ensures (lows_set d q nodes are at within c.loop-at.lows.items before.lows _ (low_found d q nodes are at within c.look_from-found.result found));
    }

pub returns-clause-first : goal.returns-clause-first
returns-clause-first c =
    let whole : c.loop-at.at ≡ length c.args.round.nodes.now = omega arith in
    rw whole at c.loop-at.invariant.best
