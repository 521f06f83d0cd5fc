use Rattle.std.proofs.Common.{◌≡◌, ◌≤◌}
use Rattle.cspf_meet.specs.Labels.{rank_at}
use Rattle.cspf_meet.specs.Looks.{AreLookedAt, LeadsBack}
use Rattle.cspf_meet.proofs.by_bounds.look_back.Given as goal

abbrev pub invariant-loop-turn : goal.invariant-loop-turn
invariant-loop-turn l = record {
  small : l.most ≤ 9007199254740992;
  looked : AreLookedAt (LeadsBack l.query.table.now l.query.request.now) l.back l.most;
  end : rank_at l.back.ranks.items l.query.to ≡ 0;
}
