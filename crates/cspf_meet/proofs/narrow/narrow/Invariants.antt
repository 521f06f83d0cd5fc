use Rattle.std.proofs.Common.{ℕ, ◌≤◌}
use Rattle.cspf_meet.specs.Corridors.{IsCorridor}
use Rattle.cspf_meet.specs.Labels.{rank_at}
use Rattle.cspf_meet.proofs.narrow.narrow.Given as goal

abbrev pub invariant-loop-turn : goal.invariant-loop-turn
invariant-loop-turn l = record {
  corridor : IsCorridor l.query.table.now l.query.request.now l.head l.corridor;
  lower : (v : ℕ) → rank_at l.corridor.near.items v ≤ rank_at l.fn.corridor.near.items v;
}
