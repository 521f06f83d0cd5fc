use Rattle.std.proofs.Common.{◌≡◌, ◌⊎◌, ℕ, ◌+◌, ◌<◌, take}
use Rattle.std.specs.List.{All}
use Rattle.cspf_meet.specs.Bounds.{head_bound}
use Rattle.cspf_meet.specs.Corridors.{IsToDo}
use Rattle.cspf_meet.specs.Labels.{rank_at}
use Rattle.cspf_meet.proofs.corridor.Corridor.add_places.Given as goal

abbrev pub invariant-loop-place : goal.invariant-loop-place
invariant-loop-place l = record {
  near : l.self.near ≡ l.fn.self.near;
  kept : (v : ℕ) → IsToDo l.fn.self v → IsToDo l.self v;
  added : All (λ place. (l.head.most < rank_at l.fn.self.near.items place + head_bound l.head place) ⊎ IsToDo l.self place) (take l.place-index l.places);
}
