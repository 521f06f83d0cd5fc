use Rattle.std.proofs.Common.{◌≡◌, ◌⊎◌, ℕ, ◌+◌, ◌<◌, ◌/◌, ◌%◌, take}
use Rattle.std.specs.List.{All}
use Rattle.cspf_meet.specs.Bounds.{head_bound}
use Rattle.cspf_meet.specs.Corridors.{IsToDo}
use Rattle.cspf_meet.proofs.corridor.Corridor.add_keys.Given as goal

abbrev pub invariant-loop-key : goal.invariant-loop-key
invariant-loop-key l = record {
  near : l.self.near ≡ l.fn.self.near;
  kept : (v : ℕ) → IsToDo l.fn.self v → IsToDo l.self v;
  added : All (λ key. (l.head.most < key.0 / 1024 + head_bound l.head (key.0 % 1024)) ⊎ IsToDo l.self (key.0 % 1024)) (take l.key-index l.keys);
}
