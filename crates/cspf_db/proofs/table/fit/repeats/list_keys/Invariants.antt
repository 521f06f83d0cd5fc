use Rattle.std.proofs.Common.{◌≡◌, map, take}
use Rattle.cspf_model.specs.Changes.{key_changed}
use Rattle.cspf_db.proofs.table.fit.repeats.list_keys.Given as goal

abbrev pub invariant-loop-at : goal.invariant-loop-at
invariant-loop-at l = take l.at l.keys ≡ map key_changed (take l.at l.changes)
