use Rattle.std.proofs.Common.{◌≤◌, vec_len}
use Rattle.std.specs.Vec.{vec_capacity}
use Rattle.cspf_db.proofs.Tables.OwnerPlaces.{AreOwnersBelow}
use Rattle.cspf_db.proofs.table.Table.list_owners.Given as goal

abbrev pub invariant-loop-at : goal.invariant-loop-at
invariant-loop-at l = record {
  owners : AreOwnersBelow l.self l.prefix l.at l.owners.items;
  few : vec_len l.owners ≤ l.at;
  room : vec_capacity l.fn.owners ≤ vec_capacity l.owners;
}
