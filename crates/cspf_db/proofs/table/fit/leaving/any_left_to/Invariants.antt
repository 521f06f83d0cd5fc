use Rattle.std.proofs.Common.{◌≡◌, ℕ, ◌<◌, ◌&&◌, false, nat_eq, slice_index, slice_index_or}
use Rattle.cspf_model.specs.declared.link.Link.{Link}
use Rattle.cspf_model.specs.Lemmas.RowsLeft.{is_untouched}
use Rattle.cspf_db.proofs.table.fit.leaving.any_left_to.Given as goal

abbrev pub invariant-loop-at : goal.invariant-loop-at
invariant-loop-at l = record {
  none : (at : ℕ) (d : Link) → at < l.at → (nat_eq (slice_index l.ends at) l.place && is_untouched l.changes (slice_index_or l.rows at d)) ≡ false;
}
