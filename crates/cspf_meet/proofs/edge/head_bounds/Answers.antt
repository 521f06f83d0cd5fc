use Rattle.std.proofs.Common.{◌≤◌, ◌/◌, inl, inr, ℕ, heap_items, arith}
use Rattle.std.specs.declared.cmp.Reverse.{Reverse}
use Rattle.std.proofs.lemmas.List.Elements.{All-contains}
use Rattle.cspf_meet.specs.Labels.{waiting_key, rank_at}
use Rattle.cspf_meet.proofs.RankBounds.{heads_of}
use Rattle.cspf_meet.proofs.Waiting.{key_rank}
use Rattle.cspf_meet.proofs.edge.head_bounds.Goals as goal

pub returns-clause-bounds : goal.returns-clause-bounds
returns-clause-bounds c d q listed looked =
    heads_of d q listed c.args.ahead.now c.deref-3.result.now _ c.args.most c.deref-3.ensures.value (omega arith) looked
    (λ v low waits. elim waits [
      | inl key ↦
          let all = c.least_of_keys-waiting.ensures.least in
          omega (arith, All-contains (λ (k : Reverse ℕ). c.least_of_keys-waiting.result ≤ k.0 / 1024) (heap_items c.args.ahead.now.heap) (waiting_key (rank_at c.args.ahead.now.ranks.items v) v) (rw c.as_slice.ensures.value at all) key, key_rank (rank_at c.args.ahead.now.ranks.items v) v low)
      | inr skipped ↦
          let all = rw (c.deref.ensures.value, c.deref-2.ensures.value) at c.least_of_places-skipped.ensures.least in
          omega (arith, All-contains (λ (place : ℕ). c.least_of_places-skipped.result ≤ rank_at c.args.ahead.now.ranks.items place) c.args.ahead.now.skipped.items v all skipped)
    ])
