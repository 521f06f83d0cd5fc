use Rattle.std.proofs.Common.{◌⊎◌, inl, inr, ◌<◌, ◌/◌, ◌%◌, ℕ, ◌+◌, slice_index_or, subst, ◌∙◌}
use Rattle.std.specs.List.{All}
use Rattle.std.specs.declared.cmp.Reverse.{Reverse}
use Rattle.std.proofs.lemmas.List.{get_or_default, take_all}
use Rattle.cspf_meet.specs.declared.corridor.Corridor.{Corridor}
use Rattle.cspf_meet.specs.Bounds.{head_bound}
use Rattle.cspf_meet.specs.Corridors.{IsToDo}
use Rattle.cspf_meet.proofs.Falling.{one_more}
use Rattle.cspf_meet.proofs.corridor.Corridor.add_keys.Goals as goal

abbrev blank : Reverse ℕ
blank = record { 0 = 0 }

pub loop-key-preserved : goal.loop-key-preserved
loop-key-preserved c =
    let keys = c.args.keys.now in
    let k = c.loop-key.key-index in
    let before = c.loop-key.invariant in
    let said = c.in_ok-add.ensures in
    let x = slice_index_or c.args.keys.now c.loop-key.key-index blank in
    let Was : Corridor → Reverse ℕ → Type 0 = λ (corridor : Corridor) (key : Reverse ℕ). (c.args.head.most < key.0 / 1024 + head_bound c.args.head (key.0 % 1024)) ⊎ IsToDo corridor (key.0 % 1024) in
    record {
      near = c.add.ensures.near ∙ before.near;
      kept = λ v waits. said.kept v (before.kept v waits);
      added = one_more (Was c.loop-key.self) (Was c.add.new.self) keys k x c.loop-key-test.true (get_or_default keys k blank x c.loop-key-test.true)
          (λ y was. elim was [ inl far ↦ inl far | inr waits ↦ inr (said.kept _ waits) ]) before.added
          (rw (← c.rank_in.ensures.value, ← c.place_in.ensures.value) said.added);
    }

pub returns-clause-added : goal.returns-clause-added
returns-clause-added c =
    subst (All (λ (key : Reverse ℕ). (c.args.head.most < key.0 / 1024 + head_bound c.args.head (key.0 % 1024)) ⊎ IsToDo c.loop-key.self (key.0 % 1024)))
    (take_all c.loop-key.key-index c.args.keys.now c.loop-key-test.false) c.loop-key.invariant.added
