use Rattle.std.proofs.Common.{◌≡◌, ◌⊎◌, inl, inr, ◌<◌, ℕ, ◌+◌, slice_index_or, ap, subst, ◌∙◌}
use Rattle.std.specs.List.{All}
use Rattle.std.proofs.lemmas.List.{get_or_default, take_all}
use Rattle.cspf_meet.specs.declared.corridor.Corridor.{Corridor}
use Rattle.cspf_meet.specs.Bounds.{head_bound}
use Rattle.cspf_meet.specs.Corridors.{IsToDo}
use Rattle.cspf_meet.specs.Labels.{rank_at}
use Rattle.cspf_meet.proofs.Falling.{one_more}
use Rattle.cspf_meet.proofs.corridor.Corridor.add_places.Goals as goal

pub loop-place-preserved : goal.loop-place-preserved
loop-place-preserved c =
    let places = c.args.places.now in
    let k = c.loop-place.place-index in
    let before = c.loop-place.invariant in
    let said = c.in_ok-add.ensures in
    let x = slice_index_or c.args.places.now c.loop-place.place-index 0 in
    let Was : Corridor → ℕ → Type 0 = λ (corridor : Corridor) (place : ℕ). (c.args.head.most < rank_at c.args.self.now.near.items place + head_bound c.args.head place) ⊎ IsToDo corridor place in
    let rank : c.rank_of-rank.result ≡ rank_at c.args.self.now.near.items x = c.rank_of-rank.ensures ∙ ap (λ rs. rank_at rs x) c.deref.ensures.value ∙ ap (λ near. rank_at near.items x) before.near in
    record {
      near = c.add.ensures.near ∙ before.near;
      kept = λ v waits. said.kept v (before.kept v waits);
      added = one_more (Was c.loop-place.self) (Was c.add.new.self) places k x c.loop-place-test.true (get_or_default places k 0 x c.loop-place-test.true)
          (λ y was. elim was [ inl far ↦ inl far | inr waits ↦ inr (said.kept _ waits) ]) before.added
          (subst (λ r. (c.args.head.most < r + head_bound c.args.head x) ⊎ IsToDo c.add.new.self x) rank said.added);
    }

pub returns-clause-added : goal.returns-clause-added
returns-clause-added c =
    subst (All (λ (place : ℕ). (c.args.head.most < rank_at c.args.self.now.near.items place + head_bound c.args.head place) ⊎ IsToDo c.loop-place.self place))
    (take_all c.loop-place.place-index c.args.places.now c.loop-place-test.false) c.loop-place.invariant.added
