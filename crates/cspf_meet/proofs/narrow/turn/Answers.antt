use Rattle.std.proofs.Common.{◌≡◌, ◌<◌, inl, inr, ℕ, List, length, refl, sym, ap, subst, ◌∙◌, arith}
use Rattle.std.proofs.lemmas.List.{get_or_read}
use Rattle.cspf_meet.specs.declared.corridor.Corridor.{Corridor}
use Rattle.cspf_meet.specs.Corridors.{AreNarrowed}
use Rattle.cspf_meet.specs.Labels.{rank_at}
use Rattle.cspf_meet.proofs.Corridors.{first_or_left}
use Rattle.cspf_meet.proofs.Falling.{corridor_on}
use Rattle.cspf_meet.proofs.narrow.turn.Goals as goal

pub returns-clause-corridor : goal.returns-clause-corridor
returns-clause-corridor c =
    let d = c.args.query.table.now in
    let q = c.args.query.request.now in
    let old = c.args.corridor.now in
    let mid : Corridor = record c.args.corridor.now { todo = c.pop_front.new.self } in
    let place = c.from-place.result in
    let within : c.from-place.result < length c.args.corridor.now.near.items =
    omega (arith, ap (λ (rs : List ℕ). length rs) c.routers.ensures.all, c.requires.query.listed.few, c.args.corridor.now.many, c.if-place-routers.false) in
    let base : c.index-base.result.now ≡ rank_at c.args.corridor.now.near.items c.from-place.result = get_or_read old.near.items place c.index-base.result.now within c.index-base.ensures 0 in
    corridor_on d q c.args.head old mid c.look.new.corridor place refl
    (λ v has. elim (first_or_left c.in-Some.place c.pop_front.new.self.items c.args.corridor.now.todo.items c.in-Some.ensures.items v has) [
      | inl here ↦ inl (here ∙ sym c.from-place.ensures)
      | inr left ↦ inr left
    ])
    c.in_ok-look.ensures.falls
    (λ same. inl (subst (λ r. AreNarrowed c.args.query.table.now c.args.query.request.now c.args.head c.look.new.corridor.near.items r c.from-place.result) (base ∙ sym same) c.in_ok-look.ensures.passed))
    c.requires.corridor
