use Rattle.std.proofs.Common.{◌≤◌, ◌<◌, length, set, refl, sym, ap, subst, arith}
use Rattle.std.specs.List.{Contains}
use Rattle.std.proofs.lemmas.List.Elements.{Contains-append_left, Contains-push}
use Rattle.cspf_meet.specs.Corridors.{IsToDo}
use Rattle.cspf_meet.specs.Labels.{rank_at}
use Rattle.cspf_meet.proofs.Waiting.{falls_at}
use Rattle.cspf_meet.proofs.corridor.Corridor.lower.Goals as goal

pub returns-clause-falls : goal.returns-clause-falls
returns-clause-falls c =
    let near = c.args.self.now.near.items in
    let at = c.from.result in
    let within : c.from.result < length c.args.self.now.near.items = omega (arith, c.from.ensures, c.requires.within, c.args.self.now.many) in
    let less : c.args.rank ≤ rank_at c.args.self.now.near.items c.from.result = omega (arith, c.requires.less, ap (rank_at c.args.self.now.near.items) c.from.ensures) in
    let items = c.in_ok-push_back.ensures.items in
    falls_at near (set near at c.args.rank) (IsToDo c.args.self.now) _ at c.args.rank within refl less
    (rw items (subst (Contains _) (sym c.from.ensures) (Contains-push c.args.self.now.todo.items c.args.place)))
    (λ v ne kept before. rw items (Contains-append_left c.args.self.now.todo.items _ v before))
