use Rattle.std.proofs.Common.{◌≡◌, ℕ, List, map, ap, subst, ◌∙◌}
use Rattle.std.proofs.lemmas.Result.{IfOk-weaker}
use Rattle.cspf_model.specs.declared.batch.Change.{Change}
use Rattle.cspf_model.specs.Changes.{after_changes}
use Rattle.cspf_book.specs.LostRoutes.{AreLost}
use Rattle.cspf_book.specs.Following.{AreRanksOfLost}
use Rattle.cspf_book.proofs.LostRanks.{lost_by_rank}
use Rattle.cspf_book.proofs.lost.lost.Goals as goal

pub returns : goal.returns
returns c =
    let before = c.args.base.now in
    let after = after_changes before c.args.changes.now in
    IfOk-weaker c.ids_of.result (λ ids. ids.items ≡ map (λ (r : ℕ × ℕ). r.1) c.deref.result.now) (λ ids. AreLost before after c.args.placements.now ids.items)
    (λ ids are. lost_by_rank before after c.args.placements.now c.in_ok-ranks.ranks.items c.sort_unstable.new.self.items ids.items
    (subst (λ (cs : List Change). AreRanksOfLost before (after_changes before cs) c.args.placements.now c.in_ok-ranks.ranks.items) c.in_ok-changed.ensures c.in_ok-ranks.ensures)
    c.sort_unstable.ensures.permutation c.sort_unstable.ensures.sorted (are ∙ ap (map (λ (r : ℕ × ℕ). r.1)) c.deref.ensures.value))
    c.ids_of.ensures
