use Rattle.std.proofs.Common.{[], ◌∷◌, ◌++◌, remove, sym, ap, subst, ◌∙◌}
use Rattle.cspf_book.specs.Effective.{effective}
use Rattle.cspf_book.specs.Kept.{IsCountOf}
use Rattle.cspf_book.proofs.Currents.{alike_current, current_with}
use Rattle.cspf_book.proofs.moves.Held.put_in.Goals as goal

pub refresh-requires-clause-alike : goal.refresh-requires-clause-alike
refresh-requires-clause-alike c = alike_current c.args.base.now (remove c.args.placements.now.items c.args.at) c.args.self.now.effective c.requires.current

pub returns-clause-counted : goal.returns-clause-counted
returns-clause-counted c =
    subst (λ k. IsCountOf k c.push_reserved.new.self.items) (sym c.refresh.ensures.counts)
    (subst (IsCountOf c.args.self.now.counts) (sym (c.push_reserved.ensures.items ∙ ap (λ qs. qs ++ c.args.placement ∷ []) c.take_out.ensures.items)) c.requires.counted)

pub returns-clause-current : goal.returns-clause-current
returns-clause-current c =
    let ps = remove c.args.placements.now.items c.args.at in
    let p = c.args.placement in
    c.refresh.ensures.current (ps ++ p ∷ []) c.requires.counted
    (current_with c.args.base.now ps p c.args.self.now.effective c.within_limits.ensures.keyed c.requires.current)
    ∙ ap (effective c.args.base.now) (sym (c.push_reserved.ensures.items ∙ ap (λ qs. qs ++ p ∷ []) c.take_out.ensures.items))
