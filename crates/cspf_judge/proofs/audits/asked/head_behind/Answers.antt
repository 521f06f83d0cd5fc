use Rattle.std.proofs.Common.{ℕ, List, ◌∙◌, ◌++◌, IfNone, codes, ap, subst}
use Rattle.cspf_ero.specs.ReplyHead.{HasNoHead}
use Rattle.cspf_judge.proofs.audits.asked.head_behind.Goals as goal

pub returns-clause-none : goal.returns-clause-none
returns-clause-none c =
    let whole =
    c.deref.ensures.value ∙ c.in_ok-extend_from_slice-2.ensures.items
    ∙ ap (λ front. front ++ c.args.behind.now) (c.in_ok-extend_from_slice.ensures.items ∙ ap (λ front. front ++ codes "ask") c.new-told.ensures.items) in
    subst (λ (text : List ℕ). IfNone c.reply_head.result (HasNoHead text)) whole c.reply_head.ensures.none
