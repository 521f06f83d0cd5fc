use Rattle.std.proofs.Common.{◌≡◌, ◌+◌, ◌*◌, ◌∙◌, ℕ, List, get_or, ap, sym, subst}
use mathlib.Core.Option.{some}
use lib.ListN.{get_elem?}
use Rattle.cspf_jobs.specs.declared.limits.TheConstants.{MOST_DRAWERS}
use Rattle.cspf_jobs.specs.DrawnNumbers.{AllDrawn, CounterId}
use Rattle.cspf_jobs.specs.EachOnce.{times, once_below}
use Rattle.cspf_jobs.proofs.DrawSteps.{all_once, word_at}
use Rattle.cspf_jobs.proofs.counter.Counter.close.Goals as goal

pub returns : goal.returns
returns c x =
    let final = c.close_with-closed.ensures.values.2 in
    let word : get_or final.0.words 0 0 ≡ c.word-word.result =
    word_at final.0.words c.word-word.result (subst (λ (ws : List ℕ). get_elem? ws 0 ≡ some c.word-word.result) (sym final.2) c.word-word.ensures) in
    let drawn : c.last.inside.seat.me.0.drawn ≡ c.args.last.drawn = ap (λ (l : AllDrawn). l.drawn) c.last.view_is in
    let requests : c.last.inside.requests ≡ c.self.inside.table.shared.key =
    ap (λ (l : AllDrawn). l.counter.requests) c.last.view_is ∙ ap (λ (i : CounterId). i.requests) c.requires ∙ sym (ap (λ (i : CounterId). i.requests) c.self.view_is) ∙ sym c.self.invariant.0 in
    let all = c.last.invariant ∙ ap (λ n. MOST_DRAWERS * (n + 1)) requests in
    ap (times x) (sym drawn) ∙ all_once _ final.0 _ _ final.1.0 final.1.1 all x ∙ ap (λ n. once_below n x) word
