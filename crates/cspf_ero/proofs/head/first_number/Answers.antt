use Rattle.std.proofs.Common.{sym, ◌∙◌, rules}
use Rattle.cspf_ero.proofs.HeadReading.{one_number, space_behind, number_before, cut_at_space}
use Rattle.cspf_ero.proofs.head.first_number.Goals as goal

pub returns-in_err-at-clause-none : goal.returns-in_err-at-clause-none
returns-in_err-at-clause-none c =
    rw c.from_residual.ensures
    (λ n rest small whole. let there = space_behind n c.args.text.now rest small whole in let lost = c.in_err-at.ensures in cc)

pub returns-in_err-n-clause-none : goal.returns-in_err-n-clause-none
returns-in_err-n-clause-none c =
    rw c.from_residual-in_err-n.ensures
    (λ n rest small whole. c.in_err-n.ensures.none n small (number_before n c.args.text.now rest small whole c.in_ok-at.at (sym c.in_ok-at.ensures)))

pub returns-clause-whole : goal.returns-clause-whole
returns-clause-whole c =
    let whole = cut_at_space c.args.text.now c.in_ok-at.at (sym c.in_ok-at.ensures) in
    rw c.in_ok-n.ensures.some at whole

pub returns-clause-only : goal.returns-clause-only
returns-clause-only c =
    let parts = cut_at_space c.args.text.now c.in_ok-at.at (sym c.in_ok-at.ensures) in
    λ n rest small whole.
    one_number n c.in_ok-n.n rest _ small (search rules) (sym whole ∙ rw c.in_ok-n.ensures.some at parts)
