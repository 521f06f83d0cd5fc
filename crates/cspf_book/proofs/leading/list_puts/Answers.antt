use Rattle.std.proofs.Common.{◌++◌, take, sym, ap, ◌∙◌, arith}
use Rattle.std.proofs.lemmas.List.{take_all, append_assoc}
use Rattle.cspf_book.specs.Leading.{put_at}
use Rattle.cspf_book.proofs.ListedPuts.{puts_of, puts_listed, puts_unlisted}
use Rattle.cspf_book.proofs.leading.list_puts.Goals as goal
use Rattle.cspf_book.proofs.leading.list_puts.Goals.{then-not-has_key+in_ok-list_put, else-not-has_key}

pub loop-link-preserved : goal.loop-link-preserved
loop-link-preserved c =
    λ placements kept.
    let base = c.args.base.now in
    let before = c.args.list.now.items in
    let listed = c.args.listed.now in
    let links = c.args.links.now in
    let i = c.loop-link.link-index in
    let l = c.link-item.result in
    elim c.if-not-has_key.branch [
      | then-not-has_key+in_ok-list_put w ↦
          ap (λ v. v.items) w.list-is
          ∙ w.in_ok-list_put.ensures placements kept
          ∙ ap (λ cs. cs ++ put_at base placements (l.from, l.local)) (c.loop-link.invariant placements kept)
          ∙ append_assoc before (puts_of base placements listed (take i links)) (put_at base placements (l.from, l.local))
          ∙ ap (λ cs. before ++ cs) (puts_unlisted base placements listed links i l c.loop-link-test.true c.link-item.is (sym c.has_key.ensures ∙ w.if-not-has_key.true))
      | else-not-has_key w ↦
          ap (λ v. v.items) w.list-is
          ∙ c.loop-link.invariant placements kept
          ∙ ap (λ cs. before ++ cs) (puts_listed base placements listed links i l c.loop-link-test.true c.link-item.is (sym c.has_key.ensures ∙ w.if-not-has_key.false))
    ]

pub returns : goal.returns
returns c =
    λ placements kept.
    c.loop-link.invariant placements kept
    ∙ ap (λ ls. c.args.list.now.items ++ puts_of c.args.base.now placements c.args.listed.now ls) (take_all c.loop-link.link-index c.args.links.now (omega arith))
