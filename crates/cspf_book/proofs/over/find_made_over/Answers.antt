use Rattle.std.proofs.Common.{◌++◌, None, Some, take, sym, ap, ◌∙◌, append-nil, arith}
use Rattle.std.proofs.lemmas.List.{take_all}
use Rattle.cspf_model.specs.Database.{key_of}
use Rattle.cspf_book.specs.Placements.{key_passed, has_key}
use Rattle.cspf_book.specs.OverLinks.{made_over_on}
use Rattle.cspf_book.proofs.MadeOver.{entries_of, entries_of-more, has_key-at}
use Rattle.cspf_book.proofs.over.find_made_over.Goals as goal
use Rattle.cspf_book.proofs.over.find_made_over.Goals.{in-Some+in_ok-list_made_over-in-Some, in-None}

pub list_made_over-requires : goal.list_made_over-requires
list_made_over-requires c =
    let links = c.links-link-items.result.now in
    let l = c.link-item.result in
    let keyed = c.within_limits.ensures.keyed (key_passed l) c.in-Some.found (sym c.find.ensures ∙ c.in-Some.is) in
    ap (λ ls. has_key ls (key_of c.in-Some.found)) (sym c.links-link-items.ensures) ∙ ap (has_key links) keyed
    ∙ has_key-at links c.loop-link.link-index c.loop-link-test.true l c.link-item.is

pub loop-link-preserved : goal.loop-link-preserved
loop-link-preserved c =
    λ placements kept.
    let base = c.args.base.now in
    let p = c.args.placement.now in
    let links = c.links-link-items.result.now in
    let i = c.loop-link.link-index in
    let l = c.link-item.result in
    elim c.match-find.branch [
      | in-Some+in_ok-list_made_over-in-Some w ↦
          ap (λ v. v.items) w.list-is
          ∙ w.in_ok-list_made_over-in-Some.ensures placements kept
          ∙ ap (λ es. es ++ made_over_on placements p (Some w.in-Some.found)) (c.loop-link.invariant placements kept)
          ∙ entries_of-more links i c.loop-link-test.true l c.link-item.is base placements p (Some w.in-Some.found) (sym c.find.ensures ∙ w.in-Some.is)
      | in-None w ↦
          ap (λ v. v.items) w.list-is
          ∙ c.loop-link.invariant placements kept
          ∙ sym (append-nil (entries_of base placements p (take i links)))
          ∙ entries_of-more links i c.loop-link-test.true l c.link-item.is base placements p None (sym c.find.ensures ∙ w.in-None.is)
    ]

pub returns : goal.returns
returns c =
    λ placements kept.
    c.loop-link.invariant placements kept
    ∙ ap (entries_of c.args.base.now placements c.args.placement.now) (take_all c.loop-link.link-index c.links-link-items.result.now (omega arith) ∙ c.links-link-items.ensures)
