use Rattle.std.proofs.Common.{[], ◌++◌, filter, map, not, sym, ap, ◌∙◌}
use Rattle.std.proofs.lemmas.Grind.{flat_map-append}
use Rattle.cspf_book.specs.Placements.{key_passed, has_key}
use Rattle.cspf_book.specs.Leading.{put_at}
use Rattle.cspf_book.proofs.ListedPuts.{puts_of, puts-unlisted}
use Rattle.cspf_book.proofs.leading.moved_batch.Goals as goal

pub returns : goal.returns
returns c =
    λ placements kept.
    let base = c.args.base.now in
    let old = c.args.old.now in
    let first = c.in_ok-list_puts.ensures placements kept ∙ ap (λ cs. cs ++ puts_of base placements [] old) c.new-changes.ensures.items ∙ puts-unlisted base placements old in
    ap (λ cs. record { number = c.args.number; changes = cs })
    (c.in_ok-list_puts-2.ensures placements kept
    ∙ ap (λ cs. cs ++ puts_of base placements old c.args.new.now) first
    ∙ sym (flat_map-append (put_at base placements) (map key_passed old) (filter (λ k. not (has_key old k)) (map key_passed c.args.new.now))))
