use Rattle.std.proofs.Common.{◌≡◌, ◌-◌, ℕ, ◌<◌, min, slice_index, lit<, ap, ◌∙◌}
use Rattle.cspf_model.specs.Database.{key_of}
use Rattle.cspf_book.specs.Placements.{counted}
use Rattle.cspf_book.proofs.OneLink.{effective_from, eight_figures, ends_from}
use Rattle.cspf_book.proofs.effective_links.effective_link.Goals as goal

pub returns-clause-effective : goal.returns-clause-effective
returns-clause-effective c =
    λ placements kept.
    let l = c.args.link.now in
    let held : (p : ℕ) → p < 8 → slice_index c.sums-sums.result p ≡ counted placements (key_of l) p = λ p small. ap (λ ns. slice_index ns p) c.sums-sums.ensures ∙ kept.at (key_of l) p small in
    effective_from placements l _ _ c.with_free.ensures
    (eight_figures l.free (counted placements (key_of l)) _ _ _ _ _ _ _ _
    (c.left-first.ensures ∙ ap (λ n. slice_index l.free 0 - n) (held 0 (lit< tt)))
    (c.lesser-second.ensures ∙ ap (λ n. min c.left-first.result (slice_index l.free 1 - n)) (held 1 (lit< tt)))
    (c.lesser-third.ensures ∙ ap (λ n. min c.lesser-second.result (slice_index l.free 2 - n)) (held 2 (lit< tt)))
    (c.lesser-fourth.ensures ∙ ap (λ n. min c.lesser-third.result (slice_index l.free 3 - n)) (held 3 (lit< tt)))
    (c.lesser-fifth.ensures ∙ ap (λ n. min c.lesser-fourth.result (slice_index l.free 4 - n)) (held 4 (lit< tt)))
    (c.lesser-sixth.ensures ∙ ap (λ n. min c.lesser-fifth.result (slice_index l.free 5 - n)) (held 5 (lit< tt)))
    (c.lesser-seventh.ensures ∙ ap (λ n. min c.lesser-sixth.result (slice_index l.free 6 - n)) (held 6 (lit< tt)))
    (c.lesser-eighth.ensures ∙ ap (λ n. min c.lesser-seventh.result (slice_index l.free 7 - n)) (held 7 (lit< tt))))

pub returns-clause-ends : goal.returns-clause-ends
returns-clause-ends c = ends_from c.args.link.now _ _ c.with_free.ensures
