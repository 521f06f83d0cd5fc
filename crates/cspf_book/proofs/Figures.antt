-- The figures of links. The figure of a link at a priority is its effective bandwidth. This is the
-- least bandwidth that the placements leave at this priority or at a more important one.
use Rattle.std.proofs.Common.{◌≡◌, ℕ, zero, suc, ◌+◌, ◌-◌, ◌<◌, ◌≤◌, List, [], slice_index, refl, ◌∙◌, arith}
use Rattle.cspf_model.specs.declared.link.Link.{Link}
use Rattle.cspf_model.specs.Database.{key_of}
use Rattle.cspf_book.specs.declared.placement.Placement.{Placement}
use Rattle.cspf_book.specs.Placements.{counted}
use Rattle.cspf_book.specs.Effective.{figure, figures, effective_link}
use Rattle.cspf_book.specs.Laws.{FiguresNeverRise, NothingHeldIsBase, least_up_to}

-- The list of figures (effective bandwidths) has the figure of priority p at index p.
pub slice_index-figures : (free : List ℕ) (held : ℕ → ℕ) (p : ℕ) → p < 8
    → slice_index (figures free held) p ≡ figure free held p
slice_index-figures free held zero h = refl
slice_index-figures free held (suc zero) h = refl
slice_index-figures free held (suc (suc zero)) h = refl
slice_index-figures free held (suc (suc (suc zero))) h = refl
slice_index-figures free held (suc (suc (suc (suc zero)))) h = refl
slice_index-figures free held (suc (suc (suc (suc (suc zero))))) h = refl
slice_index-figures free held (suc (suc (suc (suc (suc (suc zero)))))) h = refl
slice_index-figures free held (suc (suc (suc (suc (suc (suc (suc zero))))))) h = refl
slice_index-figures free held (suc (suc (suc (suc (suc (suc (suc (suc p)))))))) h = absurd (omega arith)

-- The figure (effective bandwidth) at a priority is at most the figure at each more important
-- priority.
pub figure-le : (free : List ℕ) (held : ℕ → ℕ) (p d q : ℕ) → q ≡ d + p
    → figure free held q ≤ figure free held p
figure-le free held p zero q e =
    let same : q ≡ p = omega arith in rw same (omega arith)
figure-le free held p (suc d) zero e = absurd (omega arith)
figure-le free held p (suc d) (suc q) e =
    let rest = figure-le free held p d q (omega arith) in omega (arith, rest)

-- The bandwidth of an effective link at a priority is the bandwidth that `figure` computes for this
-- priority.
pub free-effective_link : (placements : List Placement) (l : Link) (p : ℕ) → p < 8
    → slice_index (effective_link placements l).free p ≡ figure l.free (counted placements (key_of l)) p
unfolding effective_link
free-effective_link placements l p h =
    slice_index-figures l.free (counted placements (key_of l)) p h

-- The effective bandwidths of a link never rise from priority 0 to priority 7.
pub figures_fall : FiguresNeverRise
figures_fall placements l p q le small =
    let at_p = free-effective_link placements l p (omega arith) in
    let at_q = free-effective_link placements l q small in
    let falls = figure-le l.free (counted placements (key_of l)) p (q - p) q (omega arith) in
    omega (arith, at_p, at_q, falls)

-- The figure (effective bandwidth) at a priority is at most the bandwidth that is left at this
-- priority.
pub figure-le-left : (free : List ℕ) (held : ℕ → ℕ) (p : ℕ) → figure free held p ≤ slice_index free p - held p
figure-le-left free held zero = omega arith
figure-le-left free held (suc p) = omega arith

-- Let no bandwidth be counted on a link. Its effective bandwidth at priority p is then the least of
-- its bandwidths at the priorities 0 to p.
figure-nothing : (free : List ℕ) (held : ℕ → ℕ) → ((p : ℕ) → held p ≡ 0) → (p : ℕ) → figure free held p ≡ least_up_to free p
figure-nothing free held none zero = let e = none 0 in omega (arith, e)
figure-nothing free held none (suc p) =
    let rest = figure-nothing free held none p in let e = none (suc p) in omega (arith, rest, e)

-- Without placements, the effective bandwidth of a link at priority p is the least of the link's
-- bandwidths at the priorities 0 to p.
pub nothing_held : NothingHeldIsBase
nothing_held l p small =
    free-effective_link [] l p small ∙ figure-nothing l.free (counted [] (key_of l)) (λ q. refl) p
