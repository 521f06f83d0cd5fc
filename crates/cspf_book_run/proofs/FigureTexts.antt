-- The text of eight bandwidths.
use Rattle.std.proofs.Common.{◌≡◌, ℕ, List, [], ◌∷◌, ◌++◌, length, slice_index, codes, append_assoc, arith}
use Rattle.std.specs.Fmt.{decimal}
use Rattle.cspf_book_run.specs.PlacementLines.{figures_text}

-- Eight bandwidths are written one after the other, with commas between them.
pub eight_figures : (xs : List ℕ) → length xs ≡ 8
    → figures_text xs ≡ decimal (slice_index xs 0) ++ codes "," ++ decimal (slice_index xs 1) ++ codes "," ++ decimal (slice_index xs 2) ++ codes ","
    ++ decimal (slice_index xs 3) ++ codes "," ++ decimal (slice_index xs 4) ++ codes "," ++ decimal (slice_index xs 5) ++ codes ","
    ++ decimal (slice_index xs 6) ++ codes "," ++ decimal (slice_index xs 7)
eight_figures (a ∷ b ∷ c ∷ d ∷ e ∷ f ∷ g ∷ h ∷ []) eight = simp append_assoc
eight_figures other eight = absurd (omega arith)
