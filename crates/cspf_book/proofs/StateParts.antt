-- States of a book with the same parts are equal.
use Rattle.std.proofs.Common.{◌≡◌, ℕ, List}
use Rattle.cspf_model.specs.Database.{Database}
use Rattle.cspf_book.specs.declared.placement.Placement.{Placement}
use Rattle.cspf_book.specs.BookState.{BookState}

-- the state with these parts
abbrev pub state_of : Database → ℕ → List Placement → BookState
state_of base version placements = record { base = base; version = version; placements = placements }

-- States with the same base, the same version and equal placements are equal.
pub same_state : (base : Database) (version : ℕ) (before after : List Placement) → before ≡ after
    → state_of base version before ≡ state_of base version after
same_state base version before after e = λ i. record { base = base; version = version; placements = e i }
