-- Changes that are made part by part.
use Rattle.std.proofs.Common.{◌≡◌, ℕ, List, take, drop, sym, ap, ◌∙◌}
use Rattle.std.proofs.lemmas.List.{take-append-drop}
use Rattle.cspf_model.specs.declared.batch.Change.{Change}
use Rattle.cspf_model.specs.Database.{Database}
use Rattle.cspf_model.specs.Changes.{after_changes}
use Rattle.cspf_model.proofs.Databases.LastChanges.{after_changes-append}

-- If the first `n` changes are made, the other changes make the same database as all changes.
pub in_parts : (d e t : Database) (rest front behind : List Change) (n : ℕ) → front ≡ take n rest → behind ≡ drop n rest → e ≡ after_changes d front
    → after_changes d rest ≡ t → after_changes e behind ≡ t
in_parts d e t rest front behind n first last made whole =
    rw (made, first, last)
    (sym (after_changes-append d (take n rest) (drop n rest)) ∙ ap (after_changes d) (take-append-drop n rest) ∙ whole)
