-- If all items of a vector are written as one slice, the vector has the items of this slice.
use Rattle.std.proofs.Common.{◌≡◌, ℕ, ◌++◌, List, length, take, drop, ap, ◌∙◌, arith}
use Rattle.std.proofs.lemmas.List.{drop_all, take_all, append-nil}

pub written_back : {A : Type 0} (len : ℕ) (new lent items : List A) → length new ≡ length lent → lent ≡ items → len ≡ length items
    → take len (new ++ drop (length new) items) ≡ new
written_back {A} len new lent items same is long =
    let all : length new ≡ length items = same ∙ ap (λ (xs : List A). length xs) is in
    rw (drop_all (length new) items (omega (arith, all)), append-nil new) (take_all len new (omega (arith, all, long)))
