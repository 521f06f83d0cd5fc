-- If an error stops the writing of texts, a prefix of these texts was written.
use Rattle.std.proofs.Common.{◌≡◌, ℕ, ◌+◌, ◌<◌, Option, List, Result, Ok, Err, OnErr, [], ◌∷◌, ◌++◌, length, take, drop, get_or, refl, sym, ap, subst, ◌∙◌, append_assoc}
use Rattle.std.proofs.KnownBytes.{Appends-nil, Appends-trans}
use Rattle.std.proofs.lemmas.List.{take-append-drop, drop_more}
use Rattle.std.proofs.lemmas.Grind.{flat_map-append}
use Rattle.std.specs.Io.KnownBytes.{Appends}
use Rattle.std.specs.List.{flat_map}
use Rattle.cspf_judge.specs.EarlyEnds.{WritesFront}

-- a true fact is also true if the result is an error
pub at_error : {T E : Type 0} (P : Type 0) (r : Result T E) → P → OnErr r P
at_error P (Ok x) holds = tt
at_error P (Err e) holds = holds

pub no_front : (old : Option (List ℕ)) (text : List ℕ) → WritesFront old old text
no_front old text = record { front = []; rest = text; split = refl; written = Appends-nil old }

pub cut_front : (old new : Option (List ℕ)) (text : List ℕ) (n : ℕ) → Appends old new (take n text) → WritesFront old new text
cut_front old new text n written = record { front = take n text; rest = drop n text; split = sym (take-append-drop n text); written = written }

-- a written prefix of a text is also a prefix of each longer text that begins with this text
pub front_before : (old new : Option (List ℕ)) (text more : List ℕ) → WritesFront old new text → WritesFront old new (text ++ more)
front_before old new text more begun = record {
  front = begun.front;
  rest = begun.rest ++ more;
  split = ap (λ t. t ++ more) begun.split ∙ append_assoc begun.front begun.rest more;
  written = begun.written;
}

-- if a whole text was written, and then a prefix of another text, a prefix of their concatenation
-- was written
pub front_behind : (old mid new : Option (List ℕ)) (whole text : List ℕ) → Appends old mid whole → WritesFront mid new text → WritesFront old new (whole ++ text)
front_behind old mid new whole text before begun = record {
  front = whole ++ begun.front;
  rest = begun.rest;
  split = ap (λ t. whole ++ t) begun.split ∙ sym (append_assoc whole begun.front begun.rest);
  written = Appends-trans old mid new whole begun.front before begun.written;
}

-- The texts of the first elements of a list were written, and then a prefix of the next element's
-- text. Then a prefix of the texts of the whole list was written.
pub front_in_list : {X : Type 0} (f : X → List ℕ) (xs : List X) (i : ℕ) (x d : X) (old mid new : Option (List ℕ)) → i < length xs → x ≡ get_or xs i d
    → Appends old mid (flat_map f (take i xs)) → WritesFront mid new (f x) → WritesFront old new (flat_map f xs)
front_in_list f xs i x d old mid new within is_next before begun =
    let after = drop (i + 1) xs in
    let next : drop i xs ≡ x ∷ after = drop_more xs i d within ∙ ap (λ n. n ∷ after) (sym is_next) in
    let whole : flat_map f xs ≡ flat_map f (take i xs) ++ (f x ++ flat_map f after) =
    ap (flat_map f) (sym (take-append-drop i xs)) ∙ flat_map-append f (take i xs) (drop i xs) ∙ ap (λ r. flat_map f (take i xs) ++ flat_map f r) next in
    subst (WritesFront old new) (sym whole)
    (front_behind old mid new (flat_map f (take i xs)) (f x ++ flat_map f after) before (front_before mid new (f x) (flat_map f after) begun))
