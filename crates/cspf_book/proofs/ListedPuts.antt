-- How the changes of a batch are listed one after the other.
use Rattle.std.proofs.Common.{◌≡◌, ℕ, ◌+◌, ◌<◌, true, false, not, cond, List, [], ◌∷◌, ◌++◌, filter, length, map, take, slice_index_or, refl, sym, ap, ◌∙◌}
use Rattle.std.specs.List.{flat_map}
use Rattle.std.proofs.lemmas.List.{take_more, map-append, append-nil}
use Rattle.std.proofs.lemmas.List.Elements.{filter-append}
use Rattle.std.proofs.lemmas.Grind.{flat_map-append}
use Rattle.cspf_model.specs.declared.batch.Change.{Change}
use Rattle.cspf_model.specs.Database.{Database, Key}
use Rattle.cspf_book.specs.declared.path.Passed.{Passed}
use Rattle.cspf_book.specs.declared.placement.Placement.{Placement}
use Rattle.cspf_book.specs.Placements.{key_passed, has_key}
use Rattle.cspf_book.specs.Leading.{put_at}

-- One more change is mapped.
pub mapped_more : (f : Change → Change) (cs : List Change) (i : ℕ) (c : Change) → i < length cs → c ≡ slice_index_or cs i c
    → map f (take i cs) ++ f c ∷ [] ≡ map f (take (i + 1) cs)
mapped_more f cs i c within is =
    sym (ap (map f) (take_more cs i c within ∙ ap (λ (b : Change). take i cs ++ b ∷ []) (sym is)) ∙ map-append f (take i cs) (c ∷ []))

-- the puts at the keys of the links that aren't listed
abbrev pub puts_of : Database → List Placement → List Passed → List Passed → List Change
puts_of base placements listed links = flat_map (put_at base placements) (filter (λ k. not (has_key listed k)) (map key_passed links))

-- If nothing is listed, the puts are those at the keys of all links.
unlisted_all : (keys : List Key) → filter (λ k. not (has_key [] k)) keys ≡ keys
unlisted_all [] = refl
unlisted_all (k ∷ keys) = ap (λ ks. k ∷ ks) (unlisted_all keys)

pub puts-unlisted : (base : Database) (placements : List Placement) (links : List Passed)
    → puts_of base placements [] links ≡ flat_map (put_at base placements) (map key_passed links)
puts-unlisted base placements links = ap (flat_map (put_at base placements)) (unlisted_all (map key_passed links))

-- In this module, one more link is looked at.
module _ (base : Database) (placements : List Placement) (listed links : List Passed) (i : ℕ) (l : Passed) (within : i < length links) (is : l ≡ slice_index_or links i l) where
  puts-more : puts_of base placements listed (take (i + 1) links)
      ≡ puts_of base placements listed (take i links)
      ++ flat_map (put_at base placements) (cond (not (has_key listed (key_passed l))) (key_passed l ∷ []) [])
  puts-more =
      ap (puts_of base placements listed) (take_more links i l within ∙ ap (λ (x : Passed). take i links ++ x ∷ []) (sym is))
      ∙ ap (λ ks. flat_map (put_at base placements) (filter (λ k. not (has_key listed k)) ks)) (map-append key_passed (take i links) (l ∷ []))
      ∙ ap (flat_map (put_at base placements)) (filter-append (λ k. not (has_key listed k)) (map key_passed (take i links)) (key_passed l ∷ []))
      ∙ flat_map-append (put_at base placements) (filter (λ k. not (has_key listed k)) (map key_passed (take i links))) (filter (λ k. not (has_key listed k)) (key_passed l ∷ []))

  pub puts_listed : has_key listed (key_passed l) ≡ true → puts_of base placements listed (take i links) ≡ puts_of base placements listed (take (i + 1) links)
  puts_listed had =
      sym (puts-more ∙ ap (λ b. puts_of base placements listed (take i links) ++ flat_map (put_at base placements) (cond (not b) (key_passed l ∷ []) [])) had
      ∙ append-nil (puts_of base placements listed (take i links)))

  pub puts_unlisted : has_key listed (key_passed l) ≡ false
      → puts_of base placements listed (take i links) ++ put_at base placements (key_passed l) ≡ puts_of base placements listed (take (i + 1) links)
  puts_unlisted off =
      sym (puts-more ∙ ap (λ b. puts_of base placements listed (take i links) ++ flat_map (put_at base placements) (cond (not b) (key_passed l ∷ []) [])) off
      ∙ ap (λ cs. puts_of base placements listed (take i links) ++ cs) (append-nil (put_at base placements (key_passed l))))
