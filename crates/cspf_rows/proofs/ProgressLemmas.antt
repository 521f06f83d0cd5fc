-- What is true of the records that were read from a stream, after one more record is read, and at
-- the end of the stream.
use Rattle.std.proofs.Common.{◌≡◌, ℕ, ◌+◌, ◌<◌, true, false, List, [], ◌∷◌, ◌++◌, length, Option, Some, None, IfSome, refl, sym, ap, ◌∙◌, append_assoc, append-nil, arith}
use Rattle.std.proofs.lemmas.List.{length-append}
use Rattle.cspf_rows.specs.Records.{Takes}
use Rattle.cspf_rows.specs.Progress.{AreSplit, HasSeen}

abbrev Records : Type 0
Records = List (List (List ℕ))

split_start : (all : Option Records) → AreSplit all all []
split_start None = tt
split_start (Some all) = refl

pub sees_none : (Holds : List (List (List ℕ)) → Type 0) (all : Option (List (List (List ℕ)))) → Holds [] → HasSeen Holds all all 0
sees_none Holds all holds = record { seen = []; counted = refl; holds = holds; split = split_start all }

split_next : (all left next : Option Records) (seen : Records) (fields : List (List ℕ)) → AreSplit all left seen → Takes left next true fields → AreSplit all next (seen ++ (fields ∷ []))
split_next None left next seen fields split takes = tt
split_next (Some all) None next seen fields split takes = absurd split
split_next (Some all) (Some left) None seen fields split takes = absurd takes
split_next (Some all) (Some left) (Some rest) seen fields split takes = split ∙ rw takes (sym (append_assoc seen (fields ∷ []) rest))

module _ (Holds : List (List (List ℕ)) → Type 0) (all left next : Option (List (List (List ℕ)))) (count : ℕ) (fields : List (List ℕ)) (h : HasSeen Holds all left count) where
  -- Let `Holds` be true of the first `count` records, and let one more record be read. If `Holds`
  -- for these records implies `More` for them and the new record, `More` is true of all records
  -- that were read.
  pub sees_next : (More : List (List (List ℕ)) → Type 0) → Takes left next true fields
      → ((seen : List (List (List ℕ))) → length seen ≡ count → Holds seen → More (seen ++ (fields ∷ []))) → HasSeen More all next (count + 1)
  sees_next More takes more = record {
    seen = h.seen ++ (fields ∷ []);
    counted = length-append h.seen (fields ∷ []) ∙ ap (λ n. n + 1) h.counted;
    holds = more h.seen h.counted h.holds;
    split = split_next all left next h.seen fields h.split takes;
  }

  -- if no record is left, `Holds` is true of all records, and there are `count` records
  pub sees_all : Takes left next false fields → IfSome all (λ rows. Holds rows × (length rows ≡ count))
  sees_all takes = go all left h.split takes
    where
      go : (all left : Option Records) → AreSplit all left h.seen → Takes left next false fields → IfSome all (λ rows. Holds rows × (length rows ≡ count))
      go None left split takes = tt
      go (Some all) None split takes = absurd split
      go (Some all) (Some left) split takes =
          let whole : all ≡ h.seen = split ∙ rw takes (append-nil h.seen) in
          rw whole (h.holds, h.counted)

  -- If there is a next record, the stream has the records that were read, then this record, and
  -- then the records after it.
  pub sees_another : Takes left next true fields
      → IfSome all (λ rows. (before : List (List (List ℕ))) × (after : List (List (List ℕ))) × (rows ≡ before ++ (fields ∷ after)) × Holds before × (length before ≡ count))
  sees_another takes = go all left next h.split takes
    where
      go : (all left next : Option Records) → AreSplit all left h.seen → Takes left next true fields
          → IfSome all (λ rows. (before : Records) × (after : Records) × (rows ≡ before ++ (fields ∷ after)) × Holds before × (length before ≡ count))
      go None left next split takes = tt
      go (Some all) None next split takes = absurd split
      go (Some all) (Some left) None split takes = absurd takes
      go (Some all) (Some left) (Some rest) split takes = (h.seen, rest, split ∙ rw takes refl, h.holds, h.counted)

-- if `P` implies `Q`, and `P` holds for the value that an option may have, `Q` holds for this value
-- too
pub if_some_more : {T : Type 0} {P Q : T → Type 0} (o : Option T) → ((x : T) → P x → Q x) → IfSome o P → IfSome o Q
if_some_more None more h = tt
if_some_more (Some x) more h = more x h

longer : (rows before after : Records) (fields : List (List ℕ)) (count : ℕ) → rows ≡ before ++ (fields ∷ after) → length before ≡ count → count < length rows
longer rows before after fields count split counted = omega (arith, ap length split, length-append before (fields ∷ after))

-- if one more record is read after `count` records, the stream has more than `count` records
pub sees_more : (Holds : List (List (List ℕ)) → Type 0) (all left next : Option (List (List (List ℕ)))) (count : ℕ) (fields : List (List ℕ))
    → HasSeen Holds all left count → Takes left next true fields → IfSome all (λ rows. count < length rows)
sees_more Holds all left next count fields h takes =
    if_some_more all (λ rows more. longer rows more.0 more.1 fields count more.2 more.4) (sees_another Holds all left next count fields h takes)
