-- The number of changes and the number of batches, if each batch except the last one is full. A
-- full batch has 4,096 changes.
use Rattle.std.proofs.Common.{◌≡◌, ◌≢◌, ℕ, ◌+◌, ◌*◌, ◌<◌, ◌≤◌, ◌==◌, false, min, List, [], ◌∷◌, ◌++◌, length, take, drop, sym, ap, ◌∙◌, arith, length-append, length-take, length-drop, append_assoc}
use Rattle.std.specs.List.{AllByRecursion}
use Rattle.std.proofs.lemmas.List.{append-nil, take-append-drop}
use Rattle.cspf_model.specs.declared.batch.Change.{Change}
use Rattle.cspf_model.specs.declared.limits.TheConstants.{MOST_CHANGES}
use Rattle.cspf_model.specs.Numbered.{NumberedChanges, AreNumberedFrom}
use Rattle.cspf_model.specs.Changes.{changes_of}
use Rattle.cspf_snapshot.specs.Snapshots.{AreFullButLast}

-- each batch has 4,096 changes
abbrev pub AreFull : List NumberedChanges → Type 0
AreFull batches = AllByRecursion (λ b. length b.changes ≡ MOST_CHANGES) batches

-- each batch has at most 4,096 changes
abbrev pub AreShort : List NumberedChanges → Type 0
AreShort batches = AllByRecursion (λ b. length b.changes ≤ MOST_CHANGES) batches

-- if a batch is appended to a list of batches, its changes follow the changes of the earlier
-- batches
pub changes_of-push : (batches : List NumberedChanges) (b : NumberedChanges)
    → changes_of (batches ++ b ∷ []) ≡ changes_of batches ++ b.changes
changes_of-push [] b = append-nil b.changes
changes_of-push (a ∷ batches) b =
    ap (λ cs. a.changes ++ cs) (changes_of-push batches b)
    ∙ sym (append_assoc a.changes (changes_of batches) b.changes)

-- if a batch with the next number is appended to consecutively numbered batches, all batches are
-- numbered consecutively
pub numbered_push : (first : ℕ) (batches : List NumberedChanges) (b : NumberedChanges)
    → AreNumberedFrom first batches → b.number ≡ first + length batches
    → AreNumberedFrom first (batches ++ b ∷ [])
numbered_push first [] b numbers next = (omega (arith, next), tt)
numbered_push first (a ∷ batches) b numbers next =
    (numbers.0, numbered_push (first + 1) batches b numbers.1 (omega (arith, next)))

-- if a full batch is appended to full batches, all batches are full
pub full_push : (batches : List NumberedChanges) (b : NumberedChanges) → AreFull batches
    → length b.changes ≡ MOST_CHANGES → AreFull (batches ++ b ∷ [])
full_push [] b full more = (more, tt)
full_push (a ∷ batches) b full more = (full.0, full_push batches b full.1 more)

-- if a batch of 1 to 4,096 changes is appended to full batches, all batches except the last one are
-- full
pub full_but_last_push : (batches : List NumberedChanges) (b : NumberedChanges) → AreFull batches
    → 0 < length b.changes → length b.changes ≤ MOST_CHANGES → AreFullButLast (batches ++ b ∷ [])
full_but_last_push [] b full some short = (some, short)
full_but_last_push (a ∷ []) b full some short = (full.0, (some, short))
full_but_last_push (a ∷ c ∷ batches) b full some short =
    (full.0, full_but_last_push (c ∷ batches) b full.1 some short)

-- if all batches except the last one are full, no batch has more than 4,096 changes
pub short_each : (batches : List NumberedChanges) → AreFullButLast batches → AreShort batches
short_each [] full = tt
short_each (b ∷ []) full = (full.1, tt)
short_each (b ∷ c ∷ batches) full = (omega (arith, full.0), short_each (c ∷ batches) full.1)

-- the number of all changes in full batches is 4,096 times the number of batches
pub length-changes_of-full : (batches : List NumberedChanges) → AreFull batches
    → length (changes_of batches) ≡ length batches * 4096
length-changes_of-full [] full = omega arith
length-changes_of-full (b ∷ batches) full =
    omega (arith, length-append b.changes (changes_of batches), full.0, length-changes_of-full batches full.1)

-- if all batches except the last one are full, 4,096 times the number of batches is less than the
-- number of all changes plus 4,096
pub length-changes_of-lt : (batches : List NumberedChanges) → AreFullButLast batches
    → length batches * 4096 < length (changes_of batches) + 4096
length-changes_of-lt [] full = omega arith
length-changes_of-lt (b ∷ []) full =
    omega (arith, length-append b.changes [], full.0)
length-changes_of-lt (b ∷ c ∷ batches) full =
    omega (arith, length-append b.changes (changes_of (c ∷ batches)), full.0, length-changes_of-lt (c ∷ batches) full.1)

-- In this module, the list `rest` of changes isn't empty.
module _ (rest : List Change) (is_some : false ≡ (length rest == 0)) where
  -- the list `rest` has at least one change
  some_left : 0 < length rest
  some_left = some rest is_some
    where
      some : (cs : List Change) → false ≡ (length cs == 0) → 0 < length cs
      some [] none = absurd (cc)
      some (c ∷ cs) any = omega arith

  -- `rest` isn't the empty list
  not_empty : rest ≢ []
  not_empty none =
      let zero_left : length rest ≡ 0 = ap length none in omega (arith, zero_left, some_left)

-- In this module, the changes are cut into batches. `batches` are the batches so far, and `rest`
-- are the changes that are left. The next batch, `b`, has the first changes of `rest`, and `behind`
-- has the later changes of `rest`.
module _ (changes : List Change) (batches : List NumberedChanges) (rest : List Change) (all : changes_of batches ++ rest ≡ changes) (whole : rest ≢ [] → AreFull batches) (is_some : false ≡ (length rest == 0)) where
  -- 4,096 times the number of batches so far is less than the number of all changes, because these
  -- batches are full and `rest` isn't empty
  pub few_so_far : length batches * 4096 < length changes
  few_so_far =
      omega (arith, ap length all, length-append (changes_of batches) rest, length-changes_of-full batches (whole (not_empty rest is_some)), some_left rest is_some)

  module _ (b : NumberedChanges) (behind : List Change) (front : b.changes ≡ take (min (length rest) 4096) rest) (back : behind ≡ drop (min (length rest) 4096) rest) where
    -- the batch `b` has all changes of `rest` if `rest` has at most 4,096 changes, and otherwise it
    -- has 4,096 changes
    size : length b.changes ≡ min (length rest) 4096
    size = omega (arith, ap length front, length-take (min (length rest) 4096) rest)

    -- the changes of all batches, including `b`, followed by the changes `behind`, are all changes
    pub all_next : changes_of (batches ++ b ∷ []) ++ behind ≡ changes
    all_next =
        ap (λ cs. cs ++ behind) (changes_of-push batches b)
        ∙ append_assoc (changes_of batches) b.changes behind
        ∙ (λ i. changes_of batches ++ (front i ++ back i))
        ∙ ap (λ cs. changes_of batches ++ cs) (take-append-drop (min (length rest) 4096) rest)
        ∙ all

    -- all batches are full, except perhaps the last batch `b`, which has 1 to 4,096 changes
    pub full_next : AreFullButLast (batches ++ b ∷ [])
    full_next =
        full_but_last_push batches b (whole (not_empty rest is_some))
        (omega (arith, size, some_left rest is_some)) (omega (arith, size))

    -- if changes are left in `behind`, the batch `b` is full, and so all batches are full
    pub whole_next : behind ≢ [] → AreFull (batches ++ b ∷ [])
    whole_next more =
        full_push batches b (whole (not_empty rest is_some))
        (at_most_all (length rest) (length b.changes) size (λ short. more (none_left behind (omega (arith, ap length back, length-drop (min (length rest) 4096) rest, short)))))
      where
        none_left : (cs : List Change) → length cs ≡ 0 → cs ≡ []
        none_left [] e = λ i. []
        none_left (c ∷ cs) e = let no : ⊥ = omega (arith, e) in absurd no

        at_most_all : (n size : ℕ) → size ≡ min n 4096 → (n ≤ 4096 → ⊥) → size ≡ MOST_CHANGES
        at_most_all n size is more = omega (arith, is, more)
