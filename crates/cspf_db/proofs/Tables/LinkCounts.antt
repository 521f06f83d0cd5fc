-- Lemmas on the number of links after changes. This number follows from the number of changes that
-- add a link and the number of changes that remove a link.
use mathlib.Core.Bool.{true≢false}
use Rattle.std.proofs.Common.{◌≡◌, ℕ, ◌+◌, ◌-◌, ◌<◌, get_or, take, Bool, true, false, cond, not, is_some, List, [], ◌∷◌, length, map, refl, sym, ap, subst, ◌∙◌, arith, rules}
use Rattle.std.specs.Ordering.{eq_by_cmp}
use Rattle.std.specs.List.{IsDistinct, AllByRecursion, AllWithin, count_by}
use Rattle.std.specs.FinMap as finite
use Rattle.std.proofs.lemmas.List.{get_or_default}
use Rattle.std.proofs.lemmas.List.Elements.{AllWithin-more}
use Rattle.std.proofs.lemmas.List.Sums.{sum_by-cons, count_by_more_no, count_by_more_yes}
use Rattle.cspf_model.specs.declared.link.Link.{Link}
use Rattle.cspf_model.specs.declared.batch.Change.{Change}
use Rattle.cspf_model.specs.declared.batch.Change.TheVariants.{Put, Remove, Node}
use Rattle.cspf_model.specs.Database.{Database, Key, key_of, key_cmp, link_at, link_count}
use Rattle.cspf_model.specs.Changes.{change_key_cmp, link_key, key_changed, link_left, IsPresent}
use Rattle.cspf_model.specs.Lemmas.LinkChanges.{relinked, all_relinked}
use Rattle.cspf_model.specs.Lemmas.LinkRows.{database_of, AreByKey}
use Rattle.cspf_model.specs.Lemmas.RowsLeft.{adds_link, removes_link}
use Rattle.cspf_model.specs.Refusals.{AreOnceEach}
use Rattle.cspf_model.proofs.Databases.Keys.{keys_total, change_keys_apart}
use Rattle.cspf_model.proofs.Databases.ChangedRows.{link_at-relinked}
use Rattle.cspf_model.proofs.Databases.EndCounts.{link_count-database_of}
use Rattle.cspf_columns.proofs.RowOrder.{own_keys}

-- A change affects only the link at the change's own key.
same_there : (d : Database) (c : Change) (k : Key) → eq_by_cmp change_key_cmp (key_changed c) (link_key k) ≡ false → link_at (relinked d c) k ≡ link_at d k
same_there d c k apart =
    link_at-relinked d c k ∙ ap (λ t. cond t (link_left c) (link_at d k)) (change_keys_apart (key_changed c) (link_key k) apart)

-- If the changes `c` and `b` have different keys, `c` doesn't affect whether `b` adds a link.
adds_same : (d : Database) (c b : Change) → eq_by_cmp change_key_cmp (key_changed c) (key_changed b) ≡ false → adds_link (relinked d c) b ≡ adds_link d b
adds_same d c b apart = search (rules, is_some, same_there)

-- If the changes `c` and `b` have different keys, `c` doesn't affect whether the database has the
-- link that `b` removes.
present_same : (d : Database) (c b : Change) → eq_by_cmp change_key_cmp (key_changed c) (key_changed b) ≡ false → IsPresent d b → IsPresent (relinked d c) b
present_same d c b apart present = search (rules, same_there)

-- A change `c` doesn't affect how many changes of `cs` add a link, if no change of `cs` has the key
-- of `c`.
counts_same : (d : Database) (c : Change) (cs : List Change) → AllByRecursion (λ y. eq_by_cmp change_key_cmp (key_changed c) y ≡ false) (map key_changed cs)
    → count_by (adds_link (relinked d c)) cs ≡ count_by (adds_link d) cs
counts_same d c [] apart = refl
counts_same d c (b ∷ cs) apart =
    sum_by-cons (λ x. cond (adds_link (relinked d c) x) 1 0) b cs
    ∙ ap (λ t. cond t 1 0 + count_by (adds_link (relinked d c)) cs) (adds_same d c b apart.0) ∙ ap (λ n. cond (adds_link d b) 1 0 + n) (counts_same d c cs apart.1)
    ∙ sym (sum_by-cons (λ x. cond (adds_link d x) 1 0) b cs)

all_present : (d : Database) (c : Change) (cs : List Change) → AllByRecursion (λ y. eq_by_cmp change_key_cmp (key_changed c) y ≡ false) (map key_changed cs)
    → AllByRecursion (IsPresent d) cs → AllByRecursion (IsPresent (relinked d c)) cs
all_present d c [] apart present = tt
all_present d c (b ∷ cs) apart present = (present_same d c b apart.0 present.0, all_present d c cs apart.1 present.1)

-- One change increases the number of links by 1 if it adds a link, and decreases the number by 1 if
-- it removes a link.
one_count : (d : Database) (c : Change) → IsPresent d c → link_count (relinked d c) + cond (removes_link c) 1 0 ≡ link_count d + cond (adds_link d c) 1 0
one_count d (Put l) present =
    ap (λ m. m + 0) (finite.len-insert keys_total d.links (key_of l) l) ∙ one_more (is_some (link_at d (key_of l))) (link_count d)
  where
    one_more : (b : Bool) (n : ℕ) → cond b n (n + 1) + 0 ≡ n + cond (not b) 1 0
    one_more true n = refl
    one_more false n = omega arith
one_count d (Node router transit) present = refl
one_count d (Remove from local) present =
    let shorter : link_count (relinked d (Remove from local)) ≡ link_count d - 1 = finite.len-remove keys_total d.links (from, local) ∙ ap (λ b. cond b (link_count d - 1) (link_count d)) present in
    let some : link_count d ≡ 0 → ⊥ = λ none. true≢false (sym present ∙ ap (λ m. is_some (finite.get m (from, local))) (finite.empty_of_len d.links none) ∙ ap is_some (finite.get-empty key_cmp (from, local))) in
    one_less (link_count d) (link_count (relinked d (Remove from local))) shorter some
  where
    one_less : (n m : ℕ) → m ≡ n - 1 → (n ≡ 0 → ⊥) → m + 1 ≡ n + 0
    one_less n m shorter some = omega (arith, shorter, some)

-- If the equation of `count_after` holds for one change and for the later changes, it holds for all
-- of these changes together.
joined : (after between before less more also one two : ℕ) → after + less ≡ between + also → also ≡ more → between + one ≡ before + two → after + (one + less) ≡ before + (two + more)
joined after between before less more also one two e same step = omega arith

-- Changes with distinct keys change the number of links: it grows by the number of changes that add
-- a link, and falls by the number of changes that remove a link.
count_after : (d : Database) (cs : List Change) → AreOnceEach cs → AllByRecursion (IsPresent d) cs
    → link_count (all_relinked d cs) + count_by removes_link cs ≡ link_count d + count_by (adds_link d) cs
unfolding IsDistinct
count_after d [] once present = refl
count_after d (c ∷ cs) once present =
    ap (λ n. link_count (all_relinked (relinked d c) cs) + n) (sum_by-cons (λ x. cond (removes_link x) 1 0) c cs)
    ∙ joined (link_count (all_relinked (relinked d c) cs)) (link_count (relinked d c)) (link_count d) (count_by removes_link cs) (count_by (adds_link d) cs) (count_by (adds_link (relinked d c)) cs)
    (cond (removes_link c) 1 0) (cond (adds_link d c) 1 0) (count_after (relinked d c) cs once.1 (all_present d c cs once.0 present.1)) (counts_same d c cs once.0)
    (one_count d c present.0)
    ∙ ap (λ n. link_count d + n) (sym (sum_by-cons (λ x. cond (adds_link d x) 1 0) c cs))

-- The same as `count_after` for a database made from rows (links). Before the changes, its number
-- of links is the number of rows.
pub sum_after : (rows : List Link) (cs : List Change) → AreByKey rows → AreOnceEach cs → AllByRecursion (IsPresent (database_of rows)) cs
    → link_count (all_relinked (database_of rows) cs) + count_by removes_link cs ≡ length rows + count_by (adds_link (database_of rows)) cs
sum_after rows cs by_key once present =
    count_after (database_of rows) cs once present ∙ ap (λ n. n + count_by (adds_link (database_of rows)) cs) (link_count-database_of rows (own_keys rows by_key))

pub difference_after : (rows : List Link) (cs : List Change) → AreByKey rows → AreOnceEach cs → AllByRecursion (IsPresent (database_of rows)) cs
    → link_count (all_relinked (database_of rows) cs) ≡ length rows + count_by (adds_link (database_of rows)) cs - count_by removes_link cs
difference_after rows cs h1 once present = search (rules, sum_after)

-- If `P` holds of the first `at` items and of the next item, `P` holds of the first `at + 1` items.
pub within_more : {A : Type 0} (P : A → Type 0) (xs : List A) (at : ℕ) (x : A) → at < length xs → x ≡ get_or xs at x → P x → AllWithin P xs 0 at → AllWithin P xs 0 (at + 1)
within_more P xs at x h is here before = AllWithin-more P xs 0 at before (λ d. subst P (is ∙ get_or_default xs at x d h) here)

-- Suppose that `m` of the first `at` items pass the test `p`. Let `n` be 1 if the next item passes
-- `p`, and 0 otherwise. Then `m + n` of the first `at + 1` items pass `p`.
pub count_more : {A : Type 0} (p : A → Bool) (xs : List A) (at : ℕ) (x : A) (m n : ℕ) → at < length xs → x ≡ get_or xs at x → m ≡ count_by p (take at xs) → n ≡ cond (p x) 1 0 → m + n ≡ count_by p (take (at + 1) xs)
count_more p xs at x m n h is before here = search (rules, count_by_more_no, count_by_more_yes)
