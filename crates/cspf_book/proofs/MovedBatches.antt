-- The batch of a placing or a release leads to the effective database of the next version.
use Rattle.std.proofs.Common.{◌≡◌, ℕ, zero, suc, ◌+◌, ◌≤◌, ◌||◌, Bool, true, false, not, cond, Option, Some, None, List, [], ◌∷◌, ◌++◌, All, filter, length, map, refl, sym, ap, subst, ◌∙◌, arith}
use Rattle.std.specs.Ordering.{eq_by_cmp}
use Rattle.std.specs.Option.{option_map}
use Rattle.std.specs.List.{flat_map, list_any, AllByRecursion, IsDistinct}
use Rattle.std.specs.FinSet as set
use Rattle.std.proofs.lemmas.Bool.{or_parts, false≢true}
use Rattle.std.proofs.lemmas.List.{length-map, length-append}
use Rattle.std.proofs.lemmas.List.Folds.{list_any-append}
use Rattle.cspf_model.specs.declared.link.Link.{Link}
use Rattle.cspf_model.specs.declared.batch.Change.TheVariants.{Put}
use Rattle.cspf_model.specs.Database.{Database, Key, key_cmp, link_at, link_count, router_count, mark_count, AreAtTheirKeys}
use Rattle.cspf_model.specs.Changes.{ChangeKey, change_key_cmp, link_key, key_changed, after_changes, IsPresent, Fits}
use Rattle.cspf_model.proofs.Databases.Keys.{key_itself, keys_apart_from, change_keys_same, link_keys_same}
use Rattle.cspf_model.proofs.Databases.LastChanges.{after_changes-append}
use Rattle.cspf_book.specs.declared.path.Passed.{Passed}
use Rattle.cspf_book.specs.declared.placement.Placement.{Placement}
use Rattle.cspf_book.specs.declared.limits.TheConstants.{MOST_PLACED_LINKS}
use Rattle.cspf_book.specs.Placements.{ends_of_link, key_passed, has_key, counted, ArePassedOnce}
use Rattle.cspf_book.specs.Effective.{effective_link, effective}
use Rattle.cspf_book.specs.Alike.{AreAlike, IsCurrentAt, IsWithinLimits}
use Rattle.cspf_book.specs.Leading.{put_of, put_at, keys_moved, moved_batch, LeadsTo}
use Rattle.cspf_book.proofs.AlikeDatabases.{alike_routers}
use Rattle.cspf_book.proofs.Currents.{alike_effective, current_along, current_there, current_whole, neither_holds}
use Rattle.cspf_book.proofs.EffectiveLinks.{effective_at}
use Rattle.cspf_book.proofs.KeyTests.{same_key_test}
use Rattle.cspf_book.proofs.OneLink.{key_of-effective_link, alike_with, at_put, at_none}

-- One of the keys is `k`.
abbrev has : Key → List Key → Bool
has k keys = list_any (λ j. eq_by_cmp key_cmp k j) keys

-- No key is equal to `k`.
abbrev AreApartFrom : Key → List Key → Type 0
AreApartFrom k keys = AllByRecursion (λ j. eq_by_cmp key_cmp k j ≡ false) keys

-- the keys that none of these links has
abbrev unlisted : List Passed → List Key → List Key
unlisted listed keys = filter (λ k. not (has_key listed k)) keys

-- A link with its effective bandwidths has the same key and neighbor as the link of the base.
ends-effective_link : (placements : List Placement) (l : Link) → ends_of_link (effective_link placements l) ≡ ends_of_link l
unfolding effective_link
ends-effective_link placements l = refl

-- In this module, the database `d` differs from the base only in attributes of its links. The
-- base's link at the key `key` is put into it, if the base has one.
module _ (base : Database) (placements : List Placement) (d : Database) (key : Key) (keyed : AreAtTheirKeys base) (alike : AreAlike base d) where
  step : (o : Option Link) → link_at base key ≡ o
      → AreAlike base (after_changes d (put_of placements o))
      × ((q : Key) → link_at (after_changes d (put_of placements o)) q ≡ cond (eq_by_cmp key_cmp q key) (option_map (effective_link placements) (link_at base q)) (link_at d q))
  step (Some l) is = (
    alike_with base d key keyed alike l (effective_link placements l) (after_changes d (put_of placements (Some l))) is (ends-effective_link placements l) refl,
    at_put base d placements key keyed alike l (after_changes d (put_of placements (Some l))) is refl,
  )
  step None none = (alike, at_none base d placements key keyed alike none)

-- Let `d` differ from the base only in attributes of its links, and agree with the effective
-- database at all keys but these. If the base's links at these keys are put into it with their
-- effective bandwidths, it is the effective database.
puts_current : (base : Database) (placements : List Placement) (keys : List Key) (d : Database) → AreAtTheirKeys base → AreAlike base d
    → ((k : Key) → has k keys ≡ false → IsCurrentAt base placements d k)
    → after_changes d (flat_map (put_at base placements) keys) ≡ effective base placements
puts_current base placements [] d keyed alike current = current_whole base placements d alike (λ k. current k refl)
puts_current base placements (key ∷ keys) d keyed alike current =
    let next = step base placements d key keyed alike (link_at base key) refl in
    after_changes-append d (put_at base placements key) (flat_map (put_at base placements) keys)
    ∙ puts_current base placements keys (after_changes d (put_at base placements key)) keyed next.0 (λ k off.
    current_there base placements d (after_changes d (put_at base placements key)) key next.1 k (λ apart.
    current k (neither_holds (eq_by_cmp key_cmp k key) (has k keys) (same_key_test k key ∙ apart) off)))

-- One of the links' keys is `k` exactly if one of the links has this key.
has-passed : (k : Key) (links : List Passed) → has k (map key_passed links) ≡ has_key links k
has-passed k [] = refl
has-passed k (l ∷ ls) = λ i. same_key_test k (key_passed l) i || has-passed k ls i

-- A key that no listed link has is among the keys if it is among the unlisted keys.
unlisted_has : (listed : List Passed) (k : Key) → has_key listed k ≡ false → (keys : List Key) → has k (unlisted listed keys) ≡ false
    → has k keys ≡ false
unlisted_has listed k off [] e = refl
unlisted_has listed k off (j ∷ keys) e =
    elim (has_key listed j) as (λ b. has_key listed j ≡ b → has k (cond (not b) (j ∷ unlisted listed keys) (unlisted listed keys)) ≡ false → (eq_by_cmp key_cmp k j || has k keys) ≡ false) [
      | true ↦ λ had rest.
          neither_holds (eq_by_cmp key_cmp k j) (has k keys) (keys_apart_from k j (λ same. false≢true (sym off ∙ ap (has_key listed) same ∙ had)))
          (unlisted_has listed k off keys rest)
      | false ↦ λ _ both.
          let parts = or_parts (eq_by_cmp key_cmp k j) (has k (unlisted listed keys)) both in
          neither_holds (eq_by_cmp key_cmp k j) (has k keys) parts.0 (unlisted_has listed k off keys parts.1)
    ] refl e

-- A key that isn't among the moved keys is on neither route.
unmoved : (old new : List Passed) (k : Key) → has k (keys_moved old new) ≡ false → (has_key old k ≡ false) × (has_key new k ≡ false)
unmoved old new k off =
    let parts = or_parts (has k (map key_passed old)) (has k (unlisted old (map key_passed new))) (sym (list_any-append (λ j. eq_by_cmp key_cmp k j) (map key_passed old) (unlisted old (map key_passed new))) ∙ off) in
    let first = sym (has-passed k old) ∙ parts.0 in
    (first, sym (has-passed k new) ∙ unlisted_has old k first (map key_passed new) parts.1)

-- If both lists of placements count the same bandwidth at all keys that are on neither route, the
-- puts of a move make one effective database from the other.
pub moved_makes : (base : Database) (before after : List Placement) (old new : List Passed) → AreAtTheirKeys base
    → ((k : Key) → has_key old k ≡ false → has_key new k ≡ false → (p : ℕ) → counted before k p ≡ counted after k p)
    → after_changes (effective base before) (flat_map (put_at base after) (keys_moved old new)) ≡ effective base after
moved_makes base before after old new keyed same =
    puts_current base after (keys_moved old new) (effective base before) keyed (alike_effective base before) (λ k off.
    let parts = unmoved old new k off in
    current_along base before after (effective base before) k keyed (same k parts.0 parts.1) (effective_at base before k))

-- The lemmas that follow say that no key is put twice.
pub all_append : {X : Type 0} (P : X → Type 0) (xs ys : List X) → AllByRecursion P xs → AllByRecursion P ys → AllByRecursion P (xs ++ ys)
all_append P [] ys first second = second
all_append P (x ∷ xs) ys first second = (first.0, all_append P xs ys first.1 second)

pub all_filter : {X : Type 0} (P : X → Type 0) (p : X → Bool) (xs : List X) → AllByRecursion P xs → AllByRecursion P (filter p xs)
all_filter P p [] all = all
all_filter P p (x ∷ xs) all =
    elim (p x) as (λ b. AllByRecursion P (cond b (x ∷ filter p xs) (filter p xs))) [
      | true ↦ (all.0, all_filter P p xs all.1)
      | false ↦ all_filter P p xs all.1
    ]

all_mapped : {X : Type 0} (P Q : X → Type 0) → ((x : X) → P x → Q x) → (xs : List X) → AllByRecursion P xs → AllByRecursion Q xs
all_mapped P Q f [] all = tt
all_mapped P Q f (x ∷ xs) all = (f x all.0, all_mapped P Q f xs all.1)

-- Each link's key is listed.
each_listed : (links : List Passed) → AllByRecursion (λ l. has_key links (key_passed l) ≡ true) links
each_listed [] = tt
each_listed (l ∷ ls) = (
  first (has-passed (key_passed l) (l ∷ ls)) (key_itself (key_passed l)),
  all_mapped (λ m. has_key ls (key_passed m) ≡ true) (λ m. has_key (l ∷ ls) (key_passed m) ≡ true) (λ m there. later _ _ there) ls (each_listed ls),
)
  where
    first : has (key_passed l) (map key_passed (l ∷ ls)) ≡ has_key (l ∷ ls) (key_passed l) → eq_by_cmp key_cmp (key_passed l) (key_passed l) ≡ true → has_key (l ∷ ls) (key_passed l) ≡ true
    first same itself = sym same ∙ ap (λ b. b || has (key_passed l) (map key_passed ls)) itself

    later : (a b : Bool) → b ≡ true → (a || b) ≡ true
    later true b there = refl
    later false b there = there

-- A listed key isn't among the unlisted keys.
apart_unlisted : (listed : List Passed) (k : Key) → has_key listed k ≡ true → (keys : List Key) → AreApartFrom k (unlisted listed keys)
apart_unlisted listed k had [] = tt
apart_unlisted listed k had (j ∷ keys) =
    elim (has_key listed j) as (λ b. has_key listed j ≡ b → AreApartFrom k (cond (not b) (j ∷ unlisted listed keys) (unlisted listed keys))) [
      | true ↦ λ _. apart_unlisted listed k had keys
      | false ↦ λ off. (keys_apart_from k j (λ same. false≢true (sym off ∙ ap (has_key listed) (sym same) ∙ had)), apart_unlisted listed k had keys)
    ] refl

-- If keys are distinct, those that pass a test are distinct, too.
distinct_filter : (p : Key → Bool) (keys : List Key) → IsDistinct (eq_by_cmp key_cmp) keys → IsDistinct (eq_by_cmp key_cmp) (filter p keys)
unfolding IsDistinct
distinct_filter p [] own = own
distinct_filter p (k ∷ keys) own =
    elim (p k) as (λ b. IsDistinct (eq_by_cmp key_cmp) (cond b (k ∷ filter p keys) (filter p keys))) [
      | true ↦ (all_filter (λ j. eq_by_cmp key_cmp k j ≡ false) p keys own.0, distinct_filter p keys own.1)
      | false ↦ distinct_filter p keys own.1
    ]

distinct_with : (listed links : List Passed) (keys : List Key) → IsDistinct (eq_by_cmp key_cmp) (map key_passed links)
    → AllByRecursion (λ l. has_key listed (key_passed l) ≡ true) links → IsDistinct (eq_by_cmp key_cmp) keys
    → IsDistinct (eq_by_cmp key_cmp) (map key_passed links ++ unlisted listed keys)
unfolding IsDistinct
distinct_with listed [] keys own all distinct = distinct_filter (λ k. not (has_key listed k)) keys distinct
distinct_with listed (l ∷ ls) keys own all distinct = (
  all_append (λ j. eq_by_cmp key_cmp (key_passed l) j ≡ false) (map key_passed ls) (unlisted listed keys) own.0 (apart_unlisted listed (key_passed l) all.0 keys),
  distinct_with listed ls keys own.1 all.1 distinct,
)

-- The keys of two routes that use no link twice are distinct.
distinct_moved : (old new : List Passed) → ArePassedOnce old → ArePassedOnce new → IsDistinct (eq_by_cmp key_cmp) (keys_moved old new)
distinct_moved old new first second = distinct_with old old (map key_passed new) first (each_listed old) second

-- Different keys of links are different keys of changes.
change_apart : (j k : Key) → eq_by_cmp key_cmp j k ≡ false → eq_by_cmp change_key_cmp (link_key j) (link_key k) ≡ false
change_apart j k off =
    elim (eq_by_cmp change_key_cmp (link_key j) (link_key k)) as (λ b. eq_by_cmp change_key_cmp (link_key j) (link_key k) ≡ b → b ≡ false) [
      | true ↦ λ tie.
          let same = link_keys_same j k (change_keys_same (link_key j) (link_key k) tie) in
          absurd (false≢true (sym off ∙ ap (eq_by_cmp key_cmp j) (sym same) ∙ key_itself j))
      | false ↦ λ _. refl
    ] refl

-- In this module, the base's links at keys are put.
module _ (base : Database) (placements : List Placement) (keyed : AreAtTheirKeys base) where
  key_put : (k : Key) (l : Link) → link_at base k ≡ Some l → key_changed (Put (effective_link placements l)) ≡ link_key k
  key_put k l is = ap link_key (key_of-effective_link placements l ∙ keyed k l is)

  puts_apart : (k : Key) (keys : List Key) → AreApartFrom k keys
      → AllByRecursion (λ c. eq_by_cmp change_key_cmp (link_key k) c ≡ false) (map key_changed (flat_map (put_at base placements) keys))
  puts_apart k [] apart = tt
  puts_apart k (j ∷ keys) apart =
      elim (link_at base j) as (λ o. link_at base j ≡ o → AllByRecursion (λ c. eq_by_cmp change_key_cmp (link_key k) c ≡ false) (map key_changed (put_of placements o ++ flat_map (put_at base placements) keys))) [
        | Some l ↦ λ is. (ap (eq_by_cmp change_key_cmp (link_key k)) (key_put j l is) ∙ change_apart k j apart.0, puts_apart k keys apart.1)
        | None ↦ λ _. puts_apart k keys apart.1
      ] refl

  puts_once : (keys : List Key) → IsDistinct (eq_by_cmp key_cmp) keys
      → IsDistinct (eq_by_cmp change_key_cmp) (map key_changed (flat_map (put_at base placements) keys))
  unfolding IsDistinct
  puts_once [] own = tt
  puts_once (j ∷ keys) own =
      elim (link_at base j) as (λ o. link_at base j ≡ o → IsDistinct (eq_by_cmp change_key_cmp) (map key_changed (put_of placements o ++ flat_map (put_at base placements) keys))) [
        | Some l ↦ λ is. (
          subst (λ (key : ChangeKey). AllByRecursion (λ c. eq_by_cmp change_key_cmp key c ≡ false) (map key_changed (flat_map (put_at base placements) keys))) (sym (key_put j l is)) (puts_apart j keys own.0),
          puts_once keys own.1,
        )
        | None ↦ λ _. puts_once keys own.1
      ] refl

  -- Each change puts a link.
  puts_present : (d : Database) (keys : List Key) → AllByRecursion (IsPresent d) (flat_map (put_at base placements) keys)
  puts_present d [] = tt
  puts_present d (j ∷ keys) =
      elim (link_at base j) as (λ o. AllByRecursion (IsPresent d) (put_of placements o ++ flat_map (put_at base placements) keys)) [
        | Some l ↦ (tt, puts_present d keys)
        | None ↦ puts_present d keys
      ]

  -- There are at most as many puts as keys.
  puts_short : (keys : List Key) → length (flat_map (put_at base placements) keys) ≤ length keys
  puts_short [] = omega arith
  puts_short (j ∷ keys) =
      elim (link_at base j) as (λ o. length (put_of placements o ++ flat_map (put_at base placements) keys) ≤ suc (length keys)) [
        | Some l ↦ omega (arith, puts_short keys)
        | None ↦ omega (arith, puts_short keys)
      ]

-- A predicate of each element of a list.
all_of : {X : Type 0} (P : X → Type 0) (xs : List X) → AllByRecursion P xs → All P xs
all_of P [] all k d within = absurd (omega arith)
all_of P (x ∷ xs) all zero d within = all.0
all_of P (x ∷ xs) all (suc k) d within = all_of P xs all.1 k d (omega arith)

length-filter-le : {X : Type 0} (p : X → Bool) (xs : List X) → length (filter p xs) ≤ length xs
length-filter-le p [] = omega arith
length-filter-le p (x ∷ xs) =
    elim (p x) as (λ b. length (cond b (x ∷ filter p xs) (filter p xs)) ≤ suc (length xs)) [
      | true ↦ omega (arith, length-filter-le p xs)
      | false ↦ omega (arith, length-filter-le p xs)
    ]

length-keys_moved : (old new : List Passed) → length (keys_moved old new) ≤ length old + length new
length-keys_moved old new =
    omega
    (arith, length-append (map key_passed old) (unlisted old (map key_passed new)), length-map old key_passed, length-map new key_passed, length-filter-le (λ k. not (has_key old k)) (map key_passed new))

-- In this module, a placement moves from one route to another. Both routes use no link twice and
-- are short, and at keys on neither route nothing else is counted than before.
module _ (base : Database) (before after : List Placement) (old new : List Passed) (within : IsWithinLimits base)
    (first : ArePassedOnce old) (second : ArePassedOnce new) (few : length old ≤ MOST_PLACED_LINKS) (fewer : length new ≤ MOST_PLACED_LINKS)
    (same : (k : Key) → has_key old k ≡ false → has_key new k ≡ false → (p : ℕ) → counted before k p ≡ counted after k p) where
  moved_fits : (number : ℕ) → Fits (effective base before) (moved_batch base after number old new)
  moved_fits number =
      let makes = moved_makes base before after old new within.keyed same in
      let alike = alike_effective base after in record {
        short = omega (arith, puts_short base after within.keyed (keys_moved old new), length-keys_moved old new, few, fewer);
        once = puts_once base after within.keyed (keys_moved old new) (distinct_moved old new first second);
        present = all_of (IsPresent (effective base before)) (flat_map (put_at base after) (keys_moved old new)) (puts_present base after within.keyed (effective base before) (keys_moved old new));
        links = omega (arith, ap link_count makes, alike.count, within.links);
        routers = omega (arith, ap router_count makes, alike_routers base (effective base after) alike within.keyed, within.routers);
        marks = omega (arith, ap mark_count makes, ap set.len alike.marks, within.marks);
      }

  pub moved_leads : (version number : ℕ) → number ≡ version + 1
      → LeadsTo (record { base = base; version = version; placements = before }) (moved_batch base after number old new)
      (record { base = base; version = number; placements = after })
  moved_leads version number is = record {
    number = is;
    version = is;
    fits = moved_fits number;
    makes = moved_makes base before after old new within.keyed same;
  }
