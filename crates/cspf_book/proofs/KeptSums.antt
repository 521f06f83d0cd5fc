-- How the stored sums change, and why they are always the bandwidths that the placements count.
use Rattle.std.proofs.Common.{◌≡◌, ℕ, ◌+◌, ◌<◌, ◌≤◌, ◌*◌, ◌^◌, min, ◌||◌, ◌&&◌, Bool, true, false, cond, Option, Some, None, is_some, unwrap_or, IsSome, List, [], ◌∷◌, ◌++◌, length, take, remove, nat_eq, nat_le, slice_index, get_or, refl, sym, ap, subst, ◌∙◌, arith}
use Rattle.std.specs.BTreeMap.{get}
use Rattle.std.specs.Ordering.{eq_by_cmp}
use Rattle.std.proofs.lemmas.List.{take_more}
use Rattle.std.proofs.lemmas.List.Folds.{list_any-append}
use Rattle.std.proofs.lemmas.List.Sums.{sum_by-cons, sum_by-remove, sum_by_push}
use Rattle.cspf_book.specs.declared.path.Passed.{Passed}
use Rattle.cspf_model.specs.Database.{Key, key_cmp}
use Rattle.std.proofs.lemmas.Cmp.{eq_by_cmp_equiv}
use Rattle.std.proofs.lemmas.Bool.Decides.{nat_tests}
use Rattle.cspf_model.proofs.Databases.Keys.{keys_total, keys_same}
use Rattle.cspf_book.specs.declared.counts.Counts.{Counts}
use Rattle.cspf_book.specs.declared.placement.Placement.{Placement}
use Rattle.cspf_book.specs.Placements.{key_passed, has_key, bandwidth_on, counted, others}
use Rattle.cspf_book.specs.Kept.{no_sums, sums_at, sum_at, HasKeys, KeepsKeys, IsCountOf, IsWithinSums, AreSmall, HasSameSums, HasSumsAt, HasMoreAt, HasMoreAlong}
use Rattle.cspf_book.proofs.Covered.{counted-others}
use Rattle.cspf_book.proofs.KeyTests.{same_tests, same_key_test}

-- One of the first i + 1 links has a key exactly if one of the first i links or the link at index i
-- has this key.
has_key-more : (links : List Passed) (i : ℕ) (d : Passed) (k : Key) → i < length links
    → has_key (take (i + 1) links) k ≡ (has_key (take i links) k || eq_by_cmp key_cmp (key_passed (get_or links i d)) k)
has_key-more links i d k within =
    ap (λ ls. has_key ls k) (take_more links i d within)
    ∙ list_any-append (λ l. nat_eq l.from k.0 && nat_eq l.local k.1) (take i links) (get_or links i d ∷ [])
    ∙ ap (λ b. has_key (take i links) k || b) (or_false _ ∙ turned (key_passed (get_or links i d)))
  where
    or_false : (a : Bool) → (a || false) ≡ a
    or_false true = refl
    or_false false = refl

    turned : (j : Key) → (nat_eq j.0 k.0 && nat_eq j.1 k.1) ≡ eq_by_cmp key_cmp j k
    turned j = sym (same_key_test k j) ∙ (eq_by_cmp_equiv keys_total).symm k j

-- Let two tests never both hold. A bandwidth that counts if one of them holds is then a sum: the
-- bandwidth if the first holds, plus the bandwidth if the second holds.
at_either : (h a b : Bool) (n : ℕ) → (b ≡ true → a ≡ false) → cond (h && (a || b)) n 0 ≡ cond (h && a) n 0 + cond (h && b) n 0
at_either true true true n apart = absurd (let off = apart refl in cc)
at_either true true false n apart = omega arith
at_either true false true n apart = omega arith
at_either true false false n apart = refl
at_either false a b n apart = refl

-- In this module, `key` is the key of the link at index i. A bandwidth is first counted on the
-- first i links, and then on this link.
module _ (links : List Passed) (i : ℕ) (l : Passed) (key : Key) (hold bandwidth : ℕ) (within : i < length links) (its : key_passed (get_or links i l) ≡ key) where
  more_at : (k : Key) → has_key (take (i + 1) links) k ≡ (has_key (take i links) k || eq_by_cmp key_cmp key k)
  more_at k = has_key-more links i l k within ∙ ap (λ j. has_key (take i links) k || eq_by_cmp key_cmp j k) its

  -- Let none of the first i links have this key. At each key and priority, the bandwidth for the
  -- first i + 1 links is then a sum: the bandwidth for the first i links, plus the bandwidth for
  -- `key` alone.
  split : has_key (take i links) key ≡ false → (k : Key) (p : ℕ)
      → cond (nat_le hold p && has_key (take (i + 1) links) k) bandwidth 0
      ≡ cond (nat_le hold p && has_key (take i links) k) bandwidth 0 + cond (nat_le hold p && eq_by_cmp key_cmp key k) bandwidth 0
  split new k p =
      ap (λ b. cond (nat_le hold p && b) bandwidth 0) (more_at k)
      ∙ at_either (nat_le hold p) (has_key (take i links) k) (eq_by_cmp key_cmp key k) bandwidth (λ tie. ap (has_key (take i links)) (sym (keys_same key k tie)) ∙ new)

  -- Let none of the first i links have this key. If the bandwidth is added on the first i links and
  -- then at this key, it is added on the first i + 1 links.
  pub more_along : (c d e : Counts) → has_key (take i links) key ≡ false → HasMoreAlong c d (take i links) hold bandwidth
      → HasMoreAt d e key hold bandwidth → HasMoreAlong c e (take (i + 1) links) hold bandwidth
  more_along c d e new along here = record {
    at = λ k p small. omega (arith, along.at k p small, here.at k p small, split new k p);
  }

  -- Let none of the first i links have this key. If the bandwidth is subtracted on the first i
  -- links and then at this key, it is subtracted on the first i + 1 links.
  pub less_along : (c d e : Counts) → has_key (take i links) key ≡ false → HasMoreAlong d c (take i links) hold bandwidth
      → HasMoreAt e d key hold bandwidth → HasMoreAlong e c (take (i + 1) links) hold bandwidth
  less_along c d e new along here = record {
    at = λ k p small. omega (arith, along.at k p small, here.at k p small, split new k p);
  }

  -- Let one of the first i links have this key. If the bandwidth is added on the first i links,
  -- once at each key, it is already added on the first i + 1 links.
  pub more_again : (c d : Counts) → has_key (take i links) key ≡ true → HasMoreAlong c d (take i links) hold bandwidth
      → HasMoreAlong c d (take (i + 1) links) hold bandwidth
  more_again c d had along = record {
    at = λ k p small. along.at k p small ∙ ap (λ b. sum_at c k p + cond (nat_le hold p && b) bandwidth 0) (sym (more_at k ∙ both k));
  }
    where
      either : (a b : Bool) → (b ≡ true → a ≡ true) → (a || b) ≡ a
      either true b follows = refl
      either false true follows = sym (follows refl)
      either false false follows = refl

      both : (k : Key) → (has_key (take i links) k || eq_by_cmp key_cmp key k) ≡ has_key (take i links) k
      both k = either (has_key (take i links) k) (eq_by_cmp key_cmp key k) (λ tie. ap (has_key (take i links)) (sym (keys_same key k tie)) ∙ had)

-- If the sums are the same before and after each of two steps, they are the same before and after
-- both steps.
pub same_sums_on : (c d e : Counts) → HasSameSums c d → HasSameSums d e → HasSameSums c e
same_sums_on c d e first second = record { at = λ k p small. second.at k p small ∙ first.at k p small }

-- If each of two steps keeps the entries of all keys, both steps together keep them.
pub keeps_keys_on : (c d e : Counts) → KeepsKeys c d → KeepsKeys d e → KeepsKeys c e
keeps_keys_on c d e first second = record { at = λ k h. second.at k (first.at k h) }

-- Let the first i links have entries of sums in `c`. If `d` keeps these entries and has an entry
-- for the link at index i, the first i + 1 links have entries in `d`.
pub keys_more : (c d : Counts) (links : List Passed) (i : ℕ) (l : Passed) → i < length links → HasKeys c (take i links) → KeepsKeys c d
    → IsSome (get key_cmp d.sums (key_passed (get_or links i l))) → HasKeys d (take (i + 1) links)
keys_more c d links i l within keys keeps there = record {
  at = λ k has. which k (has_key (take i links) k) (eq_by_cmp key_cmp (key_passed (get_or links i l)) k) refl refl (sym (has_key-more links i l k within) ∙ has);
}
  where
    which : (k : Key) (a b : Bool) → has_key (take i links) k ≡ a → eq_by_cmp key_cmp (key_passed (get_or links i l)) k ≡ b → (a || b) ≡ true
        → IsSome (get key_cmp d.sums k)
    which k true b had tie h = keeps.at k (keys.at k had)
    which k false true had tie h = subst (λ j. IsSome (get key_cmp d.sums j)) (keys_same (key_passed (get_or links i l)) k tie) there
    which k false false had tie h = absurd (cc)

-- If an entry of zeros is made at a key that had no entry, no sum changes.
pub entered_sums : (c d : Counts) (key : Key) → is_some (get key_cmp c.sums key) ≡ false
    → ((k : Key) → get key_cmp d.sums k ≡ cond (eq_by_cmp key_cmp key k) (Some no_sums) (get key_cmp c.sums k)) → HasSameSums c d
entered_sums c d key none is = record { at = λ k p _. ap (λ o. slice_index (unwrap_or o no_sums) p) (is k) ∙ chosen k p (eq_by_cmp key_cmp key k) refl }
  where
    absent : (o : Option (List ℕ)) → is_some o ≡ false → unwrap_or o no_sums ≡ no_sums
    absent (Some x) e = absurd (cc)
    absent None e = refl

    chosen : (k : Key) (p : ℕ) (t : Bool) → eq_by_cmp key_cmp key k ≡ t
        → slice_index (unwrap_or (cond t (Some no_sums) (get key_cmp c.sums k)) no_sums) p ≡ sum_at c k p
    chosen k p true tie =
        let none_here = ap (λ j. is_some (get key_cmp c.sums j)) (sym (keys_same key k tie)) ∙ none in
        ap (λ ns. slice_index ns p) (sym (absent (get key_cmp c.sums k) none_here))
    chosen k p false tie = refl

-- If an entry of zeros is removed, no sum changes.
pub forgotten_sums : (c d : Counts) (key : Key) → sums_at c key ≡ no_sums
    → ((k : Key) → get key_cmp d.sums k ≡ cond (eq_by_cmp key_cmp key k) None (get key_cmp c.sums k)) → HasSameSums c d
forgotten_sums c d key none is = record { at = λ k p _. ap (λ o. slice_index (unwrap_or o no_sums) p) (is k) ∙ chosen k p (eq_by_cmp key_cmp key k) refl }
  where
    chosen : (k : Key) (p : ℕ) (t : Bool) → eq_by_cmp key_cmp key k ≡ t
        → slice_index (unwrap_or (cond t None (get key_cmp c.sums k)) no_sums) p ≡ sum_at c k p
    chosen k p true tie = ap (λ ns. slice_index ns p) (sym none ∙ ap (sums_at c) (keys_same key k tie))
    chosen k p false tie = refl

-- If an entry of zeros is made at a key, each key that had an entry still has an entry.
pub entered_keys : (c d : Counts) (key : Key)
    → ((k : Key) → get key_cmp d.sums k ≡ cond (eq_by_cmp key_cmp key k) (Some no_sums) (get key_cmp c.sums k)) → KeepsKeys c d
entered_keys c d key is = record { at = λ k h. subst IsSome (sym (is k)) (stays (eq_by_cmp key_cmp key k) (get key_cmp c.sums k) h) }
  where
    stays : (t : Bool) (o : Option (List ℕ)) → IsSome o → IsSome (cond t (Some no_sums) o)
    stays true o h = refl
    stays false o h = h

-- Replace the sums at a key by sums that are greater by a bandwidth at each priority from `hold` to
-- 7. Then the bandwidth is added at this key (`HasMoreAt`).
pub put_more : (c d : Counts) (key : Key) (sums : List ℕ) (hold bandwidth : ℕ) → HasSumsAt c d key sums
    → ((p : ℕ) → p < 8 → slice_index sums p ≡ sum_at c key p + cond (nat_le hold p) bandwidth 0) → HasMoreAt c d key hold bandwidth
put_more c d key sums hold bandwidth is more = record {
  at = λ k p small. ap (λ o. slice_index (unwrap_or o no_sums) p) (is.at k) ∙ chosen k p small (eq_by_cmp key_cmp key k) refl;
}
  where
    and_true : (b : Bool) → b ≡ (b && true)
    and_true true = refl
    and_true false = refl

    without : (b : Bool) (n : ℕ) → n ≡ n + cond (b && false) bandwidth 0
    without true n = omega arith
    without false n = omega arith

    chosen : (k : Key) (p : ℕ) → p < 8 → (t : Bool) → eq_by_cmp key_cmp key k ≡ t
        → slice_index (unwrap_or (cond t (Some sums) (get key_cmp c.sums k)) no_sums) p ≡ sum_at c k p + cond (nat_le hold p && t) bandwidth 0
    chosen k p small true tie =
        more p small
        ∙ (λ i. sum_at c (keys_same key k tie i) p + cond (and_true (nat_le hold p) i) bandwidth 0)
    chosen k p small false tie = without (nat_le hold p) (sum_at c k p)

-- Let `c` have the sums of all placements. If the bandwidth of the placement at index `at` is
-- subtracted on the links of its route, the results are the sums without this placement.
pub count_without : (c d : Counts) (placements : List Placement) (at : ℕ) (p : Placement) → at < length placements
    → IsCountOf c placements → HasMoreAlong d c (get_or placements at p).route (get_or placements at p).hold (get_or placements at p).request.bandwidth
    → IsCountOf d (remove placements at)
count_without c d placements at p within is less = record {
  at = λ k q small. omega (arith, is.at k q small, less.at k q small, sum_by-remove (bandwidth_on k q) placements at p within);
}

-- Let `c` have the sums without the placement at index `at`. If the bandwidth of this placement is
-- added on the links of its route, the results are the sums of all placements.
pub count_with : (c d : Counts) (placements : List Placement) (at : ℕ) (p : Placement) → at < length placements
    → IsCountOf c (remove placements at) → HasMoreAlong c d (get_or placements at p).route (get_or placements at p).hold (get_or placements at p).request.bandwidth
    → IsCountOf d placements
count_with c d placements at p within is more = record {
  at = λ k q small. omega (arith, is.at k q small, more.at k q small, sum_by-remove (bandwidth_on k q) placements at p within);
}

-- Let `c` have the sums of some placements. If the bandwidth of the placement `p` is added on the
-- links of its route, the results are the sums of these placements and `p`.
pub count_more : (c d : Counts) (placements : List Placement) (p : Placement) → IsCountOf c placements
    → HasMoreAlong c d p.route p.hold p.request.bandwidth → IsCountOf d (placements ++ p ∷ [])
count_more c d placements p is more = record {
  at = λ k q small. omega (arith, is.at k q small, more.at k q small, sum_by_push (bandwidth_on k q) placements p);
}

-- If `c` has the sums of some placements, and `d` has the same sums as `c`, `d` has the sums of
-- these placements.
pub count_same : (c d : Counts) (placements : List Placement) → HasSameSums c d → IsCountOf c placements → IsCountOf d placements
count_same c d placements same is = record { at = λ k q small. same.at k q small ∙ is.at k q small }

-- If a bandwidth is added and subtracted again, the sums are the same as before.
pub sums_undone : (c d e : Counts) (links : List Passed) (hold bandwidth : ℕ) → HasMoreAlong c d links hold bandwidth → HasMoreAlong e d links hold bandwidth → HasSameSums c e
sums_undone c d e links hold bandwidth more less = record { at = λ k p small. omega (arith, more.at k p small, less.at k p small) }

-- At each key and priority, the sum over all placements is at least the bandwidth that the
-- placement at index `at` counts.
pub is_counted : (c : Counts) (placements : List Placement) (at : ℕ) (p : Placement) → at < length placements → IsCountOf c placements
    → IsWithinSums c (get_or placements at p)
is_counted c placements at p within is = record {
  at = λ k q small. omega (arith, is.at k q small, sum_by-remove (bandwidth_on k q) placements at p within);
}

-- Let a sum be at most 2 ^ 64 times a version. If it doesn't grow, it is at most 2 ^ 64 times the
-- next version.
pub small_after : (version n m : ℕ) → n ≤ version * 2 ^ 64 → m ≤ n → m ≤ (version + 1) * 2 ^ 64
small_after version n m small less = omega arith

-- Let a sum be at most 2 ^ 64 times a version. If it grows by less than 2 ^ 64, it is at most 2 ^
-- 64 times the next version.
pub small_with : (version n m bandwidth : ℕ) → n ≤ version * 2 ^ 64 → bandwidth < 2 ^ 64 → m ≤ n + bandwidth → m ≤ (version + 1) * 2 ^ 64
small_with version n m bandwidth small narrow more = omega arith

-- `counted` gives the same bandwidth for priority 7 and for each number above 7.
pub counted_least : (placements : List Placement) (k : Key) (p q : ℕ) → q ≡ min p 7 → counted placements k q ≡ counted placements k p
counted_least [] k p q least = refl
counted_least (r ∷ rs) k p q least =
    omega (arith, counted_least rs k p q least, sum_by-cons (bandwidth_on k p) r rs, sum_by-cons (bandwidth_on k q) r rs, same)
  where
    test : nat_le r.hold q ≡ nat_le r.hold p
    test = same_tests (nat_le r.hold q) (nat_le r.hold p) (λ h. let below = r.priority in grind (arith, nat_tests)) (λ h. let below = r.priority in grind (arith, nat_tests))

    same : bandwidth_on k q r ≡ bandwidth_on k p r
    same = ap (λ b. cond (b && has_key r.route k) r.request.bandwidth 0) test

-- Let the version of a book be below 1,000,000. The sums of placements that count no more than the
-- book's placements are below 2 ^ 127.
pub sums_small : (c d : Counts) (placements rest : List Placement) (version : ℕ) → HasSameSums c d → IsCountOf c rest
    → ((k : Key) (p : ℕ) → counted rest k p ≤ counted placements k p)
    → ((k : Key) (p : ℕ) → counted placements k p ≤ version * 2 ^ 64) → version < 1000000 → AreSmall d
sums_small c d placements rest version same is less small few = record {
  at = λ k p below. omega (arith, same.at k p below, is.at k p below, less k p, small k p);
}

-- Placing one request adds at most its bandwidth to the bandwidth that is counted at a key and a
-- priority.
pub counted-placed : (id : ℕ) (placements : List Placement) (p : Placement) (k : Key) (priority : ℕ)
    → counted (others id placements ++ p ∷ []) k priority ≤ counted placements k priority + p.request.bandwidth
counted-placed id placements p k priority =
    omega (arith, sum_by_push (bandwidth_on k priority) (others id placements) p, counted-others id placements k priority, at_most (nat_le p.hold priority && has_key p.route k) p.request.bandwidth)
  where
    at_most : (b : Bool) (n : ℕ) → cond b n 0 ≤ n
    at_most true n = omega arith
    at_most false n = omega arith
