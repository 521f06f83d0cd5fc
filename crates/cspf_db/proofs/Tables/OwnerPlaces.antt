-- Lemmas on the indexes of the routers that own a prefix (`Owns`). The code tests one router after
-- the other.
use Rattle.std.proofs.Common.{◌≡◌, ℕ, ◌+◌, ◌<◌, ◌↔◌, inl, inr, List, [], ◌∷◌, ◌++◌, All, Contains, length, slice_index, slice_index_or, refl, ap, subst, ◌∙◌, arith}
use Rattle.std.specs.List.Sorted.{IsStrictlyIncreasing}
use Rattle.std.proofs.lemmas.Bool.{cases_lt}
use Rattle.std.proofs.lemmas.List.{length-append, get_or_at, get_or_append_left}
use Rattle.std.proofs.lemmas.List.Elements.{All-append, Contains-append_left, Contains-append_right, Contains-append_cases, All-contains}
use Rattle.cspf_addr.specs.PrefixParts.{PrefixParts}
use Rattle.cspf_model.specs.Database.{Database}
use Rattle.cspf_columns.specs.Index.{router_list}
use Rattle.cspf_db.specs.Owners.{AreOwners}
use Rattle.cspf_model.specs.Targets.{Owns}

-- `places` has the indexes of exactly those of the first `n` routers that own the prefix
pub record AreOwnersBelow (d : Database) (prefix : PrefixParts) (n : ℕ) (places : List ℕ) : Type 0 where
  pub within : All (λ at. at < n) places
  pub each : (at : ℕ) → at < n → Contains places at ↔ Owns d prefix (slice_index (router_list d) at)
  pub rising : IsStrictlyIncreasing places

-- A list whose only item is `n` contains no other item.
only_itself : (n k : ℕ) → Contains (n ∷ []) k → n ≡ k
only_itself n k (i, h, is) = let first : 0 ≡ i = omega (arith, h) in ap (λ j. slice_index_or (n ∷ []) j k) first ∙ is

-- Suppose that `places` has the indexes of the owners of the prefix among the first `n` routers. If
-- the next router is an owner, `places` with `n` appended has the indexes of the owners among the
-- first `n + 1` routers.
pub one_more : (d : Database) (prefix : PrefixParts) (n : ℕ) (places : List ℕ) → AreOwnersBelow d prefix n places → Owns d prefix (slice_index (router_list d) n) → AreOwnersBelow d prefix (n + 1) (places ++ n ∷ [])
one_more d prefix n places are owns = record {
  within = All-append (λ at. at < n + 1) places (n ∷ []) (λ k e h. omega (arith, are.within k e h)) (λ k e h. let first : k ≡ 0 = omega (arith, h) in rw first (omega arith));
  each = λ at h.
      elim (cases_lt at n) [
        | inl below ↦ (
          λ among. elim (Contains-append_cases places (n ∷ []) at among) [
            | inl old ↦ (are.each at below).0 old
            | inr new ↦ absurd (omega (arith, below, only_itself n at new))
          ],
          λ is. Contains-append_left places (n ∷ []) at ((are.each at below).1 is),
        )
        | inr from ↦
            let here : n ≡ at = omega (arith, from, h) in
            subst (λ k. Contains (places ++ n ∷ []) k ↔ Owns d prefix (slice_index (router_list d) k)) here
            (λ _. owns, λ _. Contains-append_right places (n ∷ []) n (0, omega arith, refl))
      ];
  rising = λ k h.
      elim (cases_lt (k + 1) (length places)) [
        | inl below ↦ rw (get_or_append_left places (n ∷ []) 0 k (omega (arith, below)), get_or_append_left places (n ∷ []) 0 (k + 1) below) (are.rising k below)
        | inr from ↦
            let last : length places ≡ k + 1 = omega (arith, from, h, length-append places (n ∷ [])) in
            rw (get_or_append_left places (n ∷ []) 0 k (omega (arith, last)), get_or_at places n [] 0 (k + 1) last) (are.within k 0 (omega (arith, last)))
      ];
}

-- Suppose that `places` has the indexes of the owners of the prefix among the first `n` routers. If
-- the next router isn't an owner, `places` also has the indexes of the owners among the first `n +
-- 1` routers.
pub passed_by : (d : Database) (prefix : PrefixParts) (n : ℕ) (places : List ℕ) → AreOwnersBelow d prefix n places → ¬ Owns d prefix (slice_index (router_list d) n) → AreOwnersBelow d prefix (n + 1) places
passed_by d prefix n places are other = record {
  within = λ k e h. omega (arith, are.within k e h);
  each = λ at h.
      elim (cases_lt at n) [
        | inl below ↦ are.each at below
        | inr from ↦
            let here : n ≡ at = omega (arith, from, h) in
            subst (λ k. Contains places k ↔ Owns d prefix (slice_index (router_list d) k)) here
            (λ among. absurd (omega (arith, All-contains (λ at. at < n) places n are.within among)), λ is. absurd (other is))
      ];
  rising = are.rising;
}

-- If `places` has the indexes of the owners of the prefix among the first `n` routers, and there
-- are only `n` routers, `places` has the indexes of all owners.
pub owners_of_all : (d : Database) (prefix : PrefixParts) (n : ℕ) (places : List ℕ) → length (router_list d) ≡ n → AreOwnersBelow d prefix n places → AreOwners d prefix places
owners_of_all d prefix n places all are = record {
  within = λ k e h. omega (arith, all, are.within k e h);
  each = λ at h. are.each at (omega (arith, all, h));
  rising = are.rising;
}
