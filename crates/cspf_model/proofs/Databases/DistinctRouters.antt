-- The length of a list of different routers of a database is at most the number of the database's
-- routers.
use Rattle.std.proofs.Common.{◌≡◌, ℕ, ◌-◌, ◌≤◌, ◌⊎◌, inl, inr, Bool, true, false, cond, Some, List, [], ◌∷◌, length, map, sym, ap, subst, ◌∙◌, arith, nat_eq}
use Rattle.std.specs.Ordering.{nat_cmp, eq_by_cmp}
use Rattle.std.specs.Cmp.{nat_cmp_total}
use Rattle.std.specs.List.{IsDistinct, AllByRecursion, list_any}
use Rattle.std.specs.FinMap as map
use Rattle.std.specs.FinSet as set
use Rattle.cspf_model.specs.declared.link.Link.{Link}
use Rattle.std.proofs.lemmas.List.{nil_from_length}
use Rattle.cspf_model.specs.Changes.{no_links}
use Rattle.cspf_model.specs.Database.{Database, Key, key_of, key_cmp, IsRouterOf, ends_of, router_count}

-- No test gives both true and false.
true_not_false : {A : Type 0} (b : Bool) → b ≡ true → b ≡ false → A
true_not_false b on off = cc

-- If all items of `rs` are members of a set and differ from `r`, they are still members after `r`
-- is removed.
kept : (r : ℕ) (rs : List ℕ) (s : set.FinSet nat_cmp) → AllByRecursion (λ q. nat_eq r q ≡ false) rs
    → AllByRecursion (λ q. set.contains s q ≡ true) rs
    → AllByRecursion (λ q. set.contains (set.remove s r) q ≡ true) rs
kept r [] s apart all = tt
kept r (q ∷ rs) s apart all =
    (set.contains-remove nat_cmp_total s r q ∙ grind (arith, apart.0, all.0), kept r rs s apart.1 all.1)

-- The length of a list of different members of a set is at most the size of the set.
length-le-len : (rs : List ℕ) (s : set.FinSet nat_cmp) → IsDistinct nat_eq rs
    → AllByRecursion (λ q. set.contains s q ≡ true) rs → length rs ≤ set.len s
unfolding IsDistinct
length-le-len [] s apart all = omega arith
length-le-len (r ∷ rs) s apart all =
    let rest = length-le-len rs (set.remove s r) apart.1 (kept r rs s apart.0 all.1) in
    let shorter : set.len (set.remove s r) ≡ set.len s - 1 = set.len-remove nat_cmp_total s r ∙ ap (λ b. cond b (set.len s - 1) (set.len s)) all.0 in
    let some : set.len s ≡ 0 → ⊥ = λ none. true_not_false (set.contains s r) all.0 (ap (λ t. set.contains t r) (set.empty_of_len s none) ∙ set.contains-empty nat_cmp r) in
    omega (arith, rest, shorter, some)

-- If a search of the entries finds a link, the two routers of this link are in the list of the
-- routers of all the entries' links.
ends_found : (q : Key) (l : Link) (router : ℕ) → (l.from ≡ router) ⊎ (l.to ≡ router)
    → (es : List (Key × Link)) → map.find key_cmp q es ≡ Some l
    → list_any (λ y. nat_eq y router) (ends_of (map (λ e. e.1) es)) ≡ true
ends_found q l router is [] found = cc
ends_found q l router is (e ∷ es) found =
    elim (eq_by_cmp key_cmp q e.0) as (λ b. cond b (Some e.1) (map.find key_cmp q es) ≡ Some l → list_any (λ y. nat_eq y router) (ends_of (map (λ e. e.1) (e ∷ es))) ≡ true) [
      | true ↦ λ here. let same : e.1 ≡ l =
          cc in end_first e.1 router
          (subst (λ (x : Link). (x.from ≡ router) ⊎ (x.to ≡ router)) (sym same) is)
          (ends_of (map (λ e. e.1) es))
      | false ↦ λ there. end_later e.1 router (ends_of (map (λ e. e.1) es)) (ends_found q l router is es there)
    ] found
  where
    end_first : (l : Link) (router : ℕ) → (l.from ≡ router) ⊎ (l.to ≡ router) → (rest : List ℕ)
        → list_any (λ y. nat_eq y router) (l.from ∷ l.to ∷ rest) ≡ true
    end_first l router (inl from) rest = grind arith
    end_first l router (inr to) rest = grind arith

    end_later : (l : Link) (router : ℕ) (rest : List ℕ)
        → list_any (λ y. nat_eq y router) rest ≡ true
        → list_any (λ y. nat_eq y router) (l.from ∷ l.to ∷ rest) ≡ true
    end_later l router rest h = grind arith

-- Each router of a database is in the set of the routers at which the database's links begin or
-- end.
pub router_in_ends : (d : Database) (router : ℕ) → IsRouterOf d router
    → set.contains (set.from_list {R = nat_cmp} (ends_of (map.values d.links))) router ≡ true
router_in_ends d router (l, is, stands) =
    set.contains-from_list_nat (ends_of (map.values d.links)) router
    ∙ ends_found (key_of l) l router stands (map.entries d.links)
    (sym (map.get-entries d.links (key_of l)) ∙ is)

-- If all items of a list are routers of a database, all items are in the set of the routers at
-- which the database's links begin or end.
in_ends : (d : Database) (routers : List ℕ) → AllByRecursion (IsRouterOf d) routers
    → AllByRecursion (λ q. set.contains (set.from_list {R = nat_cmp} (ends_of (map.values d.links))) q ≡ true) routers
in_ends d [] all = tt
in_ends d (r ∷ rs) all = (router_in_ends d r all.0, in_ends d rs all.1)

-- The length of a list of different routers of a database is at most the number of the database's
-- routers.
pub length-le-router_count : (d : Database) (routers : List ℕ) → IsDistinct nat_eq routers
    → AllByRecursion (IsRouterOf d) routers → length routers ≤ router_count d
length-le-router_count d routers apart all = length-le-len routers _ apart (in_ends d routers all)

-- The database without links has no routers.
pub router_count-no_links : router_count no_links ≡ 0
router_count-no_links =
    let none : map.entries (map.empty {K = Key} {X = Link} {R = key_cmp}) ≡ [] = nil_from_length _ (sym (map.len-entries _) ∙ map.len-empty key_cmp Link) in
    ap (λ es. set.len (set.from_list {R = nat_cmp} (ends_of (map (λ e. e.1) es)))) none
    ∙ set.len-empty nat_cmp
