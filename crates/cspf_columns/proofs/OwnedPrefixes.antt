-- How the rows (links) that begin at a router decide whether the router owns a prefix (`Owns`).
use Rattle.std.proofs.Common.{◌≡◌, ℕ, zero, suc, ◌<◌, ◌↔◌, Bool, true, false, cond, IsTrue, List, [], ◌∷◌, All, Contains, length, nat_eq, slice_index_or, refl, sym, ap, subst, ◌∙◌, arith, rules}
use Rattle.std.specs.List.{HoldsAt, filter}
use Rattle.std.proofs.lemmas.Bool.Decides.{nat_tests}
use Rattle.std.proofs.lemmas.List.Elements.{All-filter, All-contains, All-contains_itself, filter_passes}
use Rattle.cspf_addr.specs.PrefixParts.{PrefixParts}
use Rattle.cspf_addr.specs.Prefixes.{Covers}
use Rattle.cspf_model.specs.declared.link.Link.{Link}
use Rattle.cspf_model.specs.Database.{Database, AreLinksOf, IsLinkOf, IsRouterOf}
use Rattle.cspf_model.specs.Targets.{BeginsWithin, Owns}

-- if an item of a list passes the test, the filter keeps it
pub Contains-filter : {A : Type 0} (p : A → Bool) (xs : List A) (x : A) → Contains xs x → p x ≡ true → Contains (filter p xs) x
Contains-filter p [] x has on = absurd (omega (arith, has.1))
Contains-filter p (y ∷ xs) x (zero, h, is) on = subst (λ b. Contains (cond b (y ∷ filter p xs) (filter p xs)) x) (sym (ap p is ∙ on)) (0, omega arith, is)
Contains-filter p (y ∷ xs) x (suc k, h, is) on =
    let rest = Contains-filter p xs x (k, omega (arith, h), is) on in
    elim (p y) as (λ b. Contains (cond b (y ∷ filter p xs) (filter p xs)) x) [ true ↦ (suc rest.0, omega (arith, rest.1), rest.2) | false ↦ rest ]

same_number : (m n : ℕ) → nat_eq m n ≡ true → m ≡ n
same_number m n tie = grind (arith, nat_tests)

ties : (m n : ℕ) → m ≡ n → nat_eq m n ≡ true
ties m n is = grind (arith, nat_tests)

-- Suppose that `rows` has exactly the links of the database. The test `b` says whether some row
-- that begins at the router has its local address in the prefix. Then `b` says the same of the
-- database's links.
pub tells_link : (prefix : PrefixParts) (router : ℕ) (d : Database) (rows : List Link) (b : Bool)
    → AreLinksOf d rows
    → (b ≡ true → (at : ℕ) × (at < length (filter (λ l. nat_eq l.from router) rows)) × HoldsAt (λ l. Covers prefix l.local) (filter (λ l. nat_eq l.from router) rows) at)
    → (b ≡ false → All (λ l. ¬ Covers prefix l.local) (filter (λ l. nat_eq l.from router) rows))
    → IsTrue b ↔ ((l : Link) × IsLinkOf d l × BeginsWithin prefix router l)
tells_link prefix router d [] true listed hit miss = absurd (omega (arith, (hit refl).1))
tells_link prefix router d (m ∷ rows) true listed hit miss =
    let p : Link → Bool = λ l. nat_eq l.from router in
    let h = hit refl in
    let l : Link = slice_index_or (filter p (m ∷ rows)) h.0 m in
    let has : Contains (m ∷ rows) l = All-filter p (Contains (m ∷ rows)) (m ∷ rows) (All-contains_itself (m ∷ rows)) h.0 m h.1 in
    let begins : BeginsWithin prefix router l = record { from = same_number l.from router (filter_passes p (m ∷ rows) h.0 m h.1); local = h.2 m } in
    (λ _. (l, All-contains (IsLinkOf d) (m ∷ rows) l listed.each has, begins), λ _. refl)
tells_link prefix router d rows false listed hit miss = (
  λ e. absurd (cc),
  λ (l, is, begins). absurd (All-contains (λ m. ¬ Covers prefix m.local) (filter (λ m. nat_eq m.from router) rows) l (miss refl) (Contains-filter (λ m. nat_eq m.from router) rows l (listed.whole l is) (ties l.from router begins.from)) begins.local),
)

-- if the Router ID of a router of the database is in the prefix, the router owns the prefix
-- (`Owns`)
pub owned_itself : (d : Database) (prefix : PrefixParts) (router : ℕ) (b : Bool) → b ≡ true
    → IsRouterOf d router → Covers prefix router → IsTrue b ↔ Owns d prefix router
owned_itself d prefix router b on known covered = search rules

-- Suppose that the Router ID of a router isn't in the prefix. Then the router owns the prefix
-- (`Owns`) exactly if the prefix covers the address of one of the router's interfaces.
pub owned_by_link : (d : Database) (prefix : PrefixParts) (router : ℕ) (b : Bool)
    → IsRouterOf d router → ¬ Covers prefix router
    → IsTrue b ↔ ((l : Link) × IsLinkOf d l × BeginsWithin prefix router l)
    → IsTrue b ↔ Owns d prefix router
owned_by_link d prefix router b known apart tells = search rules
