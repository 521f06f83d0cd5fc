-- The rows (links) that begin at one router are in order of their local addresses. If a prefix
-- covers no address from their lowest to their highest local address, the prefix covers no local
-- address of these rows.
use Rattle.std.proofs.Common.{◌≡◌, ℕ, ◌+◌, ◌-◌, ◌<◌, ◌≤◌, ◌↔◌, inl, inr, Bool, true, false, IsTrue, List, All, length, filter, get_or, nat_eq, slice_index, sym, ap, subst, ◌∙◌, arith, rules}
use Rattle.std.specs.declared.cmp.Ordering.TheVariants.{Less}
use Rattle.std.specs.List.{HoldsAt, between}
use Rattle.std.specs.List.Sorted.{IsNonDecreasingBy}
use Rattle.std.proofs.lemmas.Bool.{cases_eq, eqb-true}
use Rattle.std.proofs.lemmas.List.{get_or_default, get_or_read_under}
use Rattle.std.proofs.lemmas.List.Edits.{length-between, get_or-between}
use Rattle.std.proofs.lemmas.List.Elements.{Contains-get_or, filter_passes}
use Rattle.std.proofs.lemmas.List.Kept.{AllPairs-filter}
use Rattle.cspf_addr.specs.PrefixParts.{PrefixParts}
use Rattle.cspf_addr.specs.Prefixes.{Covers}
use Rattle.cspf_model.specs.declared.link.Link.{Link}
use Rattle.cspf_model.specs.Database.{Database, Key, key_of, key_cmp, AreLinksOf, AreAtTheirKeys, IsRouterOf}
use Rattle.cspf_columns.specs.Index.{links_of, links_from, router_list}
use Rattle.cspf_model.specs.Lemmas.LinkRows.{entry_of, database_of, marked_database, AreByKey}
use Rattle.cspf_model.specs.Targets.{Owns}
use Rattle.cspf_model.proofs.Databases.Keys.{keys_total}
use Rattle.cspf_columns.proofs.SortedEntries.{test_from_true, rises}
use Rattle.cspf_model.proofs.Databases.LinksOfRows.{rows_listed, rows_keyed}
use Rattle.cspf_columns.proofs.RowOrder.{own_keys, links_of-database_of}
use Rattle.cspf_columns.proofs.OwnedPrefixes.{tells_link, owned_by_link}
use Rattle.cspf_columns.proofs.RouterLists.{Contains-router_list, routers_marked}

-- of two keys with the same router, the lower key has the lower address or the same address
local_le : (j k : Key) → key_cmp j k ≡ Less → j.0 ≡ k.0 → j.1 ≤ k.1
local_le j k is tie = search rules

-- the rows (links) that begin at a router are in order of their local addresses
pub locals_rise : (rows : List Link) (router : ℕ) → AreByKey rows → IsNonDecreasingBy (λ l. l.local) (filter (λ l. nat_eq l.from router) rows)
locals_rise rows router by_key i j d le h =
    let p : Link → Bool = λ l. nat_eq l.from router in
    let from_router : (k : ℕ) → k < length (filter p rows) → (get_or (filter p rows) k d).from ≡ router = λ k within. eqb-true _ _ (filter_passes p rows k d within) in
    elim (cases_eq i j) [
      | inl same ↦ omega (arith, ap (λ k. (get_or (filter p rows) k d).local) same)
      | inr apart ↦
          AllPairs-filter (λ l m. l.from ≡ m.from → l.local ≤ m.local) p rows
          (λ a b e low within. local_le (key_of (get_or rows a e)) (key_of (get_or rows b e)) (rises keys_total entry_of rows (test_from_true _ by_key) a b e low within)) i j d (omega (arith, le)) h
          (from_router i (omega (arith, le, h)) ∙ sym (from_router j h))
    ]

-- Lemmas on a range of rows (links) in order of their local addresses. The first row of the range
-- has the lowest address, and the last row has the highest address.
module _ (rows : List Link) (first end : ℕ) (some : first < end) (bound : end ≤ length rows) (rising : IsNonDecreasingBy (λ l. l.local) (between first end rows)) where
  long : length (between first end rows) ≡ end - first
  long = length-between rows first end bound

  pub lowest_first : (e : Link) → All (λ l. (get_or rows first e).local ≤ l.local) (between first end rows)
  lowest_first e k d h =
      let start : first + 0 ≡ first = omega arith in
      let bottom : (get_or (between first end rows) 0 d).local ≡ (get_or rows first e).local =
      ap (λ (l : Link). l.local) (get_or-between rows first end 0 d (omega (arith, some)) ∙ ap (λ i. get_or rows i d) start ∙ get_or_default rows first d e (omega (arith, some, bound))) in
      omega (arith, bottom, rising 0 k d (omega arith) h)

  pub highest_last : (e : Link) → All (λ l. l.local ≤ (get_or rows (end - 1) e).local) (between first end rows)
  highest_last e k d h =
      let last : first + (end - first - 1) ≡ end - 1 = omega (arith, some) in
      let top : (get_or (between first end rows) (end - first - 1) d).local ≡ (get_or rows (end - 1) e).local =
      ap (λ (l : Link). l.local) (get_or-between rows first end (end - first - 1) d (omega (arith, some)) ∙ ap (λ i. get_or rows i d) last ∙ get_or_default rows (end - 1) d e (omega (arith, some, bound))) in
      omega (arith, top, rising k (end - first - 1) d (omega (arith, h, long)) (omega (arith, some, long)))

-- the router at an index of the table's column of routers is the router at the same index of the
-- database's `router_list`
pub router_at : (d : Database) (rows : List Link) (marks : List ℕ) (routers : List ℕ) (at router : ℕ) → marked_database rows marks ≡ d → routers ≡ router_list (database_of rows) → at < length (router_list d)
    → router ≡ get_or routers at router → router ≡ slice_index (router_list d) at
router_at d rows marks routers at router e all h read = search (rules, get_or_read_under, routers_marked)

-- each router in `router_list` is a router of the database
pub known_at : (d : Database) (rows : List Link) (marks : List ℕ) (at : ℕ) → marked_database rows marks ≡ d → at < length (router_list d) → IsRouterOf d (slice_index (router_list d) at)
known_at d rows marks at e h = (Contains-router_list d (subst AreAtTheirKeys e (rows_keyed rows)) (slice_index (router_list d) at)).0 (Contains-get_or (router_list d) at 0 h)

-- Marks don't change the links of a database. A mark says that a router has no transit.
pub links_marked : (rows : List Link) (marks : List ℕ) (links : List Link) → AreLinksOf (database_of rows) links → AreLinksOf (marked_database rows marks) links
links_marked rows marks links are = record { each = are.each; whole = are.whole }

-- Suppose that a prefix doesn't cover a router's Router ID. Then the router owns the prefix
-- (`Owns`) exactly if the prefix covers the local address of a link that begins at the router.
pub owned_by_links : (d : Database) (rows : List Link) (marks : List ℕ) (part : List Link) (prefix : PrefixParts) (router : ℕ) (b : Bool) → marked_database rows marks ≡ d → AreByKey rows → IsRouterOf d router → part ≡ links_from d router
    → ¬ Covers prefix router → (b ≡ true → (at : ℕ) × (at < length part) × HoldsAt (λ l. Covers prefix l.local) part at) → (b ≡ false → All (λ l. ¬ Covers prefix l.local) part)
    → IsTrue b ↔ Owns d prefix router
owned_by_links d rows marks part prefix router b e by_key known is apart hit miss =
    let links : AreLinksOf (marked_database rows marks) rows = links_marked rows marks rows (rows_listed rows (own_keys rows by_key)) in
    let listed : AreLinksOf d (links_of d) =
    subst (λ o. AreLinksOf o (links_of o)) e (subst (AreLinksOf (marked_database rows marks)) (sym (links_of-database_of rows by_key)) links) in
    owned_by_link d prefix router b known apart (tells_link prefix router d (links_of d) b listed (subst (λ ls. b ≡ true → (at : ℕ) × (at < length ls) × HoldsAt (λ l. Covers prefix l.local) ls at) is hit) (subst (λ ls. b ≡ false → All (λ (l : Link). ¬ Covers prefix l.local) ls) is miss))
