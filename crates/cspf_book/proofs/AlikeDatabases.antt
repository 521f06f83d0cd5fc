-- Databases that differ only in attributes of their links have the same numbers of links, routers and marks.
use Rattle.std.proofs.Common.{◌≡◌, inl, inr, ℕ, ◌+◌, ◌-◌, Bool, true, false, cond, Option, Some, None, is_some, List, [], ◌∷◌, slice_index_or, refl, sym, ap, ◌∙◌, arith}
use Rattle.std.specs.Ordering.{nat_cmp, eq_by_cmp}
use Rattle.std.specs.Cmp.{nat_cmp_total}
use Rattle.std.specs.Option.{option_map}
use Rattle.std.specs.FinMap as map
use Rattle.std.specs.FinSet as set
use Rattle.cspf_model.specs.declared.link.Link.{Link}
use Rattle.cspf_model.specs.declared.batch.Change.{Change}
use Rattle.cspf_model.specs.declared.batch.Change.TheVariants.{Put, Remove, Node}
use Rattle.cspf_model.specs.Database.{Database, Key, key_of, key_cmp, link_at, link_count, router_count, AreAtTheirKeys, IsRouterOf, EndsAt, all_routers}
use Rattle.cspf_model.specs.Numbered.{NumberedChanges}
use Rattle.cspf_model.specs.Changes.{after_change, after_changes, IsPresent, Fits}
use Rattle.cspf_model.proofs.Databases.Keys.{keys_total, keys_same}
use Rattle.cspf_model.proofs.Databases.CountedRouters.{routers_counted}
use Rattle.cspf_book.specs.Placements.{ends_of_link}
use Rattle.cspf_book.specs.Alike.{AreAlike}
use Rattle.cspf_book.proofs.KeyTests.{same_tests}

-- Let two optional links have the same `ends_of_link` (key and neighbor), or both be `None`. If the
-- second is the link `l`, the first is a link with the key and the neighbor of `l`.
pub alike_some : (o p : Option Link) (l : Link) → option_map ends_of_link o ≡ option_map ends_of_link p → p ≡ Some l
    → (m : Link) × (o ≡ Some m) × (ends_of_link m ≡ ends_of_link l)
alike_some (Some m) p l same is =
    let both : Some (ends_of_link m) ≡ Some (ends_of_link l) = same ∙ ap (option_map ends_of_link) is in
    (m, refl, (cc))
alike_some None p l same is = absurd (none_some (same ∙ ap (option_map ends_of_link) is))
  where
    none_some : ◌≡◌ {A = Option (Key × ℕ)} None (Some (ends_of_link l)) → ⊥
    none_some e = cc

-- If two optional links have the same `ends_of_link` (key and neighbor), both are `Some` or both
-- are `None`.
pub alike_is_some : (o p : Option Link) → option_map ends_of_link o ≡ option_map ends_of_link p → is_some o ≡ is_some p
alike_is_some o p same = mapped o ∙ ap is_some same ∙ sym (mapped p)
  where
    mapped : (q : Option Link) → is_some q ≡ is_some (option_map ends_of_link q)
    mapped (Some x) = refl
    mapped None = refl

-- a database differs from itself at most in attributes of its links (`AreAlike`)
pub alike_itself : (d : Database) → AreAlike d d
alike_itself d = record { marks = refl; count = refl; ends = λ k. refl }

-- Let two databases differ only in attributes of their links. If each link of the first is at the
-- link's own key, this is also true of the second.
pub alike_keyed : (d e : Database) → AreAlike d e → AreAtTheirKeys d → AreAtTheirKeys e
alike_keyed d e alike keyed k m is =
    let other = alike_some (link_at d k) (link_at e k) m (sym (alike.ends k)) is in
    sym (ap (λ (x : Key × ℕ). x.0) other.2) ∙ keyed k other.0 other.1

-- Let two databases have links at the same keys, and let the two links at a key run to the same
-- router. Then each router of the first database is a router of the second.
router_too : (d e : Database) → ((k : Key) → option_map ends_of_link (link_at e k) ≡ option_map ends_of_link (link_at d k))
    → (router : ℕ) → IsRouterOf d router → IsRouterOf e router
router_too d e ends router (l, is, at_end) =
    let other = alike_some (link_at e (key_of l)) (link_at d (key_of l)) l (ends (key_of l)) is in
    let key : key_of other.0 ≡ key_of l = ap (λ (x : Key × ℕ). x.0) other.2 in
    let to : other.0.to ≡ l.to = ap (λ (x : Key × ℕ). x.1) other.2 in
    let from : other.0.from ≡ l.from = ap (λ (x : Key). x.0) key in
    (other.0, ap (link_at e) key ∙ other.1, moved other.0 from to at_end)
  where
    moved : (m : Link) → m.from ≡ l.from → m.to ≡ l.to → EndsAt router l → EndsAt router m
    moved m from to (inl a) = inl (from ∙ a)
    moved m from to (inr b) = inr (to ∙ b)

-- Databases that differ only in attributes of their links have the same number of routers.
pub alike_routers : (d e : Database) → AreAlike d e → AreAtTheirKeys d → router_count e ≡ router_count d
alike_routers d e alike keyed =
    ap set.len (set.same_set nat_cmp_total set.nat_cmp-IsAntisymmetric (all_routers e) (all_routers d) (λ r.
    same_tests (set.contains (all_routers e) r) (set.contains (all_routers d) r)
    (λ t. (routers_counted d keyed r).1 (router_too e d (λ k. sym (alike.ends k)) r ((routers_counted e (alike_keyed d e alike keyed) r).0 t)))
    (λ t. (routers_counted e (alike_keyed d e alike keyed) r).1 (router_too d e alike.ends r ((routers_counted d keyed r).0 t)))))

-- Let `x` and `y` have the same key and neighbor, and also `o` and `p`. Let one test choose between
-- `x` and `o`, and also between `y` and `p`. Then the two chosen links have the same key and
-- neighbor.
cond_ends : (t : Bool) (x y o p : Option Link) → option_map ends_of_link x ≡ option_map ends_of_link y
    → option_map ends_of_link o ≡ option_map ends_of_link p
    → option_map ends_of_link (cond t x o) ≡ option_map ends_of_link (cond t y p)
cond_ends true x y o p first second = first
cond_ends false x y o p first second = second

-- Let two databases differ only in attributes of their links. This is still true if, in one of
-- them, a link is replaced by a link with the same key and neighbor.
pub alike_put : (d e : Database) (m : Link) → AreAlike d e
    → option_map ends_of_link (link_at d (key_of m)) ≡ Some (ends_of_link m) → AreAlike d (after_change e (Put m))
alike_put d e m alike there = record {
  marks = alike.marks;
  count =
      map.len-insert keys_total e.links (key_of m) m
      ∙ ap (λ b. cond b (link_count e) (link_count e + 1)) found
      ∙ alike.count;
  ends = λ k.
      ap (option_map ends_of_link) (map.get-insert keys_total e.links (key_of m) m k)
      ∙ at k (eq_by_cmp key_cmp k (key_of m)) refl;
}
  where
    found : is_some (link_at e (key_of m)) ≡ true
    found = alike_is_some (link_at e (key_of m)) (Some m) (alike.ends (key_of m) ∙ there)

    at : (k : Key) (t : Bool) → eq_by_cmp key_cmp k (key_of m) ≡ t
        → option_map ends_of_link (cond t (Some m) (link_at e k)) ≡ option_map ends_of_link (link_at d k)
    at k true tie = sym there ∙ ap (λ q. option_map ends_of_link (link_at d q)) (sym (keys_same k (key_of m) tie))
    at k false off = alike.ends k

-- Two equal numbers stay equal if both of them grow by one, or neither does.
one_more : (a b : Bool) (m n : ℕ) → a ≡ b → m ≡ n → cond a m (m + 1) ≡ cond b n (n + 1)
one_more a b m n p q = λ i. cond (p i) (q i) (q i + 1)

one_less : (a b : Bool) (m n : ℕ) → a ≡ b → m ≡ n → cond a (m - 1) m ≡ cond b (n - 1) n
one_less a b m n p q = λ i. cond (p i) (q i - 1) (q i)

-- Let two databases differ only in attributes of their links. This is still true after the same
-- change is made in both.
alike_change : (d e : Database) (c : Change) → AreAlike d e → AreAlike (after_change d c) (after_change e c)
alike_change d e (Put l) alike = record {
  marks = alike.marks;
  count =
      map.len-insert keys_total e.links (key_of l) l
      ∙ one_more _ _ _ _ (alike_is_some (link_at e (key_of l)) (link_at d (key_of l)) (alike.ends (key_of l))) alike.count
      ∙ sym (map.len-insert keys_total d.links (key_of l) l);
  ends = λ k.
      ap (option_map ends_of_link) (map.get-insert keys_total e.links (key_of l) l k)
      ∙ cond_ends (eq_by_cmp key_cmp k (key_of l)) (Some l) (Some l) (link_at e k) (link_at d k) refl (alike.ends k)
      ∙ sym (ap (option_map ends_of_link) (map.get-insert keys_total d.links (key_of l) l k));
}
alike_change d e (Remove from local) alike = record {
  marks = alike.marks;
  count =
      map.len-remove keys_total e.links (from, local)
      ∙ one_less _ _ _ _ (alike_is_some (link_at e (from, local)) (link_at d (from, local)) (alike.ends (from, local))) alike.count
      ∙ sym (map.len-remove keys_total d.links (from, local));
  ends = λ k.
      ap (option_map ends_of_link) (map.get-remove keys_total e.links (from, local) k)
      ∙ cond_ends (eq_by_cmp key_cmp k (from, local)) None None (link_at e k) (link_at d k) refl (alike.ends k)
      ∙ sym (ap (option_map ends_of_link) (map.get-remove keys_total d.links (from, local) k));
}
alike_change d e (Node router transit) alike = record {
  marks = ap (λ (marks : set.FinSet nat_cmp). cond transit (set.remove marks router) (set.insert marks router)) alike.marks;
  count = alike.count;
  ends = alike.ends;
}

-- Let two databases differ only in attributes of their links. This is still true after the same
-- changes are made in both.
pub alike_changes : (d e : Database) (cs : List Change) → AreAlike d e → AreAlike (after_changes d cs) (after_changes e cs)
alike_changes d e [] alike = alike
alike_changes d e (c ∷ cs) alike =
    alike_changes (after_change d c) (after_change e c) cs (alike_change d e c alike)

-- Let two databases differ only in attributes of their links. If a change removes a link that the
-- first database has, the second database has a link at the same key.
pub present_too : (d e : Database) (c : Change) → AreAlike d e → IsPresent d c → IsPresent e c
present_too d e (Put l) alike present = tt
present_too d e (Node router transit) alike present = tt
present_too d e (Remove from local) alike present =
    alike_is_some (link_at e (from, local)) (link_at d (from, local)) (alike.ends (from, local)) ∙ present

-- Let two databases differ only in attributes of their links. A batch that fits the first also fits
-- the second.
pub alike_fits : (d e : Database) (b : NumberedChanges) → AreAlike d e → AreAtTheirKeys (after_changes d b.changes)
    → Fits d b → Fits e b
alike_fits d e b alike keyed fits =
    let after = alike_changes d e b.changes alike in record {
      short = fits.short;
      once = fits.once;
      present = λ k c h. present_too d e (slice_index_or b.changes k c) alike (fits.present k c h);
      links = omega (arith, after.count, fits.links);
      routers = omega (arith, alike_routers (after_changes d b.changes) (after_changes e b.changes) after keyed, fits.routers);
      marks = omega (arith, ap set.len after.marks, fits.marks);
    }
