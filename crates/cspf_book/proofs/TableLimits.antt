-- The limits on the database of a table.
use Rattle.std.proofs.Common.{◌≡◌, ℕ, ◌+◌, ◌≤◌, Bool, true, false, cond, List, [], ◌∷◌, length, ap, arith}
use Rattle.std.specs.Ordering.{nat_cmp}
use Rattle.std.specs.Cmp.{nat_cmp_total}
use Rattle.std.specs.FinMap as map
use Rattle.std.specs.FinSet as set
use Rattle.std.proofs.lemmas.List.{length-map}
use Rattle.cspf_model.specs.declared.link.Link.{Link}
use Rattle.cspf_model.specs.declared.limits.TheConstants.{MOST_LINKS, MOST_ROUTERS, MOST_MARKS}
use Rattle.cspf_model.specs.Database.{Database, Key, router_count, AreAtTheirKeys}
use Rattle.cspf_db.specs.Index.{links_of}
use Rattle.cspf_book.specs.Alike.{IsWithinLimits}

-- A set that is made of a list has at most as many elements as the list.
len-from_list-le : (ns : List ℕ) → set.len (set.from_list {R = nat_cmp} ns) ≤ length ns
len-from_list-le [] = omega (arith, set.len-empty nat_cmp)
len-from_list-le (n ∷ ns) =
    omega (arith, len-from_list-le ns, set.len-insert nat_cmp_total (set.from_list {R = nat_cmp} ns) n, one_more (set.contains (set.from_list {R = nat_cmp} ns) n) (set.len (set.from_list {R = nat_cmp} ns)))
  where
    one_more : (b : Bool) (m : ℕ) → cond b m (m + 1) ≤ m + 1
    one_more true m = omega arith
    one_more false m = omega arith

-- Let each link of a database be at the link's own key. The database is within a table's limits
-- (`IsWithinLimits`) if its numbers of links, marks and routers are within these limits.
pub limits_of : (d : Database) (rows : List Link) (marks : List ℕ) → length rows ≤ MOST_LINKS → rows ≡ links_of d
    → router_count d ≤ MOST_ROUTERS → AreAtTheirKeys d → d.marks ≡ set.from_list marks → length marks ≤ MOST_MARKS
    → IsWithinLimits d
limits_of d rows marks few_links listed few_routers keyed marked few_marks = record {
  links = omega (arith, few_links, ap length listed, length-map (map.entries d.links) (λ (e : Key × Link). e.1), map.len-entries d.links);
  routers = few_routers;
  marks = omega (arith, few_marks, ap set.len marked, len-from_list-le marks);
  keyed = keyed;
}
