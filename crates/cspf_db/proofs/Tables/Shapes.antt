-- If two databases differ at most in unreserved bandwidths, their lists of routers are equal.
use Rattle.std.proofs.Common.{◌≡◌, ℕ, true, false, cond, T, ◌&&◌, Some, List, [], ◌∷◌, map, refl, sym, ap, subst, ◌∙◌}
use Rattle.std.specs.Ordering.{eq_by_cmp, is_lt}
use Rattle.std.specs.Option.{option_map}
use Rattle.std.specs.List.{flat_map}
use Rattle.std.specs.FinMap as finite
use Rattle.std.specs.FinMap.{entries, entries_sorted, get-entries}
use Rattle.std.specs.FinMap.Entries.{find, below_all, is_sorted, same_entries}
use Rattle.cspf_model.specs.declared.link.Link.{Link}
use Rattle.cspf_model.specs.Database.{Database, Key, key_cmp, ends_of}
use Rattle.cspf_columns.specs.Index.{numbers_in, router_list}
use Rattle.cspf_db.specs.Shapes.{Shape, shape_of, HaveOneShape, ShapesTellRouters}
use Rattle.cspf_model.proofs.Databases.Keys.{keys_total, keys_antisymmetric}

-- the entries `es` with each link replaced by its shape: all attributes of the link except its
-- unreserved bandwidths
abbrev shapes_in : List (Key × Link) → List (Key × Shape)
shapes_in [] = []
shapes_in (e ∷ es) = (e.0, shape_of e.1) ∷ shapes_in es

find-shapes_in : (q : Key) (es : List (Key × Link)) → find key_cmp q (shapes_in es) ≡ option_map shape_of (find key_cmp q es)
find-shapes_in q [] = refl
find-shapes_in q (e ∷ es) =
    elim (eq_by_cmp key_cmp q e.0) as (λ b. cond b (Some (shape_of e.1)) (find key_cmp q (shapes_in es)) ≡ option_map shape_of (cond b (Some e.1) (find key_cmp q es))) [ true ↦ refl | false ↦ find-shapes_in q es ]

-- A key is below all keys of `shapes_in es` exactly if it is below all keys of the entries `es`.
below-shapes_in : (q : Key) (es : List (Key × Link)) → below_all key_cmp q (shapes_in es) ≡ below_all key_cmp q es
below-shapes_in q [] = refl
below-shapes_in q (e ∷ es) = ap (λ b. is_lt (key_cmp q e.0) && b) (below-shapes_in q es)

sorted-shapes_in : (es : List (Key × Link)) → is_sorted key_cmp (shapes_in es) ≡ is_sorted key_cmp es
sorted-shapes_in [] = refl
sorted-shapes_in (e ∷ es) = λ i. below-shapes_in e.0 es i && sorted-shapes_in es i

shapes_rise : (d : Database) → T (is_sorted key_cmp (shapes_in (entries d.links)))
shapes_rise d = subst T (sym (sorted-shapes_in (entries d.links))) (entries_sorted d.links)

-- At each key, `shapes_in` of a database's entries has the shape of the database's link at this
-- key, or nothing if there is no such link.
shape_at : (d : Database) (q : Key) → find key_cmp q (shapes_in (entries d.links)) ≡ option_map shape_of (finite.get d.links q)
shape_at d q = find-shapes_in q (entries d.links) ∙ ap (option_map shape_of) (sym (get-entries d.links q))

-- If two databases differ at most in unreserved bandwidths, their entries are equal after each link
-- is replaced by its shape.
one_list : (d e : Database) → HaveOneShape d e → shapes_in (entries e.links) ≡ shapes_in (entries d.links)
one_list d e is =
    same_entries key_cmp keys_total keys_antisymmetric (shapes_in (entries e.links)) (shapes_in (entries d.links)) (shapes_rise e) (shapes_rise d) (λ q. shape_at e q ∙ is.links q ∙ sym (shape_at d q))

-- for each shape in the list, the two routers of the link with this shape
abbrev ends_in : List (Key × Shape) → List ℕ
ends_in es = flat_map (λ e. e.1.from ∷ e.1.to ∷ []) es

ends-shapes_in : (es : List (Key × Link)) → ends_of (map (λ e. e.1) es) ≡ ends_in (shapes_in es)
ends-shapes_in [] = refl
ends-shapes_in (e ∷ es) = ap (λ ns. e.1.from ∷ e.1.to ∷ ns) (ends-shapes_in es)

-- If two databases differ at most in unreserved bandwidths, they have the same routers in the same
-- order.
pub shapes_tell : ShapesTellRouters
unfolding router_list
shapes_tell d e is =
    ap (λ ns. finite.keys (numbers_in ns)) (ends-shapes_in (entries e.links) ∙ ap ends_in (one_list d e is) ∙ sym (ends-shapes_in (entries d.links)))
