-- The links of an effective database are the base's links, with the bandwidth that the placements
-- leave.
use Rattle.std.proofs.Common.{◌≡◌, true, false, cond, Some, List, [], ◌∷◌, map, refl, sym, ap, ◌∙◌}
use Rattle.std.specs.Ordering.{eq_by_cmp}
use Rattle.std.specs.Option.{option_map}
use Rattle.std.specs.FinMap.{find, entries, get-entries, get-from_entries}
use Rattle.cspf_model.specs.declared.link.Link.{Link}
use Rattle.cspf_model.specs.Database.{Key, key_cmp}
use Rattle.cspf_model.proofs.Databases.Keys.{keys_total}
use Rattle.cspf_book.specs.Effective.{effective_link}
use Rattle.cspf_book.specs.Laws.{HasEffectiveLinks}

-- Apply a function to the links of all entries. A lookup at a key then gives the function's result
-- for the link that was there before.
find-mapped : (f : Link → Link) (es : List (Key × Link)) (k : Key)
    → find key_cmp k (map (λ e. (e.0, f e.1)) es) ≡ option_map f (find key_cmp k es)
find-mapped f [] k = refl
find-mapped f (e ∷ es) k =
    elim (eq_by_cmp key_cmp k e.0) as (λ b. cond b (Some (f e.1)) (find key_cmp k (map (λ e. (e.0, f e.1)) es)) ≡ option_map f (cond b (Some e.1) (find key_cmp k es))) [ true ↦ refl | false ↦ find-mapped f es k ]

-- At each key, the effective database has the base's link with its effective bandwidths.
pub effective_at : HasEffectiveLinks
effective_at base placements k =
    get-from_entries keys_total (map (λ e. (e.0, effective_link placements e.1)) (entries base.links)) k
    ∙ find-mapped (effective_link placements) (entries base.links) k
    ∙ ap (option_map (effective_link placements)) (sym (get-entries base.links k))
