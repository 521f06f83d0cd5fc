-- Covered links stay covered. A link is covered at a priority if the placements count at most the
-- link's unreserved bandwidth in the base at this priority.
use Rattle.std.proofs.Common.{◌≡◌, ℕ, ◌+◌, ◌-◌, ◌≤◌, ◌||◌, ◌&&◌, Bool, true, false, not, cond, Option, Some, None, List, [], ◌∷◌, ◌++◌, map, nat_eq, nat_le, slice_index, lit<, refl, sym, ap, subst, ◌∙◌, arith}
use Rattle.std.specs.List.{AllByRecursion}
use Rattle.std.specs.Option.{option_map}
use Rattle.std.proofs.lemmas.List.Sums.{sum_by-cons, sum_by_push}
use Rattle.cspf_model.specs.declared.link.Link.{Link}
use Rattle.cspf_model.specs.declared.request.Request.{Request}
use Rattle.cspf_model.specs.Database.{Database, Key, key_of, link_at}
use Rattle.cspf_model.specs.Admissible.{IsAdmissible}
use Rattle.cspf_model.proofs.Databases.Keys.{keys_same}
use Rattle.cspf_book.specs.declared.placement.Placement.{Placement}
use Rattle.cspf_book.specs.Placements.{passed_of, has_key, bandwidth_on, id_of, others, counted}
use Rattle.cspf_book.specs.Effective.{figure, effective_link, effective}
use Rattle.cspf_book.specs.Laws.{PlacingKeepsCovered, ReleasingKeepsCovered}
use Rattle.cspf_book.proofs.EffectiveLinks.{effective_at}
use Rattle.cspf_book.proofs.Figures.{figure-le, figure-le-left, free-effective_link}
use Rattle.cspf_book.proofs.KeyTests.{same_key_test}

-- At each key and priority, the placements with other ids count at most as much bandwidth as all
-- placements.
pub counted-others : (id : ℕ) (placements : List Placement) (k : Key) (priority : ℕ)
    → counted (others id placements) k priority ≤ counted placements k priority
counted-others id [] k priority = omega arith
counted-others id (p ∷ ps) k priority =
    elim (nat_eq (id_of p) id) as (λ b. counted (cond (not b) (p ∷ others id ps) (others id ps)) k priority ≤ counted (p ∷ ps) k priority) [
      | true ↦ omega (arith, counted-others id ps k priority, sum_by-cons (bandwidth_on k priority) p ps)
      | false ↦ omega (arith, counted-others id ps k priority, sum_by-cons (bandwidth_on k priority) p ps, sum_by-cons (bandwidth_on k priority) p (others id ps))
    ]

-- If a link is covered at a priority, it is still covered after a release.
pub releasing_covered : ReleasingKeepsCovered
releasing_covered placements id l priority covered =
    omega (arith, counted-others id placements (key_of l) priority, covered)

-- Each link of the effective database is a link of the base, with its effective bandwidths.
link_behind : (placements : List Placement) (o : Option Link) (m : Link) → option_map (effective_link placements) o ≡ Some m
    → (l : Link) × (o ≡ Some l) × (effective_link placements l ≡ m)
link_behind placements (Some l) m e = (l, refl, (cc))
link_behind placements None m e = absurd (cc)

-- If a walk in the effective database uses the base's link `l`, the effective bandwidth of `l` is
-- at least the request's bandwidth.
room_on : (base : Database) (placements : List Placement) (q : Request) (k : Key) (walk : List Link)
    → AllByRecursion (IsAdmissible (effective base placements) q) walk → has_key (map passed_of walk) k ≡ true
    → (l : Link) → link_at base k ≡ Some l → q.bandwidth ≤ slice_index (effective_link placements l).free q.setup
room_on base placements q k [] all has l is = absurd (cc)
room_on base placements q k (m ∷ walk) all has l is =
    elim (nat_eq m.from k.0 && nat_eq m.local k.1) as (λ b. (nat_eq m.from k.0 && nat_eq m.local k.1) ≡ b → (b || has_key (map passed_of walk) k) ≡ true → q.bandwidth ≤ slice_index (effective_link placements l).free q.setup) [
      | true ↦ λ here _.
          let key : k ≡ key_of m = keys_same k (key_of m) (same_key_test k (key_of m) ∙ here) in
          let behind = link_behind placements (link_at base (key_of m)) m (sym (effective_at base placements (key_of m)) ∙ all.0.link) in
          let same : Some l ≡ Some behind.0 = sym is ∙ ap (link_at base) key ∙ behind.1 in
          let one : l ≡ behind.0 = cc in
          rw (one, behind.2) all.0.usable.admitted.room
      | false ↦ λ _ later. room_on base placements q k walk all.1 later l is
    ] refl has

-- Let the placements count at most a link's bandwidth. Let the bandwidth of a new placement be at
-- most the effective bandwidth that the other placements leave. Then the link's bandwidth is still
-- enough with the new placement.
within : (counts has : Bool) (bandwidth figure free held all sum : ℕ) → (has ≡ true → bandwidth ≤ figure) → figure ≤ free - held
    → held ≤ all → all ≤ free → sum ≡ held + cond (counts && has) bandwidth 0 → sum ≤ free
within true true bandwidth figure free held all sum room le less covered e = let fits = room refl in omega (arith, fits)
within true false bandwidth figure free held all sum room le less covered e = omega arith
within false has bandwidth figure free held all sum room le less covered e = omega arith

-- If a link is covered at a priority, it is still covered after a request is placed.
pub placing_covered : PlacingKeepsCovered
placing_covered base placements p along seven path walk l priority is small covered =
    let rest : List Placement = others (id_of p) placements in
    let room : has_key p.route (key_of l) ≡ true → p.request.bandwidth ≤ figure l.free (counted rest (key_of l)) priority = λ has.
    let at_setup = room_on base rest p.request (key_of l) along walk.links (ap (λ ls. has_key ls (key_of l)) (sym path) ∙ has) l is in
    let at_seven : p.request.bandwidth ≤ slice_index (effective_link rest l).free 7 = subst (λ s. p.request.bandwidth ≤ slice_index (effective_link rest l).free s) seven at_setup in
    let is_seventh = free-effective_link rest l 7 (lit< tt) in
    let falls = figure-le l.free (counted rest (key_of l)) priority (7 - priority) 7 (omega arith) in
    omega (arith, at_seven, is_seventh, falls) in
    within (nat_le p.hold priority) (has_key p.route (key_of l)) p.request.bandwidth (figure l.free (counted rest (key_of l)) priority)
    (slice_index l.free priority) (counted rest (key_of l) priority) (counted placements (key_of l) priority)
    (counted (rest ++ p ∷ []) (key_of l) priority) room (figure-le-left l.free (counted rest (key_of l)) priority)
    (counted-others (id_of p) placements (key_of l) priority) covered (sum_by_push (bandwidth_on (key_of l) priority) rest p)
