-- How a link with its effective bandwidths is computed, and how it replaces the same link with
-- earlier bandwidths. The effective bandwidths are what the placements leave.
use Rattle.std.proofs.Common.{◌≡◌, ◌≢◌, ℕ, zero, suc, ◌-◌, ◌<◌, min, Bool, true, false, cond, Option, Some, None, is_some, List, [], ◌∷◌, length, slice_index, slice_set, slice_index_or, refl, sym, ap, ◌∙◌, arith}
use Rattle.std.proofs.Math.Nat.{ℕ_set}
use mathlib.Core.HLevel.{is_prop→PathP, ¬_prop}
use Rattle.std.specs.Ordering.{eq_by_cmp}
use Rattle.std.specs.List.{IsDistinct}
use Rattle.std.specs.Option.{option_map}
use Rattle.std.specs.FinMap as map
use Rattle.cspf_model.specs.declared.link.Link.{Link}
use Rattle.cspf_model.specs.declared.batch.Change.{Change}
use Rattle.cspf_model.specs.declared.batch.Change.TheVariants.{Put}
use Rattle.cspf_model.specs.Numbered.{NumberedChanges}
use Rattle.cspf_model.specs.Database.{Database, Key, key_of, key_cmp, link_at, link_count, router_count, mark_count, AreAtTheirKeys}
use Rattle.cspf_model.specs.Changes.{after_change, after_changes, IsPresent, Fits}
use Rattle.cspf_model.specs.Fields.{HasLinkFields, fields_of_link}
use Rattle.cspf_model.proofs.Databases.Keys.{keys_total, keys_same}
use Rattle.cspf_model.proofs.Routes.FieldRecords.{links_said}
use Rattle.cspf_book.specs.declared.placement.Placement.{Placement}
use Rattle.cspf_book.specs.Placements.{ends_of_link, counted}
use Rattle.cspf_book.specs.Effective.{figure, figures, effective_link}
use Rattle.cspf_book.specs.Alike.{AreAlike, IsWithinLimits}
use Rattle.cspf_book.proofs.AlikeDatabases.{alike_itself, alike_is_some, alike_put, alike_routers}

-- Links with the same attributes are equal.
pub same_link : (l m : Link) → fields_of_link l ≡ fields_of_link m → l ≡ m
same_link l m e = λ i. record {
  from = (e i).from;
  local = (e i).local;
  to = (e i).to;
  remote = (e i).remote;
  metric = (e i).metric;
  group = (e i).group;
  free = (e i).free;
  eight = is_prop→PathP (λ j. length (e j).free ≡ 8) (λ j. ℕ_set (length (e j).free) 8) l.eight m.eight i;
  two_ends = is_prop→PathP (λ j. (e j).from ≢ (e j).to) (λ j. ¬_prop) l.two_ends m.two_ends i;
}

-- Eight numbers are the effective bandwidths of a link (`figures`) if two conditions are met. The
-- first number is the bandwidth that is left at priority 0. Each later number is the lesser of the
-- previous number and the bandwidth that is left at its priority.
pub eight_figures : (free : List ℕ) (held : ℕ → ℕ) (a b c d e f g h : ℕ) → a ≡ slice_index free 0 - held 0
    → b ≡ min a (slice_index free 1 - held 1) → c ≡ min b (slice_index free 2 - held 2)
    → d ≡ min c (slice_index free 3 - held 3) → e ≡ min d (slice_index free 4 - held 4)
    → f ≡ min e (slice_index free 5 - held 5) → g ≡ min f (slice_index free 6 - held 6)
    → h ≡ min g (slice_index free 7 - held 7) → a ∷ b ∷ c ∷ d ∷ e ∷ f ∷ g ∷ h ∷ [] ≡ figures free held
eight_figures free held a b c d e f g h pa pb pc pd pe pf pg ph =
    let first : a ≡ figure free held 0 = pa in
    let second : b ≡ figure free held 1 = pb ∙ ap (λ x. min x (slice_index free 1 - held 1)) first in
    let third : c ≡ figure free held 2 = pc ∙ ap (λ x. min x (slice_index free 2 - held 2)) second in
    let fourth : d ≡ figure free held 3 = pd ∙ ap (λ x. min x (slice_index free 3 - held 3)) third in
    let fifth : e ≡ figure free held 4 = pe ∙ ap (λ x. min x (slice_index free 4 - held 4)) fourth in
    let sixth : f ≡ figure free held 5 = pf ∙ ap (λ x. min x (slice_index free 5 - held 5)) fifth in
    let seventh : g ≡ figure free held 6 = pg ∙ ap (λ x. min x (slice_index free 6 - held 6)) sixth in
    let eighth : h ≡ figure free held 7 = ph ∙ ap (λ x. min x (slice_index free 7 - held 7)) seventh in
    λ i. first i ∷ second i ∷ third i ∷ fourth i ∷ fifth i ∷ sixth i ∷ seventh i ∷ eighth i ∷ []

-- A link with the effective bandwidths of `l` and with all other attributes of `l` is the effective
-- link of `l`.
pub effective_from : (placements : List Placement) (l r : Link) (free : List ℕ)
    → HasLinkFields r (record (fields_of_link l) { free = free }) → free ≡ figures l.free (counted placements (key_of l))
    → r ≡ effective_link placements l
unfolding effective_link
effective_from placements l r free has e =
    same_link r (effective_link placements l) ((links_said r (record (fields_of_link l) { free = free })).0 has
    ∙ ap (λ f. record (fields_of_link l) { free = f }) e)

-- Replacing the only change of a list gives a list of just the new change.
pub one_change : (cs : List Change) (c : Change) → length cs ≡ 1 → slice_set cs 0 c ≡ c ∷ []
one_change [] c e = absurd (omega arith)
one_change (x ∷ []) c e = refl
one_change (x ∷ y ∷ cs) c e = absurd (omega arith)

-- A batch fits if all it does is replace a link by a link with the same key and neighbor.
pub one_fits : (d : Database) (l : Link) (b : NumberedChanges) → IsWithinLimits d
    → option_map ends_of_link (link_at d (key_of l)) ≡ Some (ends_of_link l) → b.changes ≡ Put l ∷ [] → Fits d b
unfolding IsDistinct
one_fits d l b within there is =
    let alike = alike_put d d l (alike_itself d) there in
    let after : after_changes d b.changes ≡ after_change d (Put l) = ap (after_changes d) is in record {
      short = omega (arith, ap length is);
      once = rw is (tt, tt);
      present = rw is (λ k c h. only k c h);
      links = omega (arith, ap link_count after, alike.count, within.links);
      routers = omega (arith, ap router_count after, alike_routers d (after_change d (Put l)) alike within.keyed, within.routers);
      marks = omega (arith, ap mark_count after, within.marks);
    }
  where
    only : (k : ℕ) (c : Change) → k < 1 → IsPresent d (slice_index_or (Put l ∷ []) k c)
    only zero c h = tt
    only (suc k) c h = absurd (omega arith)

-- A link with other bandwidths has the same key and the same neighbor.
pub ends_from : (l r : Link) (free : List ℕ) → HasLinkFields r (record (fields_of_link l) { free = free }) → ends_of_link r ≡ ends_of_link l
ends_from l r free has =
    ap (λ f. ((f.from, f.local), f.to)) ((links_said r (record (fields_of_link l) { free = free })).0 has)

-- In this module, the database `old` differs from the base only in attributes of its links.
module _ (base old : Database) (k : Key) (keyed : AreAtTheirKeys base) (alike : AreAlike base old) (l m : Link) where
  ends_there : link_at base k ≡ Some l → ends_of_link m ≡ ends_of_link l
      → option_map ends_of_link (link_at base (key_of m)) ≡ Some (ends_of_link m)
  ends_there is ends =
      ap (λ j. option_map ends_of_link (link_at base j)) (ap (λ (e : Key × ℕ). e.0) ends ∙ keyed k l is)
      ∙ ap (option_map ends_of_link) is ∙ ap Some (sym ends)

  -- Let the link `m` have the same key and neighbor as the base's link `l`. Then `old` has a link
  -- with this key and neighbor.
  pub ends_there_too : link_at base k ≡ Some l → ends_of_link m ≡ ends_of_link l
      → option_map ends_of_link (link_at old (key_of m)) ≡ Some (ends_of_link m)
  ends_there_too is ends = alike.ends (key_of m) ∙ ends_there is ends

  pub alike_with : (new : Database) → link_at base k ≡ Some l → ends_of_link m ≡ ends_of_link l → new ≡ after_change old (Put m)
      → AreAlike base new
  alike_with new is ends put = rw put (alike_put base old m alike (ends_there is ends))

-- a link with its effective bandwidths has the same key as the link of the base
pub key_of-effective_link : (placements : List Placement) (l : Link) → key_of (effective_link placements l) ≡ key_of l
unfolding effective_link
key_of-effective_link placements l = refl

-- This module states which links a database has after the base's link at the key `k`, with its
-- effective bandwidths, was put into it.
module _ (base old : Database) (placements : List Placement) (k : Key) (keyed : AreAtTheirKeys base) (alike : AreAlike base old) where
  -- Put the base's link at the key `k` into `old`, with its effective bandwidths. The resulting
  -- database has this link at `k`, and the links of `old` at all other keys.
  pub at_put : (l : Link) (new : Database) → link_at base k ≡ Some l → new ≡ after_change old (Put (effective_link placements l)) → (q : Key)
      → link_at new q ≡ cond (eq_by_cmp key_cmp q k) (option_map (effective_link placements) (link_at base q)) (link_at old q)
  at_put l new is put q =
      ap (λ (d : Database). link_at d q) put
      ∙ map.get-insert keys_total old.links (key_of (effective_link placements l)) (effective_link placements l) q
      ∙ ap (λ j. cond (eq_by_cmp key_cmp q j) (Some (effective_link placements l)) (link_at old q)) (key_of-effective_link placements l ∙ keyed k l is)
      ∙ chosen (eq_by_cmp key_cmp q k) refl
    where
      chosen : (t : Bool) → eq_by_cmp key_cmp q k ≡ t
          → cond t (Some (effective_link placements l)) (link_at old q) ≡ cond t (option_map (effective_link placements) (link_at base q)) (link_at old q)
      chosen true tie = sym (ap (option_map (effective_link placements)) (ap (link_at base) (keys_same q k tie) ∙ is))
      chosen false off = refl

  -- If the base has no link at the key `k`, `old` has no link there either, and nothing has to be
  -- put into `old`.
  pub at_none : link_at base k ≡ None → (q : Key)
      → link_at old q ≡ cond (eq_by_cmp key_cmp q k) (option_map (effective_link placements) (link_at base q)) (link_at old q)
  at_none none q = chosen (eq_by_cmp key_cmp q k) refl
    where
      is_none : (o : Option Link) → is_some o ≡ false → o ≡ None
      is_none (Some x) e = absurd (cc)
      is_none None e = refl

      chosen : (t : Bool) → eq_by_cmp key_cmp q k ≡ t → link_at old q ≡ cond t (option_map (effective_link placements) (link_at base q)) (link_at old q)
      chosen true tie =
          let nothing : link_at base q ≡ None = ap (link_at base) (keys_same q k tie) ∙ none in
          is_none (link_at old q) (alike_is_some (link_at old q) (link_at base q) (alike.ends q) ∙ ap is_some nothing)
          ∙ sym (ap (option_map (effective_link placements)) nothing)
      chosen false off = refl
