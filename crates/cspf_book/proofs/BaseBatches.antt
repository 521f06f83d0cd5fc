-- Changes of the base make the same changes of the effective database.
use Rattle.std.proofs.Common.{◌≡◌, ℕ, zero, suc, ◌+◌, Bool, true, false, cond, Option, Some, None, List, [], ◌∷◌, All, map, refl, sym, ap, ◌∙◌, arith}
use Rattle.std.specs.Ordering.{eq_by_cmp}
use Rattle.std.specs.Option.{option_map}
use Rattle.std.specs.FinMap as map
use Rattle.std.specs.FinSet as set
use Rattle.std.proofs.lemmas.List.{length-map}
use Rattle.cspf_model.specs.declared.link.Link.{Link}
use Rattle.cspf_model.specs.declared.batch.Change.{Change}
use Rattle.cspf_model.specs.declared.batch.Change.TheVariants.{Put, Remove, Node}
use Rattle.cspf_model.specs.Numbered.{NumberedChanges}
use Rattle.cspf_model.specs.Database.{Database, key_of, key_cmp, link_at, link_count, router_count, mark_count, AreAtTheirKeys}
use Rattle.cspf_model.specs.Changes.{link_key, key_changed, after_change, after_changes, IsPresent, Fits}
use Rattle.cspf_model.proofs.Databases.Keys.{keys_total}
use Rattle.cspf_model.proofs.Databases.OneChange.{same_database}
use Rattle.cspf_book.specs.declared.placement.Placement.{Placement}
use Rattle.cspf_book.specs.Effective.{effective_link, effective}
use Rattle.cspf_book.specs.BookState.{BookState}
use Rattle.cspf_book.specs.Leading.{effective_change, base_batch, IsBaseBatch}
use Rattle.cspf_book.specs.Takings.{after_absorbing}
use Rattle.cspf_book.specs.Laws.{ChangesAreEffective}
use Rattle.cspf_book.proofs.AlikeDatabases.{alike_routers, present_too}
use Rattle.cspf_book.proofs.ChangedBases.{keyed_after}
use Rattle.cspf_book.proofs.Currents.{alike_effective}
use Rattle.cspf_book.proofs.EffectiveLinks.{effective_at}
use Rattle.cspf_book.proofs.OneLink.{key_of-effective_link}

-- One change of the base makes the same change of the effective database.
effective-after_change : (base : Database) (placements : List Placement) (c : Change)
    → effective (after_change base c) placements ≡ after_change (effective base placements) (effective_change placements c)
effective-after_change base placements (Put l) =
    same_database (effective (after_change base (Put l)) placements) (after_change (effective base placements) (Put (effective_link placements l))) refl (λ k.
    effective_at (after_change base (Put l)) placements k
    ∙ ap (option_map (effective_link placements)) (map.get-insert keys_total base.links (key_of l) l k)
    ∙ chosen (eq_by_cmp key_cmp k (key_of l)) (link_at base k)
    ∙ ap (cond (eq_by_cmp key_cmp k (key_of l)) (Some (effective_link placements l))) (sym (effective_at base placements k))
    ∙ ap (λ j. cond (eq_by_cmp key_cmp k j) (Some (effective_link placements l)) (link_at (effective base placements) k)) (sym (key_of-effective_link placements l))
    ∙ sym (map.get-insert keys_total (effective base placements).links (key_of (effective_link placements l)) (effective_link placements l) k))
  where
    chosen : (t : Bool) (o : Option Link) → option_map (effective_link placements) (cond t (Some l) o) ≡ cond t (Some (effective_link placements l)) (option_map (effective_link placements) o)
    chosen true o = refl
    chosen false o = refl
effective-after_change base placements (Remove from local) =
    same_database (effective (after_change base (Remove from local)) placements) (after_change (effective base placements) (Remove from local)) refl (λ k.
    effective_at (after_change base (Remove from local)) placements k
    ∙ ap (option_map (effective_link placements)) (map.get-remove keys_total base.links (from, local) k)
    ∙ turned (eq_by_cmp key_cmp k (from, local)) (link_at base k)
    ∙ ap (cond (eq_by_cmp key_cmp k (from, local)) None) (sym (effective_at base placements k))
    ∙ sym (map.get-remove keys_total (effective base placements).links (from, local) k))
  where
    turned : (t : Bool) (o : Option Link) → option_map (effective_link placements) (cond t None o) ≡ cond t None (option_map (effective_link placements) o)
    turned true o = refl
    turned false o = refl
effective-after_change base placements (Node router transit) = refl

-- Changes of the base make the same changes of the effective database.
pub effective-after_changes : ChangesAreEffective
effective-after_changes base placements [] = refl
effective-after_changes base placements (c ∷ cs) =
    effective-after_changes (after_change base c) placements cs
    ∙ ap (λ (d : Database). after_changes d (map (effective_change placements) cs)) (effective-after_change base placements c)

-- A change of the effective database has the key of the base's change.
key_kept : (placements : List Placement) (c : Change) → key_changed (effective_change placements c) ≡ key_changed c
key_kept placements (Put l) = ap link_key (key_of-effective_link placements l)
key_kept placements (Remove from local) = refl
key_kept placements (Node router transit) = refl

keys_kept : (placements : List Placement) (cs : List Change)
    → map key_changed (map (effective_change placements) cs) ≡ map key_changed cs
keys_kept placements [] = refl
keys_kept placements (c ∷ cs) = λ i. key_kept placements c i ∷ keys_kept placements cs i

-- The effective database has the links that changes of the base remove.
present_kept : (base : Database) (placements : List Placement) (cs : List Change) → All (IsPresent base) cs
    → All (IsPresent (effective base placements)) (map (effective_change placements) cs)
present_kept base placements [] all k d within = absurd (omega arith)
present_kept base placements (c ∷ cs) all zero d within = one c (all zero c (omega arith))
  where
    one : (b : Change) → IsPresent base b → IsPresent (effective base placements) (effective_change placements b)
    one (Put l) present = tt
    one (Remove from local) present = present_too base (effective base placements) (Remove from local) (alike_effective base placements) present
    one (Node router transit) present = tt
present_kept base placements (c ∷ cs) all (suc k) d within =
    present_kept base placements cs (λ j e small. all (suc j) e (omega arith)) k d (omega arith)

-- If a batch fits the base, the batch of the same changes of the effective database fits the
-- effective database.
pub base_fits : (base : Database) (placements : List Placement) (b : NumberedChanges) (number : ℕ) → AreAtTheirKeys base
    → Fits base b → Fits (effective base placements) (base_batch placements number b.changes)
base_fits base placements b number keyed fits =
    let next = after_changes base b.changes in
    let after = sym (effective-after_changes base placements b.changes) in
    let alike = alike_effective next placements in record {
      short = omega (arith, length-map b.changes (effective_change placements), fits.short);
      once = rw (keys_kept placements b.changes) fits.once;
      present = present_kept base placements b.changes fits.present;
      links = omega (arith, ap link_count after, alike.count, fits.links);
      routers = omega (arith, ap router_count after, alike_routers next (effective next placements) alike (keyed_after base b.changes keyed), fits.routers);
      marks = omega (arith, ap mark_count after, ap set.len alike.marks, fits.marks);
    }

-- A batch that fits the base leads to the book with the changed base, as a batch of the effective
-- database.
pub base_leads : (s : BookState) (b : NumberedChanges) (number : ℕ) → AreAtTheirKeys s.base → Fits s.base b → number ≡ s.version + 1
    → IsBaseBatch s b.changes (base_batch s.placements number b.changes) (after_absorbing s b.changes)
base_leads s b number keyed fits is = record {
  leads = record {
    number = is;
    version = refl;
    fits = base_fits s.base s.placements b number keyed fits;
    makes = sym (effective-after_changes s.base s.placements b.changes);
  };
  exact = ap (λ n. base_batch s.placements n b.changes) is;
}
