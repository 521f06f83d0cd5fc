use Rattle.std.proofs.Common.{◌↔◌, ◌+◌, ◌∙◌, ◌++◌, ◌∷◌, [], ℕ, cond, Contains, take, refl, sym, ap, subst}
use Rattle.std.proofs.lemmas.List.{take_all}
use Rattle.std.proofs.lemmas.List.Elements.{All-contains}
use Rattle.std.specs.List.{All}
use Rattle.cspf_model.specs.Database.{IsLinkOf}
use Rattle.cspf_exclusions.specs.Exclusions.{IsExcluded, IsExcludedRouter}
use Rattle.cspf_exclusions.specs.Removals.{IsRemoval, removal_of}
use Rattle.cspf_exclusions.proofs.ListedItems.{AreListed, listed_item}
use Rattle.cspf_exclusions.proofs.WithoutLinks.{excluded_among}
use Rattle.cspf_exclusions.proofs.listing.removals.Goals as goal

pub loop-link-preserved : goal.loop-link-preserved
loop-link-preserved c =
    let xs = c.links-links.result.now in
    let k = c.loop-link.link-index in
    let d = c.args.table.now in
    let parts = c.args.parts.now in
    let x = c.link-item.result in
    let routers : (r : ℕ) → Contains c.deref.result.now r ↔ IsExcludedRouter d parts r =
    subst (λ rs. (r : ℕ) → Contains rs r ↔ IsExcludedRouter d parts r) (sym c.deref.ensures.value) c.in_ok-routers.ensures in
    let link : IsLinkOf d x = subst (IsLinkOf d) (sym c.link-item.is) (c.links-links.ensures.listed.each k x c.loop-link-test.true) in
    subst (AreListed (IsExcluded d parts) (IsRemoval d parts) removal_of (take (k + 1) xs))
    (sym (c.in_ok-add_if.ensures ∙ ap (λ m. cond c.is_excluded-is_excluded.result (c.loop-link.changes.items ++ m ∷ []) c.loop-link.changes.items) c.removal_of.ensures))
    (listed_item (IsExcluded d parts) (IsRemoval d parts) removal_of xs k x c.is_excluded-is_excluded.result c.loop-link.changes.items c.loop-link-test.true c.link-item.is
    (excluded_among d parts c.deref.result.now x c.is_excluded-is_excluded.result routers c.is_excluded-is_excluded.ensures)
    (λ is. (x, link, is, refl)) c.loop-link.invariant)

pub returns : goal.returns
returns c =
    let xs = c.links-links.result.now in
    let d = c.args.table.now in
    let parts = c.args.parts.now in
    let out = c.loop-link.changes.items in
    let all = take_all c.loop-link.link-index xs c.loop-link-test.false in
    let whole : All (λ l. IsExcluded d parts l → Contains out (removal_of l)) xs =
    subst (All (λ l. IsExcluded d parts l → Contains out (removal_of l))) all c.loop-link.invariant.whole in
    record {
      keyed = c.links-links.ensures.keyed;
      each = c.loop-link.invariant.each;
      whole = λ l link is. All-contains (λ m. IsExcluded d parts m → Contains out (removal_of m)) xs l whole (c.links-links.ensures.listed.whole l link) is;
    }
