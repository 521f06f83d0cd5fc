use Rattle.std.proofs.Common.{◌≡◌, ◌<◌, ℕ, slice_index, length, refl, ap, ◌∙◌, arith}
use Rattle.std.proofs.lemmas.List.Elements.{at_read}
use Rattle.cspf_db.specs.Index.{router_list}
use Rattle.cspf_trees.proofs.SoleTargets.{sole_owner_at}
use Rattle.cspf_trees.proofs.owners.read_owner.Goals as goal

pub returns-in-len1 : goal.returns-in-len1
returns-in-len1 c =
    let d = c.args.table.now in
    let places = c.list_owners.new.owners.items in
    let one : length places ≡ 1 = omega (arith, c.in-len1.len_at_least, c.in-len1.len_below, ap length c.as_slice.ensures.value) in
    let place : c.from.result ≡ slice_index places 0 = c.from.ensures ∙ ap (λ xs. slice_index xs 0) c.as_slice.ensures.value in
    let listed : slice_index places 0 < length (router_list d) = c.list_owners.ensures.owners.within 0 0 (omega (arith, one)) in
    let within : c.from.result < length c.routers.result.now = omega (arith, listed, place, ap length c.routers.ensures.all) in
    let read : c.index-routers-from.result ≡ slice_index c.routers.result.now c.from.result =
    at_read c.routers.result.now (λ (y : ℕ). c.index-routers-from.result ≡ y) c.from.result c.index-routers-from.result within c.index-routers-from.is refl 0 in
    let is : c.index-routers-from.result ≡ slice_index (router_list d) (slice_index places 0) =
    read ∙ ap (λ xs. slice_index xs c.from.result) c.routers.ensures.all ∙ ap (slice_index (router_list d)) place in
    rw is (sole_owner_at d c.args.prefix places one c.list_owners.ensures.owners (rw c.routers.ensures.all at c.routers.ensures.known))
