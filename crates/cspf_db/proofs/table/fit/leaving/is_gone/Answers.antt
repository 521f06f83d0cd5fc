use Rattle.std.proofs.Common.{◌≡◌, Bool, true, false, not, filter, nat_eq, slice_index, refl, sym, subst, ◌∙◌}
use Rattle.std.specs.List.{list_any}
use Rattle.std.proofs.lemmas.List.{get_or_default}
use Rattle.cspf_model.specs.Lemmas.GoneRouters.{is_at}
use Rattle.cspf_model.specs.Lemmas.RowsLeft.{is_untouched, links_put}
use Rattle.cspf_db.proofs.Tables.GoneRouters.{puts_there, nothing_left}
use Rattle.cspf_columns.proofs.RouterLists.{rising-router_list}
use Rattle.cspf_db.proofs.table.fit.leaving.is_gone.Goals as goal

off : (b : Bool) → not b ≡ true → b ≡ false
off true on = absurd (cc)
off false on = refl

pub returns : goal.returns
returns c gone =
    let rows = c.args.columns.now.rows.items in
    let routers = c.args.columns.now.routers.items in
    let changes = c.args.changes.now in
    let router : c.index-router.result.now ≡ slice_index routers c.args.place = c.index-router.ensures ∙ get_or_default routers c.args.place c.index-router.result.now 0 c.requires.within in
    let from = rw c.deref.ensures.value at (sym c.any_left_from.ensures ∙ c.if-any_left_from.false) in
    let to = rw (c.deref-2.ensures.value, c.deref-3.ensures.value) at (c.any_left_to.ensures (off c.any_left_to.result gone)) in
    record {
      left = nothing_left rows routers c.args.columns.now.ends.items changes c.args.place (rw c.requires.columns.parts.all (rising-router_list _)) c.requires.columns.parts.ends c.requires.within
          (subst (λ r. list_any (is_untouched changes) (filter (λ l. nat_eq l.from r) rows) ≡ false) router from) to;
      put = subst (λ r. list_any (is_at r) (links_put changes) ≡ false) router (sym (puts_there c.index-router.result.now changes) ∙ sym c.any_puts_at.ensures ∙ c.if-any_puts_at.false);
    }
