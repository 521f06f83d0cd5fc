use Rattle.std.proofs.Common.{length, refl, ap, ◌∙◌, arith}
use Rattle.std.specs.FinSet as set
use Rattle.std.specs.Ordering.{nat_cmp}
use Rattle.cspf_model.specs.Lemmas.LinkRows.{database_of}
use Rattle.cspf_model.specs.Lemmas.RowsLeft.{links_put}
use Rattle.cspf_model.specs.Lemmas.CountedEnds.{with_ends}
use Rattle.cspf_columns.proofs.RowOrder.{own_keys}
use Rattle.cspf_columns.proofs.RouterLists.{ends_listed, length-router_list}
use Rattle.cspf_model.proofs.Databases.EndCounts.{router_count-brought, many_put, tells_both}
use Rattle.cspf_db.proofs.table.fit.router_count.has_too_many_routers.Goals as goal
use Rattle.cspf_db.proofs.table.fit.router_count.has_too_many_routers.Goals.{then-add_puts, else-add_puts}

pub returns-then-len-brought-le-MOST_ROUTERS : goal.returns-then-len-brought-le-MOST_ROUTERS
returns-then-len-brought-le-MOST_ROUTERS c =
    let brought = router_count-brought c.args.columns.now.rows.items c.args.changes.now (own_keys _ c.requires.columns.parts.by_key) c.requires.once c.args.columns.now.routers.items c.args.brought (ends_listed c.args.columns.now.rows.items c.args.columns.now.routers.items c.requires.columns.parts.by_key c.requires.columns.parts.all) c.requires.brought in
    let listed = ap length c.requires.columns.parts.all ∙ length-router_list (database_of c.args.columns.now.rows.items) in
    ((λ e. absurd (cc)), λ many. absurd (omega (arith, brought, many, c.if-len-brought-le-MOST_ROUTERS.true, listed)))

pub returns : goal.returns
returns c =
    let rows = c.args.columns.now.rows.items in
    let changes = c.args.changes.now in
    elim c.if-add_puts.branch [
      | then-add_puts w ↦ rw w.result-is (tells_both rows changes (own_keys _ c.requires.columns.parts.by_key) c.requires.once w.add_rows.result c.add_puts.new.routers w.add_rows.new.routers
          (w.if-add_puts.ensures.added ∙ ap (λ s. with_ends s (links_put changes)) c.new-found.ensures) (rw w.deref.ensures.value at w.add_rows.ensures.added) w.add_rows.ensures.few (rw w.deref.ensures.value at w.add_rows.ensures.full))
      | else-add_puts w ↦ rw (w.result-is, w.if-add_puts.false)
          ((λ _. many_put rows changes (own_keys _ c.requires.columns.parts.by_key) c.requires.once (rw c.new-found.ensures at w.if-add_puts.ensures.full)), λ _. refl)
    ]

pub add_puts-requires : goal.add_puts-requires
add_puts-requires c = rw (c.new-found.ensures, set.len-empty nat_cmp) (omega arith)
