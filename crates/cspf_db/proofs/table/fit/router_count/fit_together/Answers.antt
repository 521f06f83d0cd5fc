use Rattle.std.proofs.Common.{◌≡◌, ◌≤◌, true, All, ap, subst, arith}
use Rattle.std.specs.Bool.{OnTrue}
use Rattle.std.specs.FinSet as set
use Rattle.std.specs.Ordering.{nat_cmp}
use Rattle.std.proofs.lemmas.List.Elements.{All-contains}
use Rattle.cspf_columns.proofs.RowOrder.{own_keys}
use Rattle.cspf_columns.proofs.RouterLists.{listed_from_ends}
use Rattle.cspf_model.specs.Lemmas.RowsLeft.{links_put}
use Rattle.cspf_model.specs.Lemmas.CountedEnds.{with_ends}
use Rattle.cspf_model.proofs.Databases.EndCounts.{router_count-within}
use Rattle.cspf_db.proofs.table.fit.router_count.fit_together.Goals as goal

pub add_routers-requires : goal.add_routers-requires
add_routers-requires c = rw (c.new-found.ensures, set.len-empty nat_cmp) (omega arith)

pub returns-then-add_routers : goal.returns-then-add_routers
returns-then-add_routers c on =
    let rows = c.args.columns.now.rows.items in
    let changes = c.args.changes.now in
    let routers = c.args.columns.now.routers.items in
    let seed : set.FinSet nat_cmp = c.add_routers.new.routers in
    let grown : set.FinSet nat_cmp = c.add_puts.new.routers in
    let among : All (λ r. set.contains seed r ≡ true) routers = rw c.deref.ensures.value at c.if-add_routers.ensures.added in
    let added : grown ≡ with_ends seed (links_put changes) = subst (λ b. OnTrue b (grown ≡ with_ends seed (links_put changes))) on c.add_puts.ensures.added in
    let few : set.len grown ≤ 1024 = subst (λ b. OnTrue b (set.len grown ≤ 1024)) on c.add_puts.ensures.few in
    let within =
    router_count-within rows changes (own_keys rows c.requires.columns.parts.by_key) c.requires.once seed (λ q there.
    All-contains (λ r. set.contains seed r ≡ true) routers q among (listed_from_ends rows routers q c.requires.columns.parts.by_key c.requires.columns.parts.all there)) in
    omega (arith, within, few, ap set.len added)
