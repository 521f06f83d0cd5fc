use Rattle.std.proofs.Common.{Contains, Some, None, true, false, cond, refl, ap, subst, arith}
use Rattle.cspf_model.proofs.Databases.EndCounts.{brings_put}
use Rattle.cspf_columns.proofs.AlikeRows.{contains_alike}
use Rattle.cspf_columns.proofs.RouterColumn.{from_among}
use Rattle.cspf_model.proofs.Databases.FoundLinks.{tells_addition}
use Rattle.cspf_columns.proofs.RouterLists.{rising-router_list}
use Rattle.cspf_db.proofs.Tables.SeenRows.{row_with_key}
use Rattle.cspf_db.proofs.table.fit.tally.tally_put.Goals as goal

pub count_new-requires : goal.count_new-requires
count_new-requires c = rw (c.deref-in-None.ensures.value, c.requires.columns.parts.all) (rising-router_list _)

pub count_new-requires-in-None : goal.count_new-requires-in-None
count_new-requires-in-None c = rw (c.deref-in-None-2.ensures.value, c.requires.columns.parts.all) (rising-router_list _)

pub returns-in-Some-clause-added : goal.returns-in-Some-clause-added
returns-in-Some-clause-added c =
    let at = rw c.in-Some.is at (row_with_key _ _ (c.args.link.now.from, c.args.link.now.local) _ refl c.requires.row) in
    ap (λ b. cond b 1 0) (tells_addition c.args.columns.now.rows.items (c.args.link.now.from, c.args.link.now.local) (Some c.in-Some.at) false refl at.bound at.some tt)

pub returns-in-Some-clause-most : goal.returns-in-Some-clause-most
returns-in-Some-clause-most c s inside =
    let at = rw c.in-Some.is at (row_with_key _ _ (c.args.link.now.from, c.args.link.now.local) _ refl c.requires.row) in
    let from = subst (Contains c.args.columns.now.routers.items) (ap (λ k. k.0) (at.some c.args.link.now)) (rw c.requires.columns.parts.all (from_among c.args.columns.now.rows.items c.in-Some.at c.args.link.now c.requires.columns.parts.by_key at.bound)) in
    omega (arith, brings_put c.args.columns.now.routers.items c.args.link.now 0 c.count_new_end.result (λ _. from) c.count_new_end.ensures.none s inside)

pub returns-in-Some-clause-listed : goal.returns-in-Some-clause-listed
returns-in-Some-clause-listed c none =
    let at = rw c.in-Some.is at (row_with_key _ _ (c.args.link.now.from, c.args.link.now.local) _ refl c.requires.row) in
    let from = subst (Contains c.args.columns.now.routers.items) (ap (λ k. k.0) (at.some c.args.link.now)) (rw c.requires.columns.parts.all (from_among c.args.columns.now.rows.items c.in-Some.at c.args.link.now c.requires.columns.parts.by_key at.bound)) in
    (from, c.count_new_end.ensures.none none)

pub returns-in-None-clause-added : goal.returns-in-None-clause-added
returns-in-None-clause-added c =
    ap (λ b. cond b 1 0) (tells_addition c.args.columns.now.rows.items (c.args.link.now.from, c.args.link.now.local) None true refl tt tt (rw c.in-None.is at (row_with_key _ _ (c.args.link.now.from, c.args.link.now.local) _ refl c.requires.row)).none)

pub returns-in-None-clause-most : goal.returns-in-None-clause-most
returns-in-None-clause-most c =
    brings_put c.args.columns.now.routers.items c.args.link.now c.count_new.result c.count_new-in-None.result (rw c.deref-in-None.ensures.value at c.count_new.ensures.none) (rw c.deref-in-None-2.ensures.value at c.count_new-in-None.ensures.none)

pub returns-in-Some-clause-alike : goal.returns-in-Some-clause-alike
returns-in-Some-clause-alike c on =
    let at = rw c.in-Some.is at (row_with_key _ _ (c.args.link.now.from, c.args.link.now.local) _ refl c.requires.row) in
    contains_alike c.args.columns.now.rows.items c.in-Some.at at.bound c.args.link.now ((rw c.deref.ensures.value at c.is_alike.ensures) on)
