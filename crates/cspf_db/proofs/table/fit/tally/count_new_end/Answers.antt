use Rattle.std.proofs.Common.{Contains, subst, sym, ◌∙◌}
use Rattle.std.proofs.lemmas.Bool.{eqb-true}
use Rattle.cspf_model.specs.declared.link.Link.{Link}
use Rattle.cspf_columns.proofs.RouterColumn.{to_among}
use Rattle.cspf_columns.proofs.RouterLists.{rising-router_list}
use Rattle.cspf_db.proofs.table.fit.tally.count_new_end.Goals as goal

pub count_new-requires : goal.count_new-requires
count_new-requires c = rw (c.deref.ensures.value, c.requires.columns.parts.all) (rising-router_list _)

pub returns-then-eq-clause-none : goal.returns-then-eq-clause-none
returns-then-eq-clause-none c _ =
    let routers = c.args.columns.now.routers.items in
    subst (Contains routers) (eqb-true c.index.result.now.to c.args.link.now.to (sym c.eq.ensures ∙ c.if-eq.true))
    (subst (λ (l : Link). Contains routers l.to) (sym c.index.ensures) (rw c.requires.columns.parts.all (to_among c.args.columns.now.rows.items c.args.at c.index.result.now c.requires.columns.parts.by_key c.requires.bound)))
