use Rattle.std.proofs.Common.{sym, subst, eqb}
use Rattle.cspf_model.specs.Lemmas.LinkRows.{AreByKey}
use Rattle.cspf_columns.proofs.ReverseColumn.{key_within, none_back_within}
use Rattle.cspf_columns.proofs.RowOrder.{by_key-filter}
use Rattle.cspf_columns.proofs.reverses.reverse_within.Goals as goal

pub index_of-requires : goal.index_of-requires
index_of-requires c =
    rw (c.from-first.ensures, c.from-end.ensures) (subst AreByKey (sym c.requires.span.part) (by_key-filter (λ r. eqb r.from c.args.link.now.to) c.args.rows.now c.requires.by_key))

pub returns-in_default : goal.returns-in_default
returns-in_default c = none_back_within c.args.rows.now c.args.link.now c.args.span.now c.requires.span (rw (c.from-first.ensures, c.from-end.ensures) at c.in_default.ensures.none)

pub index_back-requires-clause-key : goal.index_back-requires-clause-key
index_back-requires-clause-key c =
    key_within c.args.rows.now (c.args.link.now.to, c.args.link.now.remote) c.from-first.result c.from-end.result c.in-Some.at (rw c.from-end.ensures c.requires.span.bound) c.in-Some.ensures.bound c.in-Some.ensures.some
