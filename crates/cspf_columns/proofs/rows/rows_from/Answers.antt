use Rattle.std.proofs.Common.{filter, nat_eq, sym, ap, ◌∙◌}
use Rattle.cspf_model.specs.declared.link.Link.{Link}
use Rattle.cspf_columns.proofs.RowOrder.{links_of-database_of}
use Rattle.cspf_columns.proofs.rows.rows_from.Goals as goal

pub returns : goal.returns
returns c = c.span-first.ensures.rows ∙ ap (filter (λ (l : Link). nat_eq l.from c.args.router)) (sym (links_of-database_of c.args.rows.now c.requires))
