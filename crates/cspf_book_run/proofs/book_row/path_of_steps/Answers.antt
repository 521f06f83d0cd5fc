use Rattle.std.proofs.Common.{sym, ◌∙◌}
use Rattle.std.proofs.lemmas.Bool.{false≢true}
use Rattle.cspf_book_run.proofs.RowRequests.{path_read, path_refused}
use Rattle.cspf_book_run.proofs.book_row.path_of_steps.Goals as goal

pub returns-then-leads : goal.returns-then-leads
returns-then-leads c =
    path_read c.args.request.now c.args.steps.now c.in_ok-path.path c.in_ok-path.ensures (c.leads.ensures.0 c.if-leads.true)

pub returns-else-leads : goal.returns-else-leads
returns-else-leads c =
    path_refused c.args.request.now c.args.steps.now c.in_ok-path.path c.in_ok-path.ensures
    (λ leads. false≢true (sym c.if-leads.false ∙ c.leads.ensures.1 leads))
