use Rattle.std.proofs.Common.{arith}
use Rattle.std.proofs.lemmas.Grind.{common_steps}
use Rattle.cspf_rows.specs.Rows.{ask_row_of}
use Rattle.cspf_rows.proofs.AttributeLemmas.{ask-request}
use Rattle.cspf_rows.proofs.row.Row.ask.Goals as goal

pub returns-in-Ok : goal.returns-in-Ok
unfolding ask_row_of
returns-in-Ok c = grind (arith, common_steps, ask-request c.fields_of_links_and_requests.ensures.requests c.in-Ok.request _ c.in-Ok.ensures.ok)
