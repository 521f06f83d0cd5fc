use Rattle.std.proofs.Common.{arith, refl}
use Rattle.std.proofs.lemmas.Grind.{common_steps}
use Rattle.cspf_rows.specs.Rows.{put_row_of}
use Rattle.cspf_rows.proofs.AttributeLemmas.{put-link}
use Rattle.cspf_rows.proofs.row.Row.put.Goals as goal

pub returns-in-Ok : goal.returns-in-Ok
unfolding put_row_of
returns-in-Ok c = grind (arith, common_steps, put-link c.fields_of_links_and_requests.ensures.links c.in-Ok.link _ refl c.in-Ok.ensures.ok)
