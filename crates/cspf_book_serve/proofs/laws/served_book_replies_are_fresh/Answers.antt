use Rattle.cspf_serve.proofs.FreshLines.{fresh_seats}
use Rattle.cspf_book_serve.proofs.laws.served_book_replies_are_fresh.Goals as goal

pub returns : goal.returns
returns g c = λ kinds begin updates said kept recorded bytes contents writer keep journal clients served keep_after run.
    fresh_seats kinds bytes contents g.V.Reopens.reopens run.after.shown.published served.steps run.steps_of_run.journal.order clients served.clients.items run.clients_served
