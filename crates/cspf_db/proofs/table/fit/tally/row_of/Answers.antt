use Rattle.std.proofs.Common.{◌≡◌, sym, ◌∙◌}
use Rattle.cspf_model.specs.Changes.{link_key, key_changed}
use Rattle.cspf_db.proofs.Tables.SeenRows.{row_of_key}
use Rattle.cspf_db.proofs.table.fit.tally.row_of.Goals as goal

pub returns : goal.returns
returns c =
    let found = c.index_of.ensures in
    let key : link_key (c.key-key.result.0, c.in-Some.local) ≡ key_changed c.args.change.now = (λ i. (c.key-key.result.0, sym c.in-Some.is i)) ∙ c.key-key.ensures in
    row_of_key c.args.rows.now c.args.change.now (c.key-key.result.0, c.in-Some.local) c.index_of.result key (record { bound = found.bound; some = found.some; none = found.none })
