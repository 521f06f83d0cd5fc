use Rattle.std.proofs.Common.{sym, ◌∙◌, arith}
use Rattle.std.proofs.lemmas.List.{get_or_default}
use Rattle.cspf_columns.proofs.PairedRows.{left_out_open, left_out_parted, within_column}
use Rattle.cspf_columns.proofs.reverses.unpair.Goals as goal

pub returns-then-other-clause-parted : goal.returns-then-other-clause-parted
returns-then-other-clause-parted c k has =
    let columns = c.args.columns.now in
    let is = c.requires.paired.reverses in
    let read = get_or_default columns.reverses.items c.args.at 0 c.index-other.result.now (omega (arith, c.requires.within, is.many)) ∙ sym c.index-other.ensures in
    left_out_open columns.rows.items c.requires.paired.tied.by_key c.args.at c.requires.within k has columns.reverses.items (read ∙ c.if-other.true) is

pub index_mut-requires : goal.index_mut-requires
index_mut-requires c =
    let columns = c.args.columns.now in
    let is = c.requires.paired.reverses in
    let read = get_or_default columns.reverses.items c.args.at 0 c.index-other.result.now (omega (arith, c.requires.within, is.many)) ∙ sym c.index-other.ensures in
    let within = within_column columns.rows.items columns.reverses.items c.args.at c.requires.within is (λ z. c.if-other.false (sym read ∙ z)) in
    omega (arith, read, c.from.ensures, within, columns.reverses.ok.0)

pub returns-clause-parted : goal.returns-clause-parted
returns-clause-parted c k has =
    let columns = c.args.columns.now in
    let is = c.requires.paired.reverses in
    let read = get_or_default columns.reverses.items c.args.at 0 c.index-other.result.now (omega (arith, c.requires.within, is.many)) ∙ sym c.index-other.ensures in
    rw c.from.ensures (left_out_parted columns.rows.items c.requires.paired.tied.by_key c.args.at c.requires.within k has columns.reverses.items _ read c.if-other.false is)
