use Rattle.std.proofs.Common.{sym, subst}
use Rattle.std.specs.List.Sorted.{IsNonDecreasingBy}
use Rattle.cspf_model.specs.declared.link.Link.{Link}
use Rattle.cspf_columns.proofs.InterfaceRange.{locals_rise}
use Rattle.cspf_columns.proofs.spans.locate.Goals as goal

pub rising_between-requires-clause-rising : goal.rising_between-requires-clause-rising
rising_between-requires-clause-rising c =
    subst (IsNonDecreasingBy (λ (l : Link). l.local)) (sym c.span_near-first.ensures.rows) (locals_rise c.args.rows.now c.args.router c.requires.by_key)
