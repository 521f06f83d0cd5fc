use Rattle.std.proofs.Common.{ap, arith}
use Rattle.std.proofs.lemmas.Result.{on_ok_weaker}
use Rattle.cspf_model.specs.declared.link.Link.{Link}
use Rattle.cspf_search.proofs.LegBounds.{link_read}
use Rattle.cspf_search.proofs.bounds.pass.Goals as goal

pub returns-clause-passed : goal.returns-clause-passed
returns-clause-passed c =
    on_ok_weaker c.lower.result
    (λ low. λ l here admitted left.
    let same = link_read _ _ _ _ c.index-links-from.result l c.index-links-from.is c.links.ensures.sorted c.from-2.ensures here in
    (omega (arith, low, ap (λ (k : Link). k.metric) same, c.saturating_add.ensures, c.min-ahead.ensures), λ way. omega (arith, low, c.min-ahead.ensures)))
    c.lower.ensures.low
