use Rattle.std.proofs.Common.{ap, arith}
use Rattle.std.proofs.lemmas.Result.{on_ok_weaker}
use Rattle.cspf_model.specs.declared.link.Link.{Link}
use Rattle.cspf_search.proofs.LegBounds.{link_read}
use Rattle.cspf_search.proofs.tree_steps.pass.Goals as goal

pub returns-clause-passed : goal.returns-clause-passed
returns-clause-passed c =
    on_ok_weaker c.lower.result
    (λ low. λ l here affinity.
    let same = link_read _ _ _ _ c.index-links-from.result l c.index-links-from.is c.links.ensures.sorted c.from.ensures here in
    let metric = ap (λ (k : Link). k.metric) same in (
      (omega (arith, low.0, metric, c.saturating_add.ensures, c.min-ahead.ensures), λ way. omega (arith, low.0, c.min-ahead.ensures)),
      λ just. low.1 (omega (arith, just, low.0, metric, c.saturating_add.ensures, c.min-ahead.ensures)),
    ))
    c.lower.ensures.near
