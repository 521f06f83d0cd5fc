use Rattle.std.proofs.Common.{None, cond, ap, ◌∙◌}
use Rattle.cspf_book.specs.ById.{entered}
use Rattle.cspf_book.proofs.ById.{same_test}
use Rattle.cspf_book.proofs.versions.Ids.forget.Goals as goal

pub returns : goal.returns
returns c = record {
  versions = c.remove.ensures.items;
  bits = c.remove-2.ensures.items;
  at = λ other. c.remove-3.ensures.updates.0 other ∙ ap (λ b. cond b None (entered c.args.self.now other)) (same_test c.args.id other);
}
