use Rattle.std.proofs.Common.{◌<◌, sym, ◌∙◌, length}
use Rattle.cspf_model.proofs.Routes.Twice.{meets_start, meets_elsewhere}
use Rattle.cspf_model.proofs.route.Route.again.Goals as goal

pub returns-then-ends_at : goal.returns-then-ends_at
returns-then-ends_at c =
    let links = c.as_slice-links.result.now in
    let some : 0 < length c.as_slice-links.result.now = rw c.as_slice-links.ensures.value c.self.invariant.some in
    let twice = meets_start links c.index-links-0.result some (sym c.ends_at.ensures ∙ c.if-ends_at.true) in
    (λ _. rw (c.as_slice-links.ensures.value ∙ c.self.view_is) at twice, λ _. c.if-ends_at.true)

pub returns-else-ends_at : goal.returns-else-ends_at
returns-else-ends_at c =
    let links = c.as_slice-links.result.now in
    let some : 0 < length c.as_slice-links.result.now = rw c.as_slice-links.ensures.value c.self.invariant.some in
    let answer =
    meets_elsewhere links c.index-links-0.result some (sym c.ends_at.ensures ∙ c.if-ends_at.false) c.ends_meet.result c.ends_meet.ensures in
    rw (c.as_slice-links.ensures.value ∙ c.self.view_is) at answer
