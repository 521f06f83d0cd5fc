use Rattle.std.proofs.Common.{length, ◌∙◌}
use Rattle.std.proofs.lemmas.Result.{IfOk-weaker}
use Rattle.std.specs.Fmt.{decimal}
use Rattle.cspf_model.specs.Walks.{cost_of}
use Rattle.cspf_ero.specs.ReplyLine.{measures_text, yes_or_no}
use Rattle.cspf_ero.proofs.Lines.{front_pieces, front_most, id_digits, version_digits, cost_digits, hops_digits, again_letters}
use Rattle.cspf_ero.proofs.reply.route_front.Goals as goal

pub returns-clause-words : goal.returns-clause-words
unfolding measures_text
returns-clause-words c =
    let links = c.args.route.now in
    let again = c.again.result in
    IfOk-weaker c.format.result _ _
    (λ text written. (
      again,
      c.again.ensures,
      rw (c.yes_or_no-again.ensures, c.cost-cost.ensures.value, c.links.ensures.value) at written
          ∙ front_pieces c.args.word.now (decimal c.args.id) (decimal c.args.version) (decimal (cost_of links)) (decimal (length links)) (yes_or_no again),
    ))
    c.format.ensures.ok

pub returns-clause-most : goal.returns-clause-most
returns-clause-most c =
    let links = c.args.route.now in
    let again = c.again.result in
    IfOk-weaker c.format.result _ _
    (λ text written.
    rw (rw (c.yes_or_no-again.ensures, c.cost-cost.ensures.value, c.links.ensures.value) at written)
    (front_most c.args.word.now (decimal c.args.id) (decimal c.args.version) (decimal (cost_of links)) (decimal (length links)) (yes_or_no again)
    (id_digits c.args.id c.ranges.id.fits) (version_digits c.args.version c.ranges.version.fits) (cost_digits (cost_of links) (rw c.cost-cost.ensures.value at c.cost-cost.ensures.small))
    (hops_digits (length links) c.links.ensures.most) (again_letters again)))
    c.format.ensures.ok
