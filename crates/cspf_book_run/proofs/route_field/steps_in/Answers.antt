use Rattle.std.proofs.Common.{◌≡◌, ◌<◌, ◌∷◌, [], ◌++◌, length, refl, sym, ◌∙◌, arith}
use Rattle.std.proofs.lemmas.Bool.{eqb-false}
use Rattle.cspf_book_run.specs.RouteText.{steps_in}
use Rattle.cspf_book_run.proofs.RouteTexts.{first_step, more_steps, next_step}
use Rattle.cspf_book_run.proofs.route_field.steps_in.Goals as goal

pub loop-rest-preserved : goal.loop-rest-preserved
loop-rest-preserved c =
    let rest = c.loop-rest.rest.now in
    let apart = eqb-false _ _ (sym c.loop-rest-test.ensures) in
    let some : 0 < length rest = omega (arith, apart) in
    let behind = c.split_at.ensures.back in
    let pushed : c.push.new.self.items ≡ c.loop-rest.steps.items ++ first_step rest ∷ [] =
    c.in_ok-push.ensures.items ∙ rw (c.new.ensures, c.new-in-loop-rest.ensures, c.from_be_bytes-local.ensures, c.from_be_bytes-router.ensures) refl in
    rw behind (
      more_steps (steps_in c.args.bytes.now) c.loop-rest.steps.items c.push.new.self.items rest c.loop-rest.invariant.1 some pushed c.loop-rest.invariant.0,
      (next_step rest c.loop-rest.invariant.1 some).1,
    )
