use Rattle.std.proofs.Common.{◌≡◌, ◌<◌, arith}
use Rattle.std.proofs.lemmas.Bool.Decides.{nat_tests}
use Rattle.cspf_columns.proofs.RowOrder.{from_rises}
use Rattle.cspf_columns.proofs.RowSpans.{run_between}
use Rattle.cspf_columns.proofs.spans.is_run.Goals as goal

pub returns-then-eq : goal.returns-then-eq
returns-then-eq c = λ on.
    let some : c.args.first < c.args.end = omega arith in
    let from : c.index-rows-first.result.from ≡ c.args.router = grind (arith, nat_tests) in
    let to : c.index-rows-end.result.from ≡ c.args.router = grind (arith, nat_tests) in
    run_between c.args.rows.now c.args.router c.args.first c.args.end c.index-rows-first.result c.index-rows-end.result (from_rises c.args.rows.now c.requires.by_key) some c.requires.bound c.index-rows-first.is c.index-rows-end.is from to
