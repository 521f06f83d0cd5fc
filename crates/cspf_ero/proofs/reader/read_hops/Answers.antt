use Rattle.std.proofs.Common.{◌<◌, length, sym, arith}
use Rattle.std.proofs.lemmas.Bool.{eqb-false}
use Rattle.std.proofs.lemmas.List.{length_push}
use Rattle.std.proofs.lemmas.Result.{err_from_is_err_and}
use Rattle.cspf_ero.specs.Reading.{subobject_hops}
use Rattle.cspf_ero.proofs.HopReading.{behind-nil, read_more, read_refused}
use Rattle.cspf_ero.proofs.reader.read_hops.Goals as goal

pub loop-rest-init : goal.loop-rest-init
loop-rest-init c = rw c.none-hops.ensures (behind-nil (subobject_hops 7 4 c.args.body.now))

pub returns-in_err-read_hop : goal.returns-in_err-read_hop
returns-in_err-read_hop c =
    let here : length c.loop-rest.hops < 7 = omega arith in
    let apart = eqb-false _ _ (sym c.loop-rest-test.ensures) in
    let some : 0 < length c.loop-rest.rest.now = omega (arith, apart) in
    let e = err_from_is_err_and c.from_residual.result c.from_residual.ensures.1 in
    rw (e.1, e.2) (read_refused c.args.body.now c.loop-rest.rest.now c.loop-rest.hops c.in_err-read_hop.field-0.0 here some (sym (rw c.len-in-loop-rest.ensures.value at c.in_err-read_hop.ensures.value)) c.loop-rest.invariant)

pub loop-rest-preserved : goal.loop-rest-preserved
loop-rest-preserved c =
    let here : length c.loop-rest.hops < 7 = omega arith in
    let apart = eqb-false _ _ (sym c.loop-rest-test.ensures) in
    let some : 0 < length c.loop-rest.rest.now = omega (arith, apart) in
    let hop = c.in_ok-read_hop.field-0 in
    rw (c.push.ensures, length_push c.loop-rest.hops hop, c.split_at.ensures.back)
    (read_more c.args.body.now c.loop-rest.rest.now c.loop-rest.hops hop here some (sym (rw c.len-in-loop-rest.ensures.value at c.in_ok-read_hop.ensures.value)) c.loop-rest.invariant)
