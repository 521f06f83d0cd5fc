use Rattle.std.proofs.Common.{◌<◌, ◌∙◌, sym, subst}
use Rattle.cspf_judge.specs.Reading.{HasReadLines}
use Rattle.cspf_judge.proofs.IdPlaces.{place_within}
use Rattle.cspf_judge.proofs.ReadingSteps.{take_line}
use Rattle.cspf_judge.proofs.audits.replies.read_replies.Goals as goal

pub take-requires : goal.take-requires
take-requires g c = record { within = λ id index is. subst (λ n. index < n) (sym c.loop-line.invariant.counted) (place_within g.A.Asks.spec.id id c.args.requests.now index (sym (c.requires.places id) ∙ is)) }

pub loop-line-preserved : goal.loop-line-preserved
loop-line-preserved g c =
    let next = take_line c.args.lines.now c.loop-line.line-index c.line-item.result c.text.result.now c.loop-line-test.true c.line-item.is c.text.ensures in record {
      counted = c.in_ok-take.ensures.length ∙ c.loop-line.invariant.counted;
      read = λ batches so_many. subst (HasReadLines g.A.Asks.spec batches c.args.requests.now c.take.new.self) next
          (c.in_ok-take.ensures.read batches c.args.requests.now _ so_many c.requires.own c.requires.places (c.loop-line.invariant.read batches so_many));
    }
