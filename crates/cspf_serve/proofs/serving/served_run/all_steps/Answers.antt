use Rattle.std.proofs.Common.{◌≡◌, ◌<◌, length, ap, sym, ◌∙◌, arith}
use Rattle.std.proofs.lemmas.List.{take_all}
use Rattle.cspf_client.proofs.Prefixes.{IsPrefix-trans}
use Rattle.cspf_publish.specs.JournalSteps.{KnownSteps}
use Rattle.cspf_serve.proofs.StepsOfRun.{counted_later, firsts_more, seen_source}
use Rattle.cspf_serve.proofs.serving.served_run.all_steps.Goals as goal

pub learn-requires : goal.learn-requires
learn-requires g c =
    let item = c.client-item.result in
    let lt : c.loop-client.client-index < length c.args.serving.now = omega arith in
    ap (λ (k : KnownSteps). k.source) c.steps.ensures ∙ (seen_source c.args.serving.now c.loop-client.client-index item c.args.counted.now.publisher.source lt c.client-item.is c.requires
    ∙ sym c.loop-client.invariant.counted.source)

pub loop-client-preserved : goal.loop-client-preserved
loop-client-preserved g c =
    let item = c.client-item.result in
    let lt : c.loop-client.client-index < length c.args.serving.now = omega arith in
    let own : item.state.steps.source ≡ c.loop-client.all.source =
    seen_source c.args.serving.now c.loop-client.client-index item c.args.counted.now.publisher.source lt c.client-item.is c.requires ∙ sym c.loop-client.invariant.counted.source in
    record {
      journal = c.learn.ensures.journal;
      updates = IsPrefix-trans _ _ _ c.loop-client.invariant.updates c.learn.ensures.own;
      counted = counted_later _ _ _ c.loop-client.invariant.counted c.learn.ensures.source c.learn.ensures.own_batches c.learn.ensures.own_count;
      clients =
          firsts_more c.args.serving.now c.loop-client.client-index item c.loop-client.all c.learn.new.self lt c.client-item.is c.loop-client.invariant.clients c.learn.ensures.source c.learn.ensures.own
          (record { source = own ∙ sym c.learn.ensures.source; begins = rw c.steps.ensures at c.learn.ensures.other });
    }

pub returns-clause-clients : goal.returns-clause-clients
returns-clause-clients g c = rw (take_all c.loop-client.client-index c.args.serving.now c.loop-client-test.false) at c.loop-client.invariant.clients
