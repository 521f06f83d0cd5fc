use Rattle.std.proofs.Common.{sym, ◌∙◌, heap_items, arith}
use Rattle.std.proofs.lemmas.Bool.{false≢true}
use Rattle.cspf_search.proofs.Heaps.{popped_least, popped_key, keyed_left, live_left}
use Rattle.cspf_search.proofs.labels.least.Goals as goal

pub is_live-requires-clause-within : goal.is_live-requires-clause-within
is_live-requires-clause-within c =
    let key =
    popped_key c.args.table.now c.args.request.now c.args.goal c.args.labels.now (heap_items c.args.heap.now) (heap_items c.loop-key.heap) (heap_items c.pop.new.self) c.in-Some.field-0
    c.loop-key.invariant.live c.loop-key.invariant.keyed c.in-Some.ensures.permutation in
    omega (arith, key.index.low, c.requires.many)

pub is_live-requires-clause-some : goal.is_live-requires-clause-some
is_live-requires-clause-some c =
    let key =
    popped_key c.args.table.now c.args.request.now c.args.goal c.args.labels.now (heap_items c.args.heap.now) (heap_items c.loop-key.heap) (heap_items c.pop.new.self) c.in-Some.field-0
    c.loop-key.invariant.live c.loop-key.invariant.keyed c.in-Some.ensures.permutation in
    omega (arith, key.some)

pub returns-then-is_live-clause-some : goal.returns-then-is_live-clause-some
returns-then-is_live-clause-some c =
    let before = c.loop-key.invariant in
    let out = c.in-Some.ensures in
    let live = c.is_live.ensures.0 c.if-is_live.true in
    popped_least c.args.table.now c.args.request.now c.args.goal c.args.labels.now (heap_items c.args.heap.now) (heap_items c.loop-key.heap) (heap_items c.pop.new.self) c.in-Some.field-0
    before.live before.keyed out.permutation before.ordered out.heap_order live.behind live.same

pub loop-key-preserved : goal.loop-key-preserved
loop-key-preserved c =
    let d = c.args.table.now in
    let q = c.args.request.now in
    let before = c.loop-key.invariant in
    let out = c.in-Some.ensures in
    record {
      ordered = (out.heap_order before.ordered).0;
      keyed =
          keyed_left d q c.args.goal c.args.labels.now (heap_items c.args.heap.now) (heap_items c.loop-key.heap) (heap_items c.pop.new.self) c.in-Some.field-0 before.live before.keyed
          out.permutation;
      live =
          live_left d q c.args.goal c.args.labels.now (heap_items c.args.heap.now) (heap_items c.loop-key.heap) (heap_items c.pop.new.self) c.in-Some.field-0 before.live before.keyed
          out.permutation (λ live. false≢true (sym c.if-is_live.false ∙ c.is_live.ensures.1 live));
      fewer = omega (arith, out.len, before.fewer);
    }
