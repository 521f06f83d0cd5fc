use Rattle.std.proofs.Common.{◌≡◌, ◌≤◌, ◌+◌, ◌*◌, ◌<◌, length, refl, ap, arith, heap_items}
use Rattle.cspf_meet.specs.Labels.{rank_at}
use Rattle.cspf_meet.proofs.Guiding.{keys_kept, lowered}
use Rattle.cspf_meet.proofs.guided.Guided.lower.Goals as goal

pub returns-in_ok-push-clause-falls : goal.returns-in_ok-push-clause-falls
returns-in_ok-push-clause-falls c bounds same =
    let at = c.from.result in
    let within : c.from.result < length c.args.self.now.ranks.items = omega (arith, c.from.ensures, c.requires.within, c.args.self.now.many) in
    let less : c.args.rank ≤ rank_at c.args.self.now.ranks.items c.from.result = omega (arith, c.requires.less, ap (rank_at c.args.self.now.ranks.items) c.from.ensures) in
    let key : c.args.over * 1024 + c.from-2.result ≡ (c.args.rank + bounds c.from.result) * 1024 + c.from.result = omega (arith, same, ap bounds c.from.ensures, c.from.ensures, c.from-2.ensures) in
    let small : c.args.over * 1024 + c.from-2.result < 18446744073709551615 = omega (arith, c.requires.small, c.requires.within, c.from-2.ensures) in
    lowered bounds c.args.self.now _ at c.args.rank _ within refl less key
    (keys_kept (heap_items c.args.self.now.heap) (heap_items c.push.new.self) c.args.self.now.next c.min-self.result _ c.max-later.result c.max-later.ensures c.min-self.ensures small c.in_ok-push.ensures.permutation) (omega arith)
