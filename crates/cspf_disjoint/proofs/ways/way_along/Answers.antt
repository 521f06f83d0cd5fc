use Rattle.std.proofs.Common.{◌≡◌, List, ◌∷◌, [], ◌++◌, sym, subst}
use Rattle.cspf_model.specs.declared.link.Link.{Link}
use Rattle.cspf_model.specs.NetworkLaws.{MayComeNext}
use Rattle.cspf_disjoint.proofs.WayLinks.{end_of-append}
use Rattle.cspf_disjoint.proofs.ways.way_along.Goals as goal

pub loop-row-preserved : goal.loop-row-preserved
loop-row-preserved c =
    let d = c.args.table.now in
    let q = c.args.request.now in
    let more : c.push.new.self.items ≡ c.loop-row.way.items ++ (c.in-Some.link.now ∷ []) = c.in_ok-push.ensures.items in
    let next = subst (λ (walk : List Link). MayComeNext c.args.table.now c.args.request.now walk c.in-Some.link.now) c.deref.ensures.value (c.may_come_next.ensures c.if-not-may_come_next.false) in
    record {
      walk = rw more ((c.worked_marks.ensures.grows d q c.loop-row.way.items c.in-Some.link.now c.loop-row.invariant.walk).1 next);
      end = rw more (sym (end_of-append q.from c.loop-row.way.items c.in-Some.link.now));
    }
