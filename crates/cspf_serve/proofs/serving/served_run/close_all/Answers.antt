use Rattle.std.proofs.Common.{◌≡◌, ◌∷◌, [], ◌++◌, List, length, vec_len, rules, sym, ap, subst, ◌∙◌, arith}
use Rattle.std.specs.List.{AllZip}
use Rattle.std.specs.Vec.Iter.{into_iter_items}
use Rattle.cspf_client.specs.ServingStates.{ServingState}
use Rattle.cspf_serve.specs.Counted.{CountedState}
use Rattle.cspf_serve.specs.ServedSteps.{IsOfSource, IsServedEnd}
use Rattle.cspf_serve.proofs.Pairs.{pairs_push, room_for_next}
use Rattle.cspf_work.proofs.Filling.{left_none, left_step, left_next}
use Rattle.cspf_serve.proofs.ServedSteps.{closed_of}
use Rattle.cspf_serve.proofs.serving.served_run.close_all.Goals as goal

pub meet-requires : goal.meet-requires
meet-requires g c =
    c.tell.ensures.source ∙ ap (λ (k : CountedState g.row.J.Denot). k.publisher.source) c.loop-client.invariant.same
    ∙ sym ((left_next (IsOfSource {Q = g.row.Q.Denot} {V = g.row.V.Denot} c.args.counted.now.publisher.source) c.loop-client.yielded c.in-Some.client
    (into_iter_items c.loop-client.client-iterator) (into_iter_items c.next.new.self) c.args.serving.items c.loop-client.invariant.left c.in-Some.ensures.steps.0 c.requires.source).0)

pub push_reserved-requires : goal.push_reserved-requires
push_reserved-requires g c =
    let all : vec_len c.args.serving ≡ length c.args.serving.items = search rules in
    let now : vec_len c.loop-client.served ≡ length c.loop-client.served.items = search rules in
    rw now
    (room_for_next (IsServedEnd c.args.counted.now.publisher.batches) _ _ _ _ _ _ _ c.loop-client.invariant.closed c.loop-client.invariant.left c.in-Some.ensures.steps.0 (rw all at c.loop-client.invariant.room))

pub loop-client-preserved : goal.loop-client-preserved
loop-client-preserved g c =
    let batches : c.tell.result.batches ≡ c.args.counted.now.publisher.batches = c.tell.ensures.batches ∙ ap (λ (k : CountedState g.row.J.Denot). k.publisher.batches) c.loop-client.invariant.same in
    record {
      left = left_step _ _ _ _ _ c.loop-client.invariant.left c.in-Some.ensures.steps.0;
      same = c.tell.ensures.same ∙ c.loop-client.invariant.same;
      closed =
          subst (AllZip (IsServedEnd c.args.counted.now.publisher.batches) (c.loop-client.yielded ++ c.in-Some.client ∷ [])) (sym c.push_reserved.ensures.items)
          (pairs_push (IsServedEnd c.args.counted.now.publisher.batches) c.loop-client.yielded c.loop-client.served.items c.in-Some.client c.close.result c.loop-client.invariant.closed
          (closed_of c.args.counted.now.publisher.batches c.tell.result c.copy-known.result c.in-Some.client c.meet.new.self c.close.result batches (c.copy-known.ensures ∙ c.known.ensures) c.meet.ensures.others c.meet.ensures.known c.meet.ensures.met c.close.ensures));
      room = (let room = c.loop-client.invariant.room in let more = c.push_reserved.ensures.capacity in omega arith);
    }

pub returns-clause-closed : goal.returns-clause-closed
returns-clause-closed g c =
    subst (λ (l : List (ServingState g.row.Q.Denot g.row.V.Denot)). AllZip (IsServedEnd c.args.counted.now.publisher.batches) l c.loop-client.served.items) (left_none c.loop-client.yielded (into_iter_items c.loop-client.client-iterator) c.args.serving.items c.loop-client.invariant.left (let zero = c.in-None.ensures.steps.0 in search rules)) c.loop-client.invariant.closed
