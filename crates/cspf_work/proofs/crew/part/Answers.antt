use Rattle.std.proofs.Common.{◌++◌, [], ◌∷◌, List, Vec, IfSome, IsNone, sym, ap, ◌∙◌, arith}
use Rattle.core.specs.Option.{option_or}
use Rattle.std.specs.Global.{Global}
use Rattle.std.specs.Vec.Iter.{into_iter_items}
use Rattle.std.proofs.lemmas.List.{map-append}
use Rattle.std.proofs.lemmas.List.Elements.{All-push}
use Rattle.cspf_jobs.specs.DrawnNumbers.{DrawnNumbers}
use Rattle.cspf_publish.specs.AskerStates.{AskerState}
use Rattle.cspf_work.specs.declared.worker.Reply.{Reply}
use Rattle.cspf_work.specs.declared.worker.Worker.{Worker}
use Rattle.cspf_work.specs.Served.{IsFaultOfWorker}
use Rattle.cspf_work.proofs.Faults.{first_fault-push, fault_of_either, none_of_either}
use Rattle.cspf_work.proofs.Filling.{left_step, left_next}
use Rattle.cspf_work.proofs.crew.part.Goals as goal

pub loop-worker-preserved : goal.loop-worker-preserved
loop-worker-preserved c = record {
  left =
      left_step c.loop-worker.yielded c.in-Some.worker (into_iter_items c.loop-worker.worker-iterator) (into_iter_items c.next.new.self) c.args.workers.items c.loop-worker.invariant.left
      c.in-Some.ensures.steps.0;
  askers =
      c.push_reserved.ensures.items ∙ ap (λ (l : List AskerState). l ++ c.in-Some.worker.asker ∷ []) c.loop-worker.invariant.askers
      ∙ sym (map-append (λ (w : Worker). w.asker) c.loop-worker.yielded (c.in-Some.worker ∷ []));
  drawers =
      c.push_reserved-in-loop-worker.ensures.items ∙ ap (λ (l : List DrawnNumbers). l ++ c.in-Some.worker.drawer ∷ []) c.loop-worker.invariant.drawers
      ∙ sym (map-append (λ (w : Worker). w.drawer) c.loop-worker.yielded (c.in-Some.worker ∷ []));
  lists =
      c.push_reserved-in-loop-worker-2.ensures.items ∙ ap (λ (l : List (Vec Reply Global)). l ++ c.in-Some.worker.done ∷ []) c.loop-worker.invariant.lists
      ∙ sym (map-append (λ (w : Worker). w.done) c.loop-worker.yielded (c.in-Some.worker ∷ []));
  fault = rw c.or-first.ensures (fault_of_either c.loop-worker.first c.in-Some.worker.fault c.loop-worker.invariant.fault
      (left_next (λ (w : Worker). IfSome w.fault IsFaultOfWorker) c.loop-worker.yielded c.in-Some.worker (into_iter_items c.loop-worker.worker-iterator) (into_iter_items c.next.new.self)
      c.args.workers.items c.loop-worker.invariant.left c.in-Some.ensures.steps.0 c.requires.faults));
  none = λ none.
      let neither = none_of_either c.loop-worker.first c.in-Some.worker.fault (rw c.or-first.ensures at none) in
      All-push (λ (w : Worker). IsNone w.fault) c.loop-worker.yielded c.in-Some.worker (c.loop-worker.invariant.none neither.0) neither.1;
  first = c.or-first.ensures ∙ ap (λ found. option_or found c.in-Some.worker.fault) c.loop-worker.invariant.first ∙ sym (first_fault-push c.loop-worker.yielded c.in-Some.worker);
  askers_room = (let room = c.loop-worker.invariant.askers_room in let more = c.push_reserved.ensures.capacity in omega arith);
  drawers_room = (let room = c.loop-worker.invariant.drawers_room in let more = c.push_reserved-in-loop-worker.ensures.capacity in omega arith);
  lists_room = (let room = c.loop-worker.invariant.lists_room in let more = c.push_reserved-in-loop-worker-2.ensures.capacity in omega arith);
}
