use Rattle.std.proofs.Common.{◌++◌, [], ◌∷◌, List, None, All, refl, sym, ap, ◌∙◌, subst, arith, length-append}
use Rattle.std.specs.Vec.Iter.{into_iter_items}
use Rattle.std.proofs.lemmas.List.Elements.{All-push}
use Rattle.cspf_jobs.specs.DrawnNumbers.{DrawnNumbers}
use Rattle.cspf_publish.specs.AskerStates.{AskerState}
use Rattle.cspf_work.specs.declared.worker.Worker.{Worker}
use Rattle.cspf_work.specs.Working.{IsIdle}
use Rattle.cspf_work.proofs.Filling.{left_step, map_push}
use Rattle.cspf_work.proofs.crew.workers_of.Goals as goal

pub loop-asker-preserved : goal.loop-asker-preserved
loop-asker-preserved c =
    let worker : Worker = record { asker = c.in-Some.asker; drawer = c.split-drawer.result; done = c.new.result; fault = None } in
    record {
      left =
          left_step c.loop-asker.yielded c.in-Some.asker (into_iter_items c.loop-asker.asker-iterator) (into_iter_items c.next.new.self) c.args.askers.items c.loop-asker.invariant.left
          c.in-Some.ensures.steps.0;
      workers =
          map_push (λ (w : Worker). w.asker) c.loop-asker.workers.items c.push_reserved.new.self.items worker c.push_reserved.ensures.items
          ∙ ap (λ (l : List AskerState). l ++ c.in-Some.asker ∷ []) c.loop-asker.invariant.workers;
      idle =
          subst (λ (l : List Worker). All (IsIdle c.args.counter.now) l) (sym c.push_reserved.ensures.items)
          (All-push (IsIdle c.args.counter.now) c.loop-asker.workers.items worker c.loop-asker.invariant.idle
          (record {
            done = c.new.ensures.items;
            fault = refl;
            drawn = ap (λ (d : DrawnNumbers). d.drawn) c.split-drawer.ensures.drawer;
            counter = ap (λ (d : DrawnNumbers). d.counter) c.split-drawer.ensures.drawer;
          }));
      counter = c.split-drawer.ensures.first.1 ∙ c.loop-asker.invariant.counter;
      shares = (let split = c.split-drawer.ensures.first.0 in let was = c.loop-asker.invariant.shares in let more = length-append c.loop-asker.yielded (c.in-Some.asker ∷ []) in omega arith);
      room = (let room = c.loop-asker.invariant.room in let more = c.push_reserved.ensures.capacity in omega arith);
    }
