use Rattle.std.proofs.Common.{rules, inl, inr, ◌<◌, List, length, All, Vec, sym, subst}
use Rattle.std.specs.Global.{Global}
use Rattle.std.proofs.lemmas.List.Elements.{All-map}
use Rattle.cspf_jobs.specs.EachOnce.{HoldsEachOnce}
use Rattle.cspf_work.specs.declared.worker.Reply.{Reply}
use Rattle.cspf_work.specs.declared.worker.Worker.{Worker}
use Rattle.cspf_work.proofs.Draws.{drawn_out, only_memory, rising_lists}
use Rattle.cspf_work.proofs.Joining.{answered, drawn_by}
use Rattle.cspf_work.proofs.Running.{run_inside, run_askers}
use Rattle.cspf_work.proofs.finishing.finish.Goals as goal

pub collect-requires : goal.collect-requires
collect-requires c =
    let is = c.requires.results.2 in
    subst (λ (lists : List (Vec Reply Global)). All (λ (l : Vec Reply Global). All (λ (r : Reply). r.index < length c.args.requests.now) l.items) lists) (sym is.lists)
    (All-map (λ (l : Vec Reply Global). All (λ (r : Reply). r.index < length c.args.requests.now) l.items) (λ (w : Worker). w.done) c.requires.results.1
    (run_inside _ c.args.requests.now c.requires.results.0 c.requires.results.1 is.run))

pub returns-in-Ok-clause-answers : goal.returns-in-Ok-clause-answers
returns-in-Ok-clause-answers c = λ before workers is.
    answered _ c.args.requests.now before workers c.args.results.lists.items c.in-Ok.list.items c.in-Ok.drawn.items c.args.results.askers.items
    is.askers (record { lists_are = is.lists; drawn_are = c.in-Ok.ensures.drawn; placed = c.in-Ok.ensures.placed })
    (search rules) c.in-Ok.ensures.once is.run

pub returns-in-Ok-clause-rising : goal.returns-in-Ok-clause-rising
returns-in-Ok-clause-rising c =
    let workers = c.requires.results.1 in
    let is = c.requires.results.2 in
    rising_lists (length c.args.requests.now) c.in-Ok.drawn.items workers
    (drawn_by workers c.args.results.lists.items c.in-Ok.list.items c.in-Ok.drawn.items (record { lists_are = is.lists; drawn_are = c.in-Ok.ensures.drawn; placed = c.in-Ok.ensures.placed }))
    (drawn_out _ c.args.requests.now c.requires.results.0 workers is.run (is.none (search rules))) is.rising

pub returns-in-Err-clause-error : goal.returns-in-Err-clause-error
returns-in-Err-clause-error c =
    let workers = c.requires.results.1 in
    let is = c.requires.results.2 in
    inl (only_memory (length c.args.requests.now) c.close-word.result workers c.args.results.lists.items c.in-Err.error is.run.some
    (drawn_out _ c.args.requests.now c.requires.results.0 workers is.run (is.none (search rules)))
    (subst (HoldsEachOnce c.close-word.result) is.drawn c.close-word.ensures) is.lists c.in-Err.ensures.error)

pub returns-in-Err-clause-fault : goal.returns-in-Err-clause-fault
returns-in-Err-clause-fault c =
    let workers = c.requires.results.1 in
    let is = c.requires.results.2 in
    inr (
      search rules,
      only_memory (length c.args.requests.now) c.close-word.result workers c.args.results.lists.items c.in-Err.error is.run.some
          (drawn_out _ c.args.requests.now c.requires.results.0 workers is.run (is.none (search rules)))
          (subst (HoldsEachOnce c.close-word.result) is.drawn c.close-word.ensures) is.lists c.in-Err.ensures.error,
    )

pub returns-in-Some-clause-askers : goal.returns-in-Some-clause-askers
returns-in-Some-clause-askers c = λ before workers is. run_askers _ c.args.requests.now before workers c.args.results.askers.items is.askers is.run

pub returns-in-Ok-clause-askers : goal.returns-in-Ok-clause-askers
returns-in-Ok-clause-askers c = λ before workers is. run_askers _ c.args.requests.now before workers c.args.results.askers.items is.askers is.run

pub returns-in-Err-clause-askers : goal.returns-in-Err-clause-askers
returns-in-Err-clause-askers c = λ before workers is. run_askers _ c.args.requests.now before workers c.args.results.askers.items is.askers is.run
