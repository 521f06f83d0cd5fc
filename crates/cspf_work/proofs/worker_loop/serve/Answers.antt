use Rattle.std.proofs.Common.{rules, ◌≡◌, ◌<◌, ◌++◌, ◌∙◌, ℕ, List, [], ◌∷◌, length, All, ap, sym, subst, arith}
use Rattle.cspf_jobs.specs.DrawnNumbers.{CounterId, DrawnNumbers}
use Rattle.cspf_work.specs.Working.{indexes}
use Rattle.cspf_work.proofs.Draws.{below_indexes, too_many}
use Rattle.cspf_work.proofs.worker_loop.serve.Goals as goal

pub returns-in-Err-clause-done : goal.returns-in-Err-clause-done
returns-in-Err-clause-done g c =
    let was = c.loop-alloc.invariant.done in
    let is = c.serve_one.ensures.done c.args.worker.now.asker (record { asker = was.asker; done = was.done; versions = was.versions }) in
    record { asker = is.asker; done = is.done; versions = is.versions }

pub loop-alloc-preserved : goal.loop-alloc-preserved
loop-alloc-preserved g c =
    let was = c.loop-alloc.invariant.done in
    let next : indexes c.serve_one.new.worker.done.items ≡ indexes c.loop-alloc.worker.done.items ++ c.draw-index.result ∷ [] = search rules in
    record {
      done = c.serve_one.ensures.done c.args.worker.now.asker (record { asker = was.asker; done = was.done; versions = was.versions });
      fault = c.serve_one.ensures.fault ∙ c.loop-alloc.invariant.fault;
      counter = ap (λ (d : DrawnNumbers). d.counter) c.serve_one.ensures.drawer ∙ c.draw-index.ensures.counter ∙ c.loop-alloc.invariant.counter;
      drawn = ap (λ (d : DrawnNumbers). d.drawn) c.serve_one.ensures.drawer ∙ c.draw-index.ensures.drawn ∙ ap (λ l. l ++ c.draw-index.result ∷ []) c.loop-alloc.invariant.drawn ∙ sym next;
    }

pub returns-clause-drawn : goal.returns-clause-drawn
returns-clause-drawn g c = λ none.
    let bound = length c.args.requests.now in
    let is = c.loop-alloc.invariant in
    let below : All (λ x. x < bound) c.loop-alloc.worker.drawer.drawn =
    subst (λ (xs : List ℕ). All (λ x. x < bound) xs) (sym is.drawn) (below_indexes bound c.loop-alloc.worker.done.items (λ i d less. (is.done.done i d less).inside)) in
    let requests : c.loop-alloc.worker.drawer.counter.requests ≡ bound = ap (λ (k : CounterId). k.requests) is.counter ∙ c.requires.requests in
    let all = c.left.ensures.all in
    let left : c.loop-alloc.worker.drawer.left ≡ 0 = sym c.left.ensures.left ∙ search rules in
    absurd (too_many c.loop-alloc.worker.drawer.drawn bound c.left.ensures.rising below (omega arith))
