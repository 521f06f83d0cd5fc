use Rattle.std.proofs.Common.{rules, ◌≡◌, ◌≤◌, ℕ, List, All, length, inr, sym, subst, ◌∙◌}
use Rattle.std.proofs.lemmas.List.Elements.{All-weaker}
use Rattle.std.proofs.lemmas.Result.{IfOk-at_ok}
use Rattle.cspf_publish.specs.declared.answer.Answer.{Answer}
use Rattle.cspf_publish.specs.Histories.{BeginsWith}
use Rattle.cspf_publish.specs.AskerStates.{AskerState}
use Rattle.cspf_publish.specs.PublisherStates.{PublisherState}
use Rattle.cspf_work.specs.Served.{AreAnsweredByWorkers, AreSameAskers, IsUnaccounted}
use Rattle.cspf_work.specs.Strays.{IsFirstStray}
use Rattle.cspf_work.proofs.Running.{left_of, of_results}
use Rattle.cspf_work.proofs.StrayVersions.{unaccounted_of}
use Rattle.cspf_work.proofs.Telling.{answered_later, same_through, sources_kept, within_published}
use Rattle.cspf_work.proofs.answering_live.run_lent.Goals as goal

pub finish-askers-requires-clause-results : goal.finish-askers-requires-clause-results
finish-askers-requires-clause-results g c =
    left_of _ _ c.args.requests.now c.args.askers.items _ _ _ c.in-Ok-employ.ensures.counter (c.in-Ok-employ.ensures.ready c.args.requests.now (search rules)) c.run_beside-results.ensures.results

pub tell_each-requires : goal.tell_each-requires
tell_each-requires g c =
    sources_kept c.args.publisher.now.source c.run_beside-results.new.publisher.source c.args.askers.items c.finish-askers.result.0.items
    c.run_beside-results.ensures.applied.source c.requires.source
    (of_results (λ known. AreSameAskers known c.finish-askers.result.0.items) _ _ c.args.requests.now c.args.askers.items _ _ _ c.in-Ok-employ.ensures.counter (c.in-Ok-employ.ensures.ready c.args.requests.now (search rules)) c.run_beside-results.ensures.results c.finish-askers.ensures.askers)

pub returns-in-None-clause-askers : goal.returns-in-None-clause-askers
returns-in-None-clause-askers g c =
    same_through _ _ _ (of_results (λ known. AreSameAskers known c.finish-askers.result.0.items) _ _ c.args.requests.now c.args.askers.items _ _ _ c.in-Ok-employ.ensures.counter (c.in-Ok-employ.ensures.ready c.args.requests.now (search rules)) c.run_beside-results.ensures.results c.finish-askers.ensures.askers) c.tell_each.ensures.askers

pub returns-in-Some-clause-askers : goal.returns-in-Some-clause-askers
returns-in-Some-clause-askers g c =
    same_through _ _ _ (of_results (λ known. AreSameAskers known c.finish-askers.result.0.items) _ _ c.args.requests.now c.args.askers.items _ _ _ c.in-Ok-employ.ensures.counter (c.in-Ok-employ.ensures.ready c.args.requests.now (search rules)) c.run_beside-results.ensures.results c.finish-askers.ensures.askers) c.tell_each.ensures.askers

pub returns-in-Err-collected-clause-askers : goal.returns-in-Err-collected-clause-askers
returns-in-Err-collected-clause-askers g c =
    same_through _ _ _ (of_results (λ known. AreSameAskers known c.finish-askers.result.0.items) _ _ c.args.requests.now c.args.askers.items _ _ _ c.in-Ok-employ.ensures.counter (c.in-Ok-employ.ensures.ready c.args.requests.now (search rules)) c.run_beside-results.ensures.results c.finish-askers.ensures.askers) c.tell_each.ensures.askers

pub returns-in-None-clause-answers : goal.returns-in-None-clause-answers
returns-in-None-clause-answers g c =
    let same : AreSameAskers c.args.askers.items c.finish-askers.result.0.items = of_results (λ known. AreSameAskers known c.finish-askers.result.0.items) _ _ c.args.requests.now c.args.askers.items _ _ _ c.in-Ok-employ.ensures.counter (c.in-Ok-employ.ensures.ready c.args.requests.now (search rules)) c.run_beside-results.ensures.results c.finish-askers.ensures.askers in
    (answered_later c.args.requests.now c.args.askers.items c.finish-askers.result.0.items c.tell_each.new.askers.items c.in-Ok-collected.collected.list.items c.in-Ok-collected.collected.drawn.items
    (same.count) c.tell_each.ensures.askers
    (of_results (λ known. AreAnsweredByWorkers c.args.requests.now known c.finish-askers.result.0.items c.in-Ok-collected.collected.list.items c.in-Ok-collected.collected.drawn.items) _ _ c.args.requests.now c.args.askers.items _ _ _ c.in-Ok-employ.ensures.counter (c.in-Ok-employ.ensures.ready c.args.requests.now (search rules)) c.run_beside-results.ensures.results (IfOk-at_ok _ c.in-Ok-collected.is c.finish-askers.ensures.answers)))

pub returns-in-None-clause-told : goal.returns-in-None-clause-told
returns-in-None-clause-told g c =
    subst (λ (p : PublisherState g.row.W.Denot). All (λ (a : AskerState). BeginsWith a.batches p.batches) c.tell_each.new.askers.items) (sym c.tell_each.ensures.same) c.tell_each.ensures.told

pub returns-in-None-clause-published : goal.returns-in-None-clause-published
returns-in-None-clause-published g c =
    let same : AreSameAskers c.args.askers.items c.finish-askers.result.0.items = of_results (λ known. AreSameAskers known c.finish-askers.result.0.items) _ _ c.args.requests.now c.args.askers.items _ _ _ c.in-Ok-employ.ensures.counter (c.in-Ok-employ.ensures.ready c.args.requests.now (search rules)) c.run_beside-results.ensures.results c.finish-askers.ensures.askers in
    let told : All (λ (a : AskerState). BeginsWith a.batches c.tell_each.new.publisher.batches) c.tell_each.new.askers.items =
    subst (λ (p : PublisherState g.row.W.Denot). All (λ (a : AskerState). BeginsWith a.batches p.batches) c.tell_each.new.askers.items) (sym c.tell_each.ensures.same) c.tell_each.ensures.told in
    let items : c.as_slice.result.now ≡ c.in-Ok-collected.collected.list.items = search rules in
    let version : c.version.result ≡ length c.tell_each.new.publisher.batches = search rules in
    let accounted : All (λ (a : Answer). a.version ≤ length c.tell_each.new.publisher.batches) c.in-Ok-collected.collected.list.items =
    subst (λ (n : ℕ). All (λ (a : Answer). a.version ≤ n) c.in-Ok-collected.collected.list.items) version
    (All-weaker (λ (a : Answer). (0 ≤ a.version) × (a.version ≤ c.version.result)) (λ (a : Answer). a.version ≤ c.version.result) (λ a within. within.1) c.in-Ok-collected.collected.list.items
    (subst (λ (l : List Answer). All (λ (a : Answer). (0 ≤ a.version) × (a.version ≤ c.version.result)) l) items c.in-None.ensures.none)) in
    within_published c.args.requests.now c.args.askers.items c.tell_each.new.askers.items c.in-Ok-collected.collected.list.items c.in-Ok-collected.collected.drawn.items c.tell_each.new.publisher.batches
    ((c.tell_each.ensures.askers).count ∙ same.count) told accounted
    (answered_later c.args.requests.now c.args.askers.items c.finish-askers.result.0.items c.tell_each.new.askers.items c.in-Ok-collected.collected.list.items c.in-Ok-collected.collected.drawn.items
    (same.count) c.tell_each.ensures.askers
    (of_results (λ known. AreAnsweredByWorkers c.args.requests.now known c.finish-askers.result.0.items c.in-Ok-collected.collected.list.items c.in-Ok-collected.collected.drawn.items) _ _ c.args.requests.now c.args.askers.items _ _ _ c.in-Ok-employ.ensures.counter (c.in-Ok-employ.ensures.ready c.args.requests.now (search rules)) c.run_beside-results.ensures.results (IfOk-at_ok _ c.in-Ok-collected.is c.finish-askers.ensures.answers)))

pub returns-in-Some-clause-error : goal.returns-in-Some-clause-error
returns-in-Some-clause-error g c =
    let list = c.in-Ok-collected.collected.list.items in
    let items : c.as_slice.result.now ≡ list = search rules in
    let version : c.version.result ≡ length c.tell_each.new.publisher.batches = search rules in
    let answered : AreAnsweredByWorkers c.args.requests.now c.args.askers.items c.finish-askers.result.0.items list c.in-Ok-collected.collected.drawn.items =
    of_results (λ known. AreAnsweredByWorkers c.args.requests.now known c.finish-askers.result.0.items c.in-Ok-collected.collected.list.items c.in-Ok-collected.collected.drawn.items) _ _ c.args.requests.now c.args.askers.items _ _ _ c.in-Ok-employ.ensures.counter (c.in-Ok-employ.ensures.ready c.args.requests.now (search rules)) c.run_beside-results.ensures.results (IfOk-at_ok _ c.in-Ok-collected.is c.finish-askers.ensures.answers) in
    inr (subst (λ (n : ℕ). IsUnaccounted (length c.args.requests.now) n c.in-Some.error) version
    (unaccounted_of list (length c.args.requests.now) c.version.result c.in-Some.error answered.count
    (subst (λ (l : List Answer). IsFirstStray l (λ v. (0 ≤ v) × (v ≤ c.version.result)) c.in-Some.error) items c.in-Some.ensures.some)))

pub returns-in-Some-clause-back_told : goal.returns-in-Some-clause-back_told
returns-in-Some-clause-back_told g c =
    inr (subst (λ (p : PublisherState g.row.W.Denot). All (λ (a : AskerState). BeginsWith a.batches p.batches) c.tell_each.new.askers.items) (sym c.tell_each.ensures.same) c.tell_each.ensures.told)

pub returns-in-Err-collected-clause-back_told : goal.returns-in-Err-collected-clause-back_told
returns-in-Err-collected-clause-back_told g c =
    inr (subst (λ (p : PublisherState g.row.W.Denot). All (λ (a : AskerState). BeginsWith a.batches p.batches) c.tell_each.new.askers.items) (sym c.tell_each.ensures.same) c.tell_each.ensures.told)
