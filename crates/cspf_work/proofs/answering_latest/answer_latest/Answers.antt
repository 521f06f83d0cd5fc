use Rattle.std.proofs.Common.{rules, ◌≡◌, ◌≤◌, List, All, length, inr, subst}
use Rattle.cspf_publish.specs.declared.answer.Answer.{Answer}
use Rattle.cspf_work.specs.Strays.{IsFirstStray}
use Rattle.cspf_work.proofs.LatestAnswers.{latest_answers, later_version, told_later}
use Rattle.cspf_work.proofs.Telling.{answered_before, same_through}
use Rattle.cspf_work.proofs.answering_latest.answer_latest.Goals as goal

pub returns-in-None-clause-answers : goal.returns-in-None-clause-answers
returns-in-None-clause-answers g c =
    let list = c.in-Ok.answers.list.items in
    let version : c.version-version.result ≡ length c.args.publisher.now.batches = search rules in
    let items : c.as_slice.result.now ≡ list = search rules in
    latest_answers c.args.publisher.now.batches c.args.requests.now c.tell_each.new.askers.items c.in-Ok.answers.askers.items list c.in-Ok.answers.drawn.items c.version-version.result
    version c.tell_each.ensures.told c.in-Ok.ensures.askers c.in-Ok.ensures.answers
    (subst (λ (l : List Answer). All (λ (a : Answer). (c.version-version.result ≤ a.version) × (a.version ≤ c.version-version.result)) l) items c.in-None.ensures.none)

pub returns-in-None-clause-askers : goal.returns-in-None-clause-askers
returns-in-None-clause-askers g c = same_through c.args.askers.items c.tell_each.new.askers.items c.in-Ok.answers.askers.items c.tell_each.ensures.askers c.in-Ok.ensures.askers

pub returns-in-Some-clause-error : goal.returns-in-Some-clause-error
returns-in-Some-clause-error g c =
    let list = c.in-Ok.answers.list.items in
    let version : c.version-version.result ≡ length c.args.publisher.now.batches = search rules in
    let items : c.as_slice.result.now ≡ list = search rules in
    inr (later_version c.args.publisher.now.batches c.args.requests.now c.tell_each.new.askers.items c.in-Ok.answers.askers.items list c.in-Ok.answers.drawn.items c.version-version.result c.in-Some.error
    version c.tell_each.ensures.told c.in-Ok.ensures.askers c.in-Ok.ensures.answers
    (subst (λ (l : List Answer). IsFirstStray l (λ v. (c.version-version.result ≤ v) × (v ≤ c.version-version.result)) c.in-Some.error) items c.in-Some.ensures.some))

pub returns-in-Some-clause-back : goal.returns-in-Some-clause-back
returns-in-Some-clause-back g c = same_through c.args.askers.items c.tell_each.new.askers.items c.in-Ok.answers.askers.items c.tell_each.ensures.askers c.in-Ok.ensures.askers

pub returns-in-Err-clause-back : goal.returns-in-Err-clause-back
returns-in-Err-clause-back g c = same_through c.args.askers.items c.tell_each.new.askers.items c.in-Err.askers.items c.tell_each.ensures.askers c.in-Err.ensures.back

pub returns-in-None-clause-workers : goal.returns-in-None-clause-workers
returns-in-None-clause-workers g c =
    answered_before c.args.requests.now c.args.askers.items c.tell_each.new.askers.items c.in-Ok.answers.askers.items c.in-Ok.answers.list.items c.in-Ok.answers.drawn.items
    c.tell_each.ensures.askers c.in-Ok.ensures.answers

pub returns-in-None-clause-told : goal.returns-in-None-clause-told
returns-in-None-clause-told g c =
    told_later c.args.publisher.now.batches c.tell_each.new.askers.items c.in-Ok.answers.askers.items c.in-Ok.ensures.askers c.tell_each.ensures.told

pub returns-in-Some-clause-back_told : goal.returns-in-Some-clause-back_told
returns-in-Some-clause-back_told g c =
    told_later c.args.publisher.now.batches c.tell_each.new.askers.items c.in-Ok.answers.askers.items c.in-Ok.ensures.askers c.tell_each.ensures.told

pub returns-in-Err-clause-back_told : goal.returns-in-Err-clause-back_told
returns-in-Err-clause-back_told g c =
    told_later c.args.publisher.now.batches c.tell_each.new.askers.items c.in-Err.askers.items c.in-Err.ensures.back c.tell_each.ensures.told
