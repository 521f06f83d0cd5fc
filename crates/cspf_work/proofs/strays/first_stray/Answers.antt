use Rattle.std.proofs.Common.{rules, ◌≡◌, ◌≤◌, length, take, All, List, subst, ◌∙◌, ap}
use Rattle.std.proofs.Math.Seq.{take-length}
use Rattle.std.proofs.lemmas.List.Elements.{All-more}
use Rattle.cspf_publish.specs.declared.answer.Answer.{Answer}
use Rattle.cspf_work.proofs.strays.first_stray.Goals as goal

pub loop-index-preserved : goal.loop-index-preserved
loop-index-preserved c =
    All-more (λ (a : Answer). (c.args.least ≤ a.version) × (a.version ≤ c.args.most)) c.args.list.now c.loop-index.index c.index-list-index.result (search rules) c.loop-index.invariant
    (subst (λ (a : Answer). (c.args.least ≤ a.version) × (a.version ≤ c.args.most)) c.index-list-index.is (search rules))

pub returns-clause-none : goal.returns-clause-none
returns-clause-none c =
    let whole : c.loop-index.index ≡ length c.args.list.now = search rules in
    subst (λ (l : List Answer). All (λ (a : Answer). (c.args.least ≤ a.version) × (a.version ≤ c.args.most)) l) (ap (λ n. take n c.args.list.now) whole ∙ take-length c.args.list.now) c.loop-index.invariant
