use Rattle.std.proofs.Common.{◌≡◌, ℕ, true, ◌||◌, take, ap, subst, ◌∙◌}
use Rattle.std.specs.Ordering.{nat_cmp, eq_by_cmp, is_eq}
use Rattle.std.specs.Cmp.{nat_cmp_total, tied_itself}
use Rattle.std.specs.FinSet as set
use Rattle.std.proofs.lemmas.List.Elements.{All-more, All-weaker}
use Rattle.cspf_model.proofs.Databases.EndCounts.{or_right}
use Rattle.cspf_db.proofs.table.fit.router_count.add_routers.Goals as goal

pub loop-router-preserved : goal.loop-router-preserved
loop-router-preserved c =
    let list = c.args.list.now in
    let at = c.loop-router.router-index in
    let old : set.FinSet nat_cmp = c.loop-router.routers in
    let router : ℕ = c.router-item.result in
    let grown : c.add.new.self ≡ set.insert old router = c.if-not-add.ensures.added ∙ ap (set.insert old) c.number.ensures in
    let inserted : (q : ℕ) → set.contains c.add.new.self q ≡ (eq_by_cmp nat_cmp q router || set.contains old q) = λ q. ap (λ s. set.contains s q) grown ∙ set.contains-insert nat_cmp_total old router q in
    let earlier = All-weaker (λ r. set.contains old r ≡ true) (λ r. set.contains c.add.new.self r ≡ true) (λ r there. inserted r ∙ or_right (eq_by_cmp nat_cmp r router) _ there) (take at list) c.loop-router.invariant.added in
    let here : set.contains c.add.new.self router ≡ true = inserted router ∙ ap (λ b. b || set.contains old router) (ap is_eq (tied_itself nat_cmp_total router)) in
    record {
      added = All-more (λ r. set.contains c.add.new.self r ≡ true) list at router c.loop-router-test.true earlier (subst (λ r. set.contains c.add.new.self r ≡ true) c.router-item.is here);
      few = c.if-not-add.ensures.few;
    }
