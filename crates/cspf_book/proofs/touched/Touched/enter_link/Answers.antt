use Rattle.std.proofs.Common.{subst, ◌∙◌}
use Rattle.cspf_model.specs.declared.link.Link.{Link}
use Rattle.cspf_model.specs.Database.{Key}
use Rattle.cspf_model.specs.Changes.{link_key}
use Rattle.cspf_book.specs.Touched.{IsTouched}
use Rattle.cspf_book.proofs.UntouchedRoutes.{some_same}
use Rattle.cspf_book.proofs.touched.Touched.enter_link.Goals as goal

pub returns-then-has_moved-clause-entered : goal.returns-then-has_moved-clause-entered
returns-then-has_moved-clause-entered c =
    let new = c.add-then-has_moved.new.self in
    let k : Key = (c.args.from, c.args.local) in
    let own = c.add-then-has_moved.ensures.kept.at (link_key k) c.in-Some.link.to c.add.ensures.touched in record {
      own = λ l at _. subst (λ (m : Link). IsTouched new (link_key k) m.to) (some_same c.in-Some.link l (c.in-Some.ensures ∙ at)) own;
      reverse = λ l at _. subst (λ (m : Link). IsTouched new (link_key (m.to, m.remote)) c.args.from) (some_same c.in-Some.link l (c.in-Some.ensures ∙ at)) c.add-then-has_moved.ensures.touched;
      groups = λ l at _ _. subst (λ (m : Link). IsTouched new (link_key k) m.to) (some_same c.in-Some.link l (c.in-Some.ensures ∙ at)) own;
    }
