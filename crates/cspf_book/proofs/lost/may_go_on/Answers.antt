use Rattle.std.proofs.Common.{inl, inr, sym, ◌∙◌, eqb-true}
use Rattle.std.proofs.lemmas.Bool.{false≢true}
use Rattle.cspf_book.proofs.lost.may_go_on.Goals as goal
use Rattle.cspf_book.proofs.lost.may_go_on.Goals.{then-eq+then-links-eq0, then-eq+else-links-eq0, else-eq}

pub returns-then-has_transit_after : goal.returns-then-has_transit_after
returns-then-has_transit_after c =
    let l = c.args.link.now in
    elim c.if-eq.branch [
      | then-eq+then-links-eq0 w ↦ (
        λ yes. record {
          from = eqb-true l.from c.args.router (sym c.eq.ensures ∙ w.if-eq.true);
          leaves = inr w.if-links-eq0.true;
          there = c.has_its_link.ensures.0 yes;
        },
        λ go. c.has_its_link.ensures.1 go.there,
      )
      | then-eq+else-links-eq0 w ↦ (
        λ yes. record {
          from = eqb-true l.from c.args.router (sym c.eq.ensures ∙ w.if-eq.true);
          leaves = inl (w.has_transit_after.ensures.0 (sym w.value-is ∙ c.if-has_transit_after.true));
          there = c.has_its_link.ensures.0 yes;
        },
        λ go. c.has_its_link.ensures.1 go.there,
      )
      | else-eq w ↦ absurd (false≢true (sym w.if-eq.false ∙ sym w.value-is ∙ c.if-has_transit_after.true))
    ]
