use Rattle.std.proofs.Common.{◌≡◌, ◌+◌, ◌*◌, ◌<◌, ◌∙◌, inl, inr, IsTrue, length, slice_index, slice_index_or, refl, ap, sym, subst, arith}
use Rattle.std.proofs.lemmas.Bool.{cases_lt, false≢true}
use Rattle.std.proofs.lemmas.List.{get_or_default}
use Rattle.cspf_model.specs.Admissible.{IsUsable}
use Rattle.cspf_db.specs.Index.{links_from_index}
use Rattle.cspf_graph.specs.RoleSteps.{nothing}
use Rattle.cspf_graph.specs.Roles.{MayTurn}
use Rattle.cspf_graph.proofs.LinkRows.{kept_from, end_of_row}
use Rattle.cspf_search.proofs.LegBounds.{told_target}
use Rattle.cspf_search.proofs.strict.joins.Goals as goal
use Rattle.cspf_search.proofs.strict.joins.Goals.{else-query-first-2-via-then-query-first-2+else-admissible, else-query-first-2-via-else-query-first-2}

pub loop-row-preserved : goal.loop-row-preserved
loop-row-preserved c k e low on usable =
    let links = c.out_at-links.result.now in
    elim (cases_lt k c.loop-row.row) [
      | inl less ↦ c.loop-row.invariant k e less on usable
      | inr ge ↦
          let here : k ≡ c.loop-row.row = omega (arith, low, ge) in
          elim c.else-query-first-2.branch [
            | else-query-first-2-via-then-query-first-2+else-admissible w ↦
                let link = w.index-links-row.result in
                let same : slice_index_or links k e ≡ link = ap (λ n. slice_index_or links n e) here ∙ get_or_default links c.loop-row.row e link c.loop-row-test.true ∙ sym w.index-links-row.is in
                absurd (false≢true (w.if-admissible.ensures.1 (subst (IsUsable c.args.query.table.now c.args.query.request.now) same usable)))
            | else-query-first-2-via-else-query-first-2 w ↦
                let same : slice_index c.ends_at-ends.result.now k ≡ c.from-end.result = ap (slice_index c.ends_at-ends.result.now) here ∙ sym c.from-end.ensures in
                let role = subst (λ n. IsTrue (slice_index_or c.args.query.roles.now (c.args.leg_index * 1024 + n) nothing).target) same on in
                absurd (false≢true (sym w.if-query-first-2.false ∙ role))
          ]
    ]

pub returns : goal.returns
returns c _ =
    let d = c.args.query.table.now in
    let q = c.args.query.request.now in
    let roles = c.args.query.roles.now in
    let leg = c.args.leg_index in
    let given = c.requires in
    let ends = c.ends_at-ends.result.now in
    let links = links_from_index d c.args.place in
    let each = rw c.from-at.ensures at c.ends_at-ends.ensures.each in
    record {
      turns = λ may.
          let told = told_target d q roles leg c.args.place given.query.listed given.query.roles (omega (arith, given.leg)) given.place may in
          absurd (false≢true (sym (rw c.from-at.ensures at c.if-query-first.false) ∙ told));
      links = λ l leads from to.
          let at = kept_from d c.args.place l (given.query.links.whole l leads.admissible.link) from in
          let end = end_of_row d ends links c.ends_at-ends.ensures.within each at.0 l (slice_index ends at.0) at.1 (sym at.2) refl in
          let told = told_target d q roles leg (slice_index ends at.0) given.query.listed given.query.roles (omega (arith, given.leg)) end.within (subst (MayTurn d q (leg + 1)) (sym end.is) to) in
          let same : c.out_at-links.result.now ≡ links = rw c.from-at.ensures at c.out_at-links.ensures in
          let low : at.0 < length c.out_at-links.result.now = rw same at.1 in
          c.loop-row.invariant at.0 l (omega (arith, low, c.loop-row-test.false)) told (rw (same, at.2) leads.admissible.usable);
    }
