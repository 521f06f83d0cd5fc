use Rattle.std.proofs.Common.{◌≡◌, ◌≢◌, ℕ, ◌+◌, ◌*◌, ◌/◌, ◌%◌, ◌<◌, inl, inr, List, length, set, sym, refl, ap, subst, arith, slice_index, slice_index_or}
use Rattle.std.proofs.lemmas.List.{get_or-set_same, get_or-set_other}
use Rattle.cspf_model.specs.declared.request.Request.{Request}
use Rattle.cspf_model.specs.Database.{Database}
use Rattle.cspf_db.specs.Index.{router_list}
use Rattle.cspf_graph.specs.declared.roles.Role.{Role}
use Rattle.cspf_graph.specs.Roles.{IsRole}
use Rattle.cspf_graph.specs.Lists.{router_at}
use Rattle.cspf_graph.proofs.RouterIndexes.{one_place, same_or_not}
use Rattle.cspf_graph.proofs.roles.set_last_roles.Goals as goal

module _ (d : Database) (q : Request) (hops place at : ℕ) (roles : List Role) (role : Role) (all : hops ≡ length q.hops) (low : place < 1024) (is : at ≡ hops * 1024 + place)
    (within : at < length roles) where
  -- If a correct role is written at the index of a router, the role that is read at this index is
  -- correct. A role says what a route may do at a router in a leg.
  set_there : IsRole d q (length q.hops + 1) (router_at d place) role
      → (i : ℕ) (e : Role) → i / 1024 ≡ length q.hops → i % 1024 ≡ place → IsRole d q (i / 1024 + 1) (router_at d (i % 1024)) (slice_index_or (set roles at role) i e)
  set_there made i e last here =
      let same : i ≡ at = omega (arith, is, all, last, here) in
      subst (λ k. IsRole d q (i / 1024 + 1) (router_at d (i % 1024)) (slice_index_or (set roles at role) k e)) (sym same)
      (subst (IsRole d q (i / 1024 + 1) (router_at d (i % 1024))) (sym (get_or-set_same roles at role e within)) (rw (last, here) made))

  -- If a role is written at the index of one router, the roles at the indexes of all other routers
  -- are still correct.
  kept_elsewhere : (i : ℕ) (e : Role) → i % 1024 ≢ place → IsRole d q (i / 1024 + 1) (router_at d (i % 1024)) (slice_index_or roles i e) → IsRole d q (i / 1024 + 1) (router_at d (i % 1024)) (slice_index_or (set roles at role) i e)
  kept_elsewhere i e there known =
      let ne : i ≢ at = λ same. there (omega (arith, same, is, low)) in
      subst (IsRole d q (i / 1024 + 1) (router_at d (i % 1024))) (sym (get_or-set_other roles at i role e ne)) known

pub loop-place-preserved : goal.loop-place-preserved
loop-place-preserved c i e ix last up passed =
    let d = c.args.table.now in
    let q = c.args.request.now in
    let at = c.len-first.result * 1024 + c.loop-place.place in
    elim (same_or_not (i % 1024) c.loop-place.place) [
      | inl here ↦
          set_there d q c.len-first.result c.loop-place.place at c.loop-place.roles c.passed_role.result c.len-first.ensures.value (omega arith) refl (omega arith)
          (c.passed_role.ensures (subst (λ k. slice_index (router_list d) k ≢ q.to) here passed)) i e last here
      | inr there ↦
          kept_elsewhere d q c.len-first.result c.loop-place.place at c.loop-place.roles c.passed_role.result c.len-first.ensures.value (omega arith) refl (omega arith) i e there
          (c.loop-place.invariant i e ix last (omega (arith, up, there)) passed)
    ]

pub returns : goal.returns
returns c i e ix up =
    let d = c.args.table.now in
    let q = c.args.request.now in
    let at = c.len-first.result * 1024 + c.args.to in
    let many = ap length c.routers-place-end.ensures.all in
    elim up [
      | inl last ↦ elim (same_or_not (i % 1024) c.args.to) [
        | inl here ↦
            set_there d q c.len-first.result c.args.to at c.loop-place.roles c.last_role.result c.len-first.ensures.value (omega (arith, c.requires.to.within, c.requires.listed.few)) refl (omega arith) c.last_role.ensures i e last here
        | inr there ↦
            kept_elsewhere d q c.len-first.result c.args.to at c.loop-place.roles c.last_role.result c.len-first.ensures.value (omega (arith, c.requires.to.within, c.requires.listed.few)) refl (omega arith) i e there
            (c.loop-place.invariant i e ix last (omega (arith, ix.place, many, c.loop-place-test.false))
            (λ same. there (one_place d c.requires.listed q.to (i % 1024) c.args.to (record { within = ix.place; is = same }) c.requires.to)))
      ]
      | inr none ↦ absurd (omega (arith, none))
    ]
