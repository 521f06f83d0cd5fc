-- How the roles of a leg to a hop are computed. They follow from the targets of this leg and of the
-- preceding leg, and from the roles of the leg after the last hop. A role says what a route may do
-- at a router in a leg. A leg's targets are the routers where the leg may end.
use Rattle.std.proofs.Common.{◌≡◌, ◌≢◌, ◌⊎◌, ◌↔◌, inl, inr, ℕ, zero, suc, ◌+◌, ◌*◌, ◌/◌, ◌%◌, ◌<◌, ◌≤◌, ◌&&◌, ◌++◌, ◌∷◌, [], true, false, Bool, IsTrue, List, Contains, nat_eq, set, length-set, length, slice_get, slice_index_or, refl, sym, ap, subst, ◌∙◌, arith}
use Rattle.std.proofs.lemmas.Bool.{false≢true, cases_lt, eqb-true, eq-eqb}
use Rattle.std.proofs.lemmas.List.{get_or_default, get_or-set_same, get_or-set_other}
use Rattle.std.proofs.lemmas.List.Elements.{Contains-push_cases, Contains-push, Contains-append_left}
use Rattle.cspf_model.specs.declared.request.Request.{Request}
use Rattle.cspf_model.specs.Database.{Database, HasTransit}
use Rattle.cspf_db.specs.Index.{router_list}
use Rattle.cspf_model.specs.Targets.{IsInside, IsLoose, IsTarget}
use Rattle.cspf_graph.specs.declared.roles.Role.{Role}
use Rattle.cspf_graph.specs.declared.roles.RoleRows.{RoleRows}
use Rattle.cspf_graph.specs.Roles.{IsRole, IsStateIndex, AreTargetsOf}
use Rattle.cspf_graph.specs.Lists.{AreListed, IsIndexOf, router_at}
use Rattle.cspf_graph.specs.RoleSteps.{nothing, AreRolesUpTo, AreRoleRows, AreRolesMarked, IsSpread, StayElsewhere, role_at}
use Rattle.std.proofs.lemmas.Option.{slice_get_past}
use Rattle.cspf_graph.proofs.RouterIndexes.{one_place, same_or_not}

-- `Old`, `Now` and `Next` are three states of a property of indexes. `Now` holds of the indexes of
-- which `Old` holds, and of the indexes in `front` of which `More` holds. `Next` adds the index
-- `place` to `Now` if `More` holds of `place`. Then `Next` holds of the indexes of which `Old`
-- holds, and of the indexes in `front` with `place` appended of which `More` holds.
pub with_index : (Old More Now Next : ℕ → Type 0) (n : ℕ) (front : List ℕ) (place : ℕ)
    → ((p : ℕ) → p < n → Now p ↔ (Old p ⊎ (Contains front p × More p)))
    → (Next place ↔ (Now place ⊎ More place)) → ((p : ℕ) → p ≢ place → Next p ↔ Now p)
    → (p : ℕ) → p < n → Next p ↔ (Old p ⊎ (Contains (front ++ place ∷ []) p × More p))
with_index Old More Now Next n front place before here there p low =
    let kept : Now p → Old p ⊎ (Contains (front ++ place ∷ []) p × More p) = λ now. elim ((before p low).0 now) [ inl old ↦ inl old | inr both ↦ inr (Contains-append_left front (place ∷ []) p both.0, both.1) ] in
    elim (same_or_not p place) [
      | inl same ↦
          let at : Next p ↔ (Now p ⊎ More p) = subst (λ k. Next k ↔ (Now k ⊎ More k)) (sym same) here in (
            λ next. elim (at.0 next) [ inl now ↦ kept now | inr more ↦ inr (subst (Contains (front ++ place ∷ [])) (sym same) (Contains-push front place), more) ],
            λ so. elim so [ inl old ↦ at.1 (inl ((before p low).1 (inl old))) | inr both ↦ at.1 (inr both.1) ],
          )
      | inr ne ↦
          let off = there p ne in (
            λ next. kept (off.0 next),
            λ so. elim so [
              | inl old ↦ off.1 ((before p low).1 (inl old))
              | inr both ↦ elim (Contains-push_cases front place p both.0) [
                | inl in_front ↦ off.1 ((before p low).1 (inr (in_front, both.1)))
                | inr is ↦ absurd (ne (sym is))
              ]
            ],
          )
    ]

-- Setting a role of the leg doesn't change the roles of other legs. A role says what a route may do
-- at a router in a leg.
stays_set : (rows : RoleRows) (old now : List Role) (place : ℕ) (role : Role) → place < rows.count → StayElsewhere rows old now → StayElsewhere rows old (set now (rows.first + place) role)
stays_set rows old now place role within stays = record {
  many = length-set now (rows.first + place) role ∙ stays.many;
  below = λ i low. get_or-set_other now (rows.first + place) i role nothing (λ e. omega (arith, e, low)) ∙ stays.below i low;
  behind = λ i high. get_or-set_other now (rows.first + place) i role nothing (λ e. omega (arith, e, high, within)) ∙ stays.behind i high;
}

-- Suppose that `AreRolesMarked` holds of the routers in `front`, and that the role of the router
-- `place` is set by the same rule. Then `AreRolesMarked` holds of `front` with `place` appended. A
-- role says what a route may do at a router in a leg.
pub one_marked : (rows : RoleRows) (front : List ℕ) (place : ℕ) (own : Bool) (from : ℕ) (old now : List Role) (role : Role) → AreRoleRows rows old → place < rows.count
    → AreRolesMarked rows front own from old now
    → (IsTrue role.enter ↔ (IsTrue (role_at now (rows.first + place)).enter ⊎ IsTrue (role_at now (rows.last + place)).enter))
    → (IsTrue role.target ↔ (IsTrue (role_at now (rows.first + place)).target ⊎ ((own ≡ true) × (IsTrue (role_at now (rows.last + place)).enter ⊎ IsTrue (nat_eq place from)))))
    → AreRolesMarked rows (front ++ place ∷ []) own from old (set now (rows.first + place) role)
one_marked rows front place own from old now role are within marked enter target =
    let new = set now (rows.first + place) role in
    let there : role_at new (rows.first + place) ≡ role = get_or-set_same now (rows.first + place) role nothing (omega (arith, within, are.few, are.apart, are.within, marked.elsewhere.many)) in
    let last : role_at now (rows.last + place) ≡ role_at old (rows.last + place) = marked.elsewhere.behind (rows.last + place) (omega (arith, are.few, are.apart)) in
    let other : (p : ℕ) → p ≢ place → role_at new (rows.first + p) ≡ role_at now (rows.first + p) = λ p ne. get_or-set_other now (rows.first + place) (rows.first + p) role nothing (λ e. ne (omega (arith, e))) in
    record {
      enter =
          with_index (λ p. IsTrue (role_at old (rows.first + p)).enter) (λ p. IsTrue (role_at old (rows.last + p)).enter) (λ p. IsTrue (role_at now (rows.first + p)).enter)
          (λ p. IsTrue (role_at new (rows.first + p)).enter) rows.count front place marked.enter
          (rw (there, sym last) enter)
          (λ p ne. rw (other p ne) (λ x. x, λ x. x));
      target =
          with_index (λ p. IsTrue (role_at old (rows.first + p)).target) (λ p. (own ≡ true) × (IsTrue (role_at old (rows.last + p)).enter ⊎ (p ≡ from))) (λ p. IsTrue (role_at now (rows.first + p)).target)
          (λ p. IsTrue (role_at new (rows.first + p)).target) rows.count front place marked.target
          (rw (there, sym last) (
            λ on. elim (target.0 on) [ inl is ↦ inl is | inr both ↦ inr (both.0, elim both.1 [ inl stands ↦ inl stands | inr begins ↦ inr (eqb-true place from begins) ]) ],
            λ so. elim so [ inl is ↦ target.1 (inl is) | inr both ↦ target.1 (inr (both.0, elim both.1 [ inl stands ↦ inl stands | inr begins ↦ inr (eq-eqb place from begins) ])) ],
          ))
          (λ p ne. rw (other p ne) (λ x. x, λ x. x));
      elsewhere = stays_set rows old now place role within marked.elsewhere;
    }

-- `a && b` is true exactly if `a` and `b` are both true.
and_is : (a b : Bool) → IsTrue (a && b) ↔ (IsTrue a × IsTrue b)
and_is true b = (λ on. (refl, on), λ both. both.1)
and_is false b = (λ on. absurd (false≢true on), λ both. absurd (false≢true both.0))

-- Lemmas on the roles of a leg to a hop. The roles of the leg after the last hop are already
-- correct. A role says what a route may do at a router in a leg.
module _ (d : Database) (q : Request) (listed : AreListed d) (leg from : ℕ) (within : leg < length q.hops) (start : IsIndexOf d q.from from) (rows : RoleRows) (first : rows.first ≡ leg * 1024)
    (last : rows.last ≡ length q.hops * 1024) (count : rows.count ≡ length (router_list d)) (before own : List ℕ) (are_before : AreTargetsOf d q leg before) (are_own : AreTargetsOf d q (leg + 1) own)
    (loose : Bool) (is_loose : IsTrue loose ↔ IsLoose (slice_get q.hops leg)) (old spread some new : List Role) (known : AreRolesUpTo d q leg old) (spreads : IsSpread rows loose old spread)
    (many : length old ≡ (length q.hops + 1) * 1024) (marks : AreRolesMarked rows before false from spread some) (marks_own : AreRolesMarked rows own true from some new) where
  next : suc leg ≡ leg + 1
  next = omega arith

  -- Each router is inside the leg after the last hop.
  inside_last : (r : ℕ) → IsInside d q (suc (length q.hops)) r
  inside_last r = inl (subst IsLoose (sym (slice_get_past q.hops (length q.hops) (omega arith))) tt)

  -- The next two lemmas: a router is inside a loose leg, and inside a strict leg if it is a target
  -- of this leg or of the preceding leg. Otherwise the router isn't inside the leg. A leg's targets
  -- are the routers where the leg may end.
  inside_of : (r : ℕ) → IsLoose (slice_get q.hops leg) ⊎ (IsTarget d q leg r ⊎ IsTarget d q (leg + 1) r) → IsInside d q (leg + 1) r
  inside_of r so = subst (λ k. IsInside d q k r) next (elim so [ inl is ↦ inl is | inr (inl is) ↦ inr (inl is) | inr (inr is) ↦ inr (inr (subst (λ k. IsTarget d q k r) (sym next) is)) ])

  of_inside : (r : ℕ) → IsInside d q (leg + 1) r → IsLoose (slice_get q.hops leg) ⊎ (IsTarget d q leg r ⊎ IsTarget d q (leg + 1) r)
  of_inside r inside =
      let so : IsInside d q (suc leg) r = subst (λ k. IsInside d q k r) (sym next) inside in
      elim so [ inl is ↦ inl is | inr (inl is) ↦ inr (inl is) | inr (inr is) ↦ inr (inr (subst (λ k. IsTarget d q k r) next is)) ]

  -- Lemmas on the router with the index `p`, and on its role in the leg after the last hop. A role
  -- says what a route may do at a router in a leg.
  module _ (p : ℕ) (low : p < length (router_list d)) where
    at_last : IsRole d q (length q.hops + 1) (router_at d p) (role_at old (rows.last + p))
    at_last =
        let few : p < 1024 = omega (arith, low, listed.few) in
        let leg_is : (rows.last + p) / 1024 ≡ length q.hops = omega (arith, last, few) in
        let place_is : (rows.last + p) % 1024 ≡ p = omega (arith, last, few) in
        let index : IsStateIndex d q (rows.last + p) = record { low = omega (arith, last, few); place = rw place_is low } in
        let found = known (rows.last + p) nothing index (inl leg_is) in
        rw (leg_is, place_is) at found

    through : IsTrue (role_at old (rows.last + p)).enter ↔ (HasTransit d (router_at d p) ⊎ (router_at d p ≡ q.to))
    through = (
      λ on. (at_last.enter.0 on).through,
      λ may. at_last.enter.1 (record {
        inside = let more : suc (length q.hops) ≡ length q.hops + 1 = omega arith in subst (λ k. IsInside d q k (router_at d p)) more (inside_last (router_at d p));
        through = may;
      }),
    )

    within_rows : p < rows.count
    within_rows = omega (arith, low, count)

    -- The steps that set the roles of this leg don't change the router's role in the leg after the
    -- last hop. A role says what a route may do at a router in a leg.
    last_spread : role_at spread (rows.last + p) ≡ role_at old (rows.last + p)
    last_spread = spreads.elsewhere.behind (rows.last + p) (omega (arith, first, last, within, count, listed.few))

    last_some : role_at some (rows.last + p) ≡ role_at old (rows.last + p)
    last_some = marks.elsewhere.behind (rows.last + p) (omega (arith, first, last, within, count, listed.few)) ∙ last_spread

    entered : IsTrue (role_at new (rows.first + p)).enter
        ↔ (((IsTrue loose × IsTrue (role_at old (rows.last + p)).enter) ⊎ (Contains before p × IsTrue (role_at old (rows.last + p)).enter)) ⊎ (Contains own p × IsTrue (role_at old (rows.last + p)).enter))
    entered =
        let m = marks.enter p within_rows in
        let o = marks_own.enter p within_rows in
        let some_is = rw (last_spread, spreads.here p within_rows) at m in
        let own_is = rw last_some at o in (
          λ on. elim (own_is.0 on) [ inl one ↦ elim (some_is.0 one) [ inl is ↦ inl (inl ((and_is loose _).0 is)) | inr both ↦ inl (inr both) ] | inr both ↦ inr both ],
          λ so. elim so [
            | inl (inl both) ↦ own_is.1 (inl (some_is.1 (inl ((and_is loose _).1 both))))
            | inl (inr both) ↦ own_is.1 (inl (some_is.1 (inr both)))
            | inr both ↦ own_is.1 (inr both)
          ],
        )

    turned : IsTrue (role_at new (rows.first + p)).target ↔ (Contains own p × (IsTrue (role_at old (rows.last + p)).enter ⊎ (p ≡ from)))
    turned =
        let m = marks.target p within_rows in
        let o = marks_own.target p within_rows in
        let some_is = rw (last_spread, spreads.here p within_rows) at m in
        let own_is = rw last_some at o in (
          λ on. elim (own_is.0 on) [
            | inl one ↦ elim (some_is.0 one) [ inl none ↦ absurd (false≢true none) | inr both ↦ absurd (false≢true both.1.0) ]
            | inr both ↦ (both.0, both.1.1)
          ],
          λ so. own_is.1 (inr (so.0, (refl, so.1))),
        )

    pub leg_role : IsRole d q (leg + 1) (router_at d p) (role_at new (rows.first + p))
    leg_role = record {
      enter = (
        λ on. elim (entered.0 on) [
          | inl (inl both) ↦ record { inside = inside_of (router_at d p) (inl (is_loose.0 both.0)); through = through.0 both.1 }
          | inl (inr both) ↦ record { inside = inside_of (router_at d p) (inr (inl ((are_before.each p low).0 both.0))); through = through.0 both.1 }
          | inr both ↦ record { inside = inside_of (router_at d p) (inr (inr ((are_own.each p low).0 both.0))); through = through.0 both.1 }
        ],
        λ may. let stands = through.1 may.through in entered.1 (elim (of_inside (router_at d p) may.inside) [
          | inl is ↦ inl (inl (is_loose.1 is, stands))
          | inr (inl is) ↦ inl (inr ((are_before.each p low).1 is, stands))
          | inr (inr is) ↦ inr ((are_own.each p low).1 is, stands)
        ]),
      );
      target = (
        λ on. let both = turned.0 on in record {
          target = (are_own.each p low).0 both.0;
          stands = elim both.1 [
            | inl stands ↦ elim (through.0 stands) [ inl transit ↦ inl transit | inr ends ↦ inr (inr ends) ]
            | inr begins ↦ inr (inl (ap (router_at d) begins ∙ start.is))
          ];
        },
        λ may. turned.1 (
          (are_own.each p low).1 may.target,
          elim may.stands [
            | inl transit ↦ inl (through.1 (inl transit))
            | inr (inl begins) ↦ inr (one_place d listed q.from p from (record { within = low; is = begins }) start)
            | inr (inr ends) ↦ inl (through.1 (inr ends))
          ],
        ),
      );
    }

  pub roles_on : AreRolesUpTo d q (leg + 1) new
  roles_on i e ix up =
      let long : i < length new = omega (arith, ix.low, many, spreads.elsewhere.many, marks.elsewhere.many, marks_own.elsewhere.many) in
      let any : slice_index_or new i e ≡ role_at new i = get_or_default new i e nothing long in
      let away : i / 1024 ≢ leg → role_at new i ≡ role_at old i = λ ne. elim (cases_lt i (leg * 1024)) [
        | inl low ↦ marks_own.elsewhere.below i (omega (arith, first, low)) ∙ marks.elsewhere.below i (omega (arith, first, low)) ∙ spreads.elsewhere.below i (omega (arith, first, low))
        | inr ge ↦ elim (cases_lt i (leg * 1024 + 1024)) [
          | inl lt ↦ let same : i / 1024 ≡ leg = omega (arith, ge, lt) in absurd (ne same)
          | inr past ↦
              let high : rows.first + rows.count ≤ i = omega (arith, first, count, listed.few, past) in
              marks_own.elsewhere.behind i high ∙ marks.elsewhere.behind i high ∙ spreads.elsewhere.behind i high
        ]
      ] in
      elim (same_or_not (i / 1024) leg) [
        | inl here ↦
            let at : rows.first + i % 1024 ≡ i = omega (arith, first, here) in
            let made = leg_role (i % 1024) ix.place in
            rw any (rw here (subst (λ k. IsRole d q (leg + 1) (router_at d (i % 1024)) (role_at new k)) at made))
        | inr ne ↦
            let was = known i nothing ix (elim up [ inl is_last ↦ inl is_last | inr lt ↦ let less : i / 1024 < leg = omega (arith, lt, ne) in inr less ]) in
            rw (any, away ne) was
      ]

-- The item at index 0 of a list with one item is this item.
one_item : (x k d : ℕ) → k < 1 → slice_index_or (x ∷ []) k d ≡ x
one_item x zero d low = refl
one_item x (suc k) d low = absurd (omega (arith, low))

none_there : (p : ℕ) → Contains [] p → ⊥
none_there p (k, low, is) = omega (arith, low)

-- The only target of leg 0 is the head-end, where the first leg begins.
pub head_alone : (d : Database) (q : Request) (listed : AreListed d) (from : ℕ) → IsIndexOf d q.from from → AreTargetsOf d q 0 (from ∷ [])
head_alone d q listed from start = record {
  within = λ k x low. rw (one_item from k x low) start.within;
  each = λ p low. (
    λ has. elim (Contains-push_cases [] from p has) [ inl none ↦ absurd (none_there p none) | inr is ↦ ap (router_at d) (sym is) ∙ start.is ],
    λ is. subst (Contains (from ∷ [])) (sym (one_place d listed q.from p from (record { within = low; is = is }) start)) (Contains-push [] from),
  );
}
