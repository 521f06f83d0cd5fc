-- Sums of excesses over the links of a table, link by link.
use Rattle.std.proofs.Common.{◌≡◌, inl, inr, ℕ, zero, suc, ◌<◌, ◌+◌, List, [], ◌∷◌, ◌++◌, length, slice_index_or, sum_by, take, sym, ap, subst, ◌∙◌, arith}
use Rattle.std.specs.List.{Contains}
use Rattle.std.proofs.lemmas.List.{take_more}
use Rattle.std.proofs.lemmas.List.Elements.{Contains-append_cases, Contains-append_right}
use Rattle.std.proofs.lemmas.List.Sums.{sum_by-cons}
use Rattle.cspf_model.specs.declared.link.Link.{Link}
use Rattle.cspf_model.specs.declared.request.Request.{Request}
use Rattle.cspf_model.specs.Database.{Database, AreLinksOf, IsRouterOf}
use Rattle.cspf_pair.specs.Potentials.{Potentials, Weights, BoundsExcess, MayBeUsed, link_excess, router_excess}
use Rattle.cspf_disjoint.specs.Excess.{BoundsExcessAmong, IsExcessIfUsed}

nothing_in : {X : Type 0} (x : X) → ¬ Contains [] x
nothing_in x has = omega (arith, has.1)

only_one : {X : Type 0} (x y : X) → Contains (x ∷ []) y → y ≡ x
only_one x y (zero, lt, is) = sym is
only_one x y (suc k, lt, is) = absurd (omega (arith, lt))

module _ (d : Database) (q : Request) (y : Potentials) (w : Weights) where
  pub among_none : BoundsExcessAmong d q y w [] 0
  among_none = record { links = []; each = λ l used has. absurd (nothing_in l has); sum = omega arith }

  more_links : (rows : List Link) (l : Link) (total x : ℕ) → BoundsExcessAmong d q y w rows total → IsExcessIfUsed d q y w l x
      → BoundsExcessAmong d q y w (rows ++ (l ∷ [])) (total + x)
  more_links rows l total x among is =
      elim is [
        | inl same ↦ record {
          links = l ∷ among.links;
          each = λ m used has. elim (Contains-append_cases rows (l ∷ []) m has) [
            | inl before ↦ Contains-append_right (l ∷ []) among.links m (among.each m used before)
            | inr last ↦ (0, omega arith, sym (only_one l m last))
          ];
          sum = (let first = sum_by-cons (link_excess y w) l among.links in let rest = among.sum in omega (arith, first, rest, same));
        }
        | inr never ↦ record {
          links = among.links;
          each = λ m used has. elim (Contains-append_cases rows (l ∷ []) m has) [
            | inl before ↦ among.each m used before
            | inr last ↦ absurd (never (subst (MayBeUsed d q) (only_one l m last) used))
          ];
          sum = (let rest = among.sum in omega (arith, rest));
        }
      ]

  -- The sum over the first `k` links, and the excess of the next link.
  pub among_more : (rows : List Link) (k : ℕ) (l : Link) (total x : ℕ) → k < length rows → l ≡ slice_index_or rows k l
      → BoundsExcessAmong d q y w (take k rows) total → IsExcessIfUsed d q y w l x
      → BoundsExcessAmong d q y w (take (k + 1) rows) (total + x)
  among_more rows k l total x lt at among is =
      let more : take (k + 1) rows ≡ take k rows ++ (l ∷ []) =
      take_more rows k l lt ∙ ap (λ (m : Link). take k rows ++ (m ∷ [])) (sym at) in
      rw more (more_links (take k rows) l total x among is)

  pub whole_excess : (rows : List Link) (routers : List ℕ) (links total : ℕ) → AreLinksOf d rows → ((router : ℕ) → IsRouterOf d router → Contains routers router)
      → BoundsExcessAmong d q y w rows links → total ≡ links + sum_by (router_excess y w) routers → BoundsExcess d q y w total
  whole_excess rows routers links total are known among is = record {
    links = among.links;
    routers = routers;
    each_link = λ l used. among.each l used (are.whole l used.admissible.link);
    each_router = known;
    sum = (let bound = among.sum in omega (arith, bound, is));
  }
