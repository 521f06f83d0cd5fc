-- For each way to the tail-end there is a way that visits no router twice and costs no more.
use Rattle.std.proofs.Common.{◌≡◌, ◌≢◌, ◌⊎◌, inl, inr, ℕ, ◌+◌, ◌≤◌, false, nat_eq, List, [], ◌∷◌, length, map, refl, sym, subst, arith}
use Rattle.std.specs.List.{AllByRecursion, IsDistinct}
use Rattle.std.proofs.lemmas.Bool.Decides.{nat_tests}
use Rattle.std.proofs.lemmas.List.{length-map}
use Rattle.std.proofs.lemmas.List.Sums.{sum_by-cons}
use Rattle.std.proofs.lemmas.Map.Keys.{IsDistinct-tail, IsDistinct-cons}
use Rattle.cspf_model.specs.declared.link.Link.{Link}
use Rattle.cspf_model.specs.declared.request.Request.{Request}
use Rattle.cspf_model.specs.Database.{Database, IsRouterOf}
use Rattle.cspf_model.specs.Walks.{cost_of, routers_of}
use Rattle.cspf_graph.proofs.RouterIndexes.{same_or_not}
use Rattle.cspf_walk.specs.TightWalks.{IsWayToEnd}
use Rattle.cspf_walk.specs.Ways.{IsWayLink}

-- The cost of a link followed by further links is the link's metric plus the cost of the further
-- links.
pub cost_of-cons : (l : Link) (links : List Link) → cost_of (l ∷ links) ≡ l.metric + cost_of links
cost_of-cons l links = sum_by-cons (λ (l : Link). l.metric) l links

told_apart : (r x : ℕ) → r ≢ x → nat_eq r x ≡ false
told_apart r x ne = grind (arith, nat_tests)

alone : (x : ℕ) → IsDistinct nat_eq (x ∷ [])
unfolding IsDistinct
alone x = (tt, tt)

module _ (d : Database) (q : Request) where
  -- the way without its first link
  pub rest_of : (router : ℕ) (l : Link) (links : List Link) → IsWayToEnd d q router (l ∷ links) → IsWayToEnd d q l.to links
  rest_of router l links way = record { links = way.links.1; joined = way.joined.1; end = way.end }

  -- The way from `router` visits no router twice and costs at most `most`.
  pub record IsShort (router most : ℕ) : Type 0 where
    pub links : List Link
    pub way : IsWayToEnd d q router links
    pub apart : IsDistinct nat_eq (routers_of router links)
    pub cost : cost_of links ≤ most

  -- A way that visits no router twice doesn't visit the router `r`, or its links from there on are
  -- such a way from `r`.
  met_at : (r x : ℕ) (links : List Link) → IsWayToEnd d q x links → IsDistinct nat_eq (routers_of x links)
      → AllByRecursion (λ y. nat_eq r y ≡ false) (routers_of x links) ⊎ IsShort r (cost_of links)
  met_at r x [] way apart =
      elim (same_or_not r x) [
        | inl same ↦ inr (record { links = []; way = subst (λ k. IsWayToEnd d q k []) (sym same) way; apart = alone r; cost = omega arith })
        | inr ne ↦ inl (told_apart r x ne, tt)
      ]
  met_at r x (l ∷ ls) way apart =
      elim (same_or_not r x) [
        | inl same ↦ inr (record {
          links = l ∷ ls;
          way = subst (λ k. IsWayToEnd d q k (l ∷ ls)) (sym same) way;
          apart = subst (λ k. IsDistinct nat_eq (routers_of k (l ∷ ls))) (sym same) apart;
          cost = omega arith;
        })
        | inr ne ↦ elim (met_at r l.to ls (rest_of x l ls way) (IsDistinct-tail nat_eq x (routers_of l.to ls) apart)) [
          | inl all ↦ inl (told_apart r x ne, all)
          | inr short ↦ inr (record { links = short.links; way = short.way; apart = short.apart; cost = omega (arith, short.cost, cost_of-cons l ls) })
        ]
      ]

  pub shorter : (x : ℕ) (links : List Link) → IsWayToEnd d q x links → IsShort x (cost_of links)
  shorter x [] way = record { links = []; way = way; apart = alone x; cost = omega arith }
  shorter x (l ∷ ls) way =
      let short = shorter l.to ls (rest_of x l ls way) in
      elim (met_at x l.to short.links short.way short.apart) [
        | inl all ↦ record {
          links = l ∷ short.links;
          way = record { links = (way.links.0, short.way.links); joined = (way.joined.0, short.way.joined); end = short.way.end };
          apart = IsDistinct-cons nat_eq x (routers_of l.to short.links) all short.apart;
          cost = omega (arith, short.cost, cost_of-cons l ls, cost_of-cons l short.links);
        }
        | inr met ↦ record { links = met.links; way = met.way; apart = met.apart; cost = omega (arith, met.cost, short.cost, cost_of-cons l ls) }
      ]

  known : (links : List Link) → AllByRecursion (IsWayLink d q) links → AllByRecursion (IsRouterOf d) (map (λ (l : Link). l.to) links)
  known [] all = tt
  known (l ∷ ls) all = ((l, all.0.admissible.link, inr refl), known ls all.1)

  -- A way that visits no router twice has at most 1,023 links.
  pub few_links : ((routers : List ℕ) → IsDistinct nat_eq routers → AllByRecursion (IsRouterOf d) routers → length routers ≤ 1024)
      → (x : ℕ) → IsRouterOf d x → (links : List Link) → IsWayToEnd d q x links → IsDistinct nat_eq (routers_of x links) → length links ≤ 1023
  few_links few x here links way apart = omega (arith, few (routers_of x links) apart (here, known links way.links), length-map links (λ (l : Link). l.to))
