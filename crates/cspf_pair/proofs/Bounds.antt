-- Weak duality: a lower bound of the weight of a way, and of the weight of a pair.
use Rattle.std.proofs.Common.{◌≡◌, ℕ, true, false, ◌+◌, ◌*◌, ◌^◌, ◌<◌, ◌≤◌, List, [], ◌∷◌, ◌++◌, All, Contains, length, map, nat_eq, sum_by, refl, ap, arith, inl, inr, Bool, ◌&&◌, ◌∙◌}
use Rattle.std.specs.Ordering.{nat_cmp, ordering_then}
use Rattle.std.specs.declared.cmp.Ordering.TheVariants.{Less}
use Rattle.std.specs.List.{AllByRecursion}
use Rattle.std.proofs.lemmas.Bool.{and_from, false≢true, eq-eqb, eqb-true}
use Rattle.std.proofs.lemmas.Bool.Decides.{nat_tests}
use Rattle.std.proofs.lemmas.List.Elements.{All-from_recursion, All-weaker, All-append}
use Rattle.std.proofs.lemmas.List.Sums.{sum_by-cons, sum_by-append}
use Rattle.cspf_model.specs.declared.link.Link.{Link}
use Rattle.cspf_model.specs.declared.request.Request.{Request}
use Rattle.cspf_model.specs.Database.{Database, AreLinksOf, HasTransit, IsRouterOf, key_of}
use Rattle.cspf_model.specs.Admissible.{IsAdmissible}
use Rattle.cspf_model.specs.Walks.{AreJoined, end_of, routers_passed, cost_of}
use Rattle.cspf_pair.specs.declared.kind.Kind.{Kind}
use Rattle.cspf_pair.specs.declared.kind.Kind.TheVariants.{Circuits, Routers}
use Rattle.cspf_pair.specs.Pairs.{AreDifferent, AreOfTwoCircuits, IsWay, IsPair}
use Rattle.cspf_pair.specs.Potentials.{Potentials, Weights, AreOfKind, BoundsExcess, MayBeUsed, by_size, have_same_key, link_excess, router_excess, weight_of}
use Rattle.cspf_pair.specs.PotentialLaws.{IsLeastByPotentials}
use Rattle.cspf_pair.proofs.DistinctSums.{AllPairs-tail, distinct_sum}

module _ (y : Potentials) (w : Weights) where
  -- Over joined links the potential rises by at most their weights and excesses, and those of the
  -- routers between them.
  joined_bound : (l : Link) (ls : List Link) → AreJoined l.to ls
      → y.arriving (end_of l.to ls)
      ≤ y.leaving l.from + (sum_by w.of_link (l ∷ ls) + sum_by w.of_router (map (λ m. m.from) ls))
      + (sum_by (link_excess y w) (l ∷ ls) + sum_by (router_excess y w) (map (λ m. m.from) ls))
  joined_bound l [] joined =
      let first = sum_by-cons w.of_link l [] in
      let second = sum_by-cons (link_excess y w) l [] in
      omega (arith, first, second)
  joined_bound l (m ∷ ms) joined =
      let rest = joined_bound m ms joined.1 in
      let here = ap y.arriving joined.0 in
      let weights = sum_by-cons w.of_link l (m ∷ ms) in
      let through = sum_by-cons w.of_router m.from (map (λ (n : Link). n.from) ms) in
      let overs = sum_by-cons (link_excess y w) l (m ∷ ms) in
      let rises = sum_by-cons (router_excess y w) m.from (map (λ (n : Link). n.from) ms) in
      omega (arith, rest, here, weights, through, overs, rises)

  pub way_bound : (d : Database) (q : Request) (way : List Link) → IsWay d q way
      → y.arriving q.to
      ≤ y.leaving q.from + weight_of w way + (sum_by (link_excess y w) way + sum_by (router_excess y w) (routers_passed way))
  way_bound d q [] is = absurd (q.two_ends is.end)
  way_bound d q (l ∷ ls) is =
      let all = joined_bound l ls is.walk.joined.1 in
      let start = ap y.leaving is.walk.joined.0 in
      let end = ap y.arriving is.end in
      omega (arith, all, start, end)

-- Which links and routers a way has.

rest_may_be_used : (d : Database) (q : Request) (ls : List Link) → AllByRecursion (IsAdmissible d q) ls
    → AllByRecursion (HasTransit d) (map (λ m. m.from) ls) → AllByRecursion (MayBeUsed d q) ls
rest_may_be_used d q [] links transit = tt
rest_may_be_used d q (l ∷ ls) links transit =
    (record { admissible = links.0; leaves = inr transit.0 }, rest_may_be_used d q ls links.1 transit.1)

may_be_used : (d : Database) (q : Request) (way : List Link) → IsWay d q way → AllByRecursion (MayBeUsed d q) way
may_be_used d q [] is = tt
may_be_used d q (l ∷ ls) is =
    (record { admissible = is.walk.links.0; leaves = inl is.walk.joined.0 }, rest_may_be_used d q ls is.walk.links.1 is.walk.transit)

starts : (d : Database) (q : Request) (ls : List Link) → AllByRecursion (MayBeUsed d q) ls → AllByRecursion (IsRouterOf d) (map (λ m. m.from) ls)
starts d q [] all = tt
starts d q (l ∷ ls) all = ((l, all.0.admissible.link, inl refl), starts d q ls all.1)

passed : (d : Database) (q : Request) (way : List Link) → AllByRecursion (MayBeUsed d q) way → AllByRecursion (IsRouterOf d) (routers_passed way)
passed d q [] all = tt
passed d q (l ∷ ls) all = starts d q ls all.1

module _ (d : Database) (q : Request) where
  pub links_used : (way : List Link) → IsWay d q way → All (MayBeUsed d q) way
  links_used way is = All-from_recursion (MayBeUsed d q) way (may_be_used d q way is)

  pub routers_known : (way : List Link) → IsWay d q way → All (IsRouterOf d) (routers_passed way)
  routers_known way is = All-from_recursion (IsRouterOf d) (routers_passed way) (passed d q way (may_be_used d q way is))

-- Sums over the links and routers of a pair.

pub key_same : (l : Link) → have_same_key l l ≡ true
key_same l = and_from (nat_eq l.from l.from) (nat_eq l.local l.local) (eq-eqb l.from l.from refl) (eq-eqb l.local l.local refl)

parts : (a b : Bool) → (a && b) ≡ true → (a ≡ true) × (b ≡ true)
parts true b e = (refl, e)
parts false b e = absurd (false≢true e)

pub same_key : (l m : Link) → have_same_key l m ≡ true → key_of l ≡ key_of m
same_key l m e =
    let both = parts (nat_eq l.from m.from) (nat_eq l.local m.local) e in
    ap (λ (r : ℕ). (r, l.local)) (eqb-true l.from m.from both.0) ∙ ap (λ (i : ℕ). (m.from, i)) (eqb-true l.local m.local both.1)

keys_differ : (l m : Link) → AreOfTwoCircuits l m → have_same_key l m ≡ false
keys_differ l m apart =
    elim (have_same_key l m) as (λ b. have_same_key l m ≡ b → b ≡ false) [ true ↦ λ e. absurd (apart.keys (same_key l m e)) | false ↦ λ _. refl ] refl

numbers_differ : (n m : ℕ) → AreDifferent n m → nat_eq n m ≡ false
numbers_differ n m apart =
    elim (nat_eq n m) as (λ b. nat_eq n m ≡ b → b ≡ false) [ true ↦ λ e. absurd (apart (eqb-true n m e)) | false ↦ λ _. refl ] refl

ones : {X : Type 0} (xs : List X) → sum_by (λ _. 1) xs ≡ length xs
ones [] = refl
ones (x ∷ xs) = let first = sum_by-cons (λ _. 1) x xs in let rest = ones xs in omega (arith, first, rest)

no_excess : (y : Potentials) (w : Weights) → ((router : ℕ) → y.leaving router ≡ y.arriving router) → (rs : List ℕ) → sum_by (router_excess y w) rs ≡ 0
no_excess y w same [] = refl
no_excess y w same (r ∷ rs) =
    let first = sum_by-cons (router_excess y w) r rs in let rest = no_excess y w same rs in let here = same r in omega (arith, first, rest, here)

module _ (d : Database) (q : Request) (kind : Kind) (one other : List Link) (pair : IsPair d q kind one other) where
  link_sum : (f : Link → ℕ) (rows : List Link) → ((l : Link) → MayBeUsed d q l → Contains rows l) → sum_by f (one ++ other) ≤ sum_by f rows
  link_sum f rows each =
      distinct_sum have_same_key key_same AreOfTwoCircuits keys_differ f (one ++ other) rows pair.circuits
      (All-weaker (MayBeUsed d q) (Contains rows) each (one ++ other)
      (All-append (MayBeUsed d q) one other (links_used d q one pair.first_way) (links_used d q other pair.second_way)))

  router_sum : (y : Potentials) (w : Weights) → AreOfKind kind y → (routers : List ℕ) → ((router : ℕ) → IsRouterOf d router → Contains routers router)
      → sum_by (router_excess y w) (routers_passed one ++ routers_passed other) ≤ sum_by (router_excess y w) routers
  router_sum = sums kind pair
    where
      sums : (k : Kind) → IsPair d q k one other → (y : Potentials) (w : Weights) → AreOfKind k y → (routers : List ℕ) → ((router : ℕ) → IsRouterOf d router → Contains routers router)
          → sum_by (router_excess y w) (routers_passed one ++ routers_passed other) ≤ sum_by (router_excess y w) routers
      sums Circuits is y w fits routers each = let none = no_excess y w fits (routers_passed one ++ routers_passed other) in omega (arith, none)
      sums Routers is y w fits routers each =
          let both = routers_passed one ++ routers_passed other in
          distinct_sum nat_eq (λ r. eq-eqb r r refl) AreDifferent numbers_differ (router_excess y w) both routers
          (AllPairs-tail AreDifferent q.to both (AllPairs-tail AreDifferent q.from (q.to ∷ both) is.routers))
          (All-weaker (IsRouterOf d) (Contains routers) each both
          (All-append (IsRouterOf d) (routers_passed one) (routers_passed other) (routers_known d q one is.first_way) (routers_known d q other is.second_way)))

  -- Twice the rise of the potential from the head-end to the tail-end is at most the pair's weight
  -- plus all excesses.
  pair_bound : (y : Potentials) (w : Weights) (total : ℕ) → AreOfKind kind y → BoundsExcess d q y w total
      → 2 * y.arriving q.to ≤ weight_of w one + weight_of w other + 2 * y.leaving q.from + total
  pair_bound y w total fits bounds =
      let first = way_bound y w d q one pair.first_way in
      let second = way_bound y w d q other pair.second_way in
      let overs = sum_by-append (link_excess y w) one other in
      let most = link_sum (link_excess y w) bounds.links bounds.each_link in
      let rises = sum_by-append (router_excess y w) (routers_passed one) (routers_passed other) in
      let within = router_sum y w fits bounds.routers bounds.each_router in
      let sum = bounds.sum in
      omega (arith, first, second, overs, most, rises, within, sum)

  few : (rows : List Link) → AreLinksOf d rows → length (one ++ other) ≤ length rows
  few rows are =
      let sums = link_sum (λ _. 1) rows (λ l used. are.whole l used.admissible.link) in
      let less = ones (one ++ other) in
      let more = ones rows in
      omega (arith, sums, less, more)

-- Weights by size decide as sizes do.

pub no_weight : (rs : List ℕ) → sum_by (λ _. 0) rs ≡ 0
no_weight [] = refl
no_weight (r ∷ rs) = let first = sum_by-cons (λ _. 0) r rs in let rest = no_weight rs in omega (arith, first, rest)

pub sizes : (ls : List Link) → sum_by by_size.of_link ls ≡ cost_of ls * 2 ^ 15 + length ls
sizes [] = refl
sizes (l ∷ ls) =
    let first = sum_by-cons by_size.of_link l ls in
    let second = sum_by-cons (λ (m : Link). m.metric) l ls in
    let rest = sizes ls in
    omega (arith, first, second, rest)

pair_size : (one other : List Link) → weight_of by_size one + weight_of by_size other ≡ cost_of (one ++ other) * 2 ^ 15 + length (one ++ other)
pair_size one other =
    let both = sum_by-append by_size.of_link one other in
    let all = sizes (one ++ other) in
    let first = no_weight (routers_passed one) in
    let second = no_weight (routers_passed other) in
    omega (arith, both, all, first, second)

no_less : (c n c' n' : ℕ) → n < 32768 → c' * 32768 + n' ≤ c * 32768 + n → ordering_then (nat_cmp c c') (nat_cmp n n') ≡ Less → ⊥
no_less c n c' n' short le less = grind (arith, nat_tests)

pub least_by_weight : IsLeastByPotentials
least_by_weight d q kind y total rows are limit fits bounds one other pair most = record {
  is_pair = pair;
  least = λ a b rival.
      (let bound = pair_bound d q kind a b rival y by_size total fits bounds in
      let short = few d q kind a b rival rows are in
      let rivals = pair_size a b in
      let own = pair_size one other in
      no_less (cost_of (a ++ b)) (length (a ++ b)) (cost_of (one ++ other)) (length (one ++ other)) (omega (arith, short, limit)) (omega (arith, bound, most, rivals, own)));
}
