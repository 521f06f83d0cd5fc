-- Two ways without a common link. Wherever they use a circuit in both directions, links can be
-- exchanged: the result is two ways with fewer links, at no higher cost.
use Rattle.std.proofs.Common.{◌≡◌, ◌≢◌, ◌⊎◌, ℕ, zero, suc, true, false, ◌+◌, ◌<◌, ◌≤◌, List, [], ◌∷◌, ◌++◌, AllPairs, length, map, nat_eq, sum_by, refl, sym, ap, subst, ◌∙◌, inl, inr, arith}
use Rattle.std.specs.Ordering.{nat_cmp, ordering_then}
use Rattle.std.specs.declared.cmp.Ordering.TheVariants.{Less, Greater}
use Rattle.std.specs.List.{AllByRecursion}
use Rattle.std.proofs.lemmas.Bool.{and_from, false≢true, eq-eqb, eqb-true}
use Rattle.std.proofs.lemmas.Bool.Decides.{nat_tests}
use Rattle.std.proofs.lemmas.List.{length-append}
use Rattle.std.proofs.lemmas.List.Elements.{All-from_recursion, recursion_from_All}
use Rattle.std.proofs.lemmas.List.Kept.{AllPairs-cons}
use Rattle.std.proofs.lemmas.List.Sums.{sum_by-cons, sum_by-append}
use Rattle.cspf_model.specs.declared.link.Link.{Link}
use Rattle.cspf_model.specs.declared.request.Request.{Request}
use Rattle.cspf_model.specs.Database.{Database, HasTransit, IsReverse, key_of}
use Rattle.cspf_model.specs.Admissible.{IsAdmissible}
use Rattle.cspf_model.specs.Walks.{AreJoined, IsWalk, cost_of, end_of, routers_passed}
use Rattle.cspf_pair.specs.declared.kind.Kind.TheVariants.{Circuits}
use Rattle.cspf_pair.specs.Pairs.{AreOfTwoCircuits, IsPair, IsWay}
use Rattle.cspf_pair.specs.Potentials.{by_link, have_same_key, one_if}
use Rattle.cspf_pair.specs.Laws.{ArePairsOfLinksNoSmaller, AreTwoLinks, IsLeastPairOfLinksNoSmaller}
use Rattle.cspf_pair.proofs.DistinctSums.{AllPairs-head, AllPairs-tail}
use Rattle.cspf_pair.proofs.Bounds.{key_same, same_key}

-- Beginnings and ends of ways.

-- The links lead from the router to the tail-end, and each of them begins at a router with transit.
record Rest (d : Database) (q : Request) (router : ℕ) (ls : List Link) : Type 0 where
  links : AllByRecursion (IsAdmissible d q) ls
  joined : AreJoined router ls
  transit : AllByRecursion (HasTransit d) (map (λ l. l.from) ls)
  end : end_of router ls ≡ q.to

-- The links are a walk to the router.
record Start (d : Database) (q : Request) (ls : List Link) (router : ℕ) : Type 0 where
  walk : IsWalk d q ls
  end : end_of q.from ls ≡ router

all_first : {X : Type 0} (P : X → Type 0) (xs ys : List X) → AllByRecursion P (xs ++ ys) → AllByRecursion P xs
all_first P [] ys all = tt
all_first P (x ∷ xs) ys all = (all.0, all_first P xs ys all.1)

all_both : {X : Type 0} (P : X → Type 0) (xs ys : List X) → AllByRecursion P xs → AllByRecursion P ys → AllByRecursion P (xs ++ ys)
all_both P [] ys first second = second
all_both P (x ∷ xs) ys first second = (first.0, all_both P xs ys first.1 second)

module _ (d : Database) (q : Request) where
  transit_first : (xs ys : List Link) → AllByRecursion (HasTransit d) (map (λ l. l.from) (xs ++ ys)) → AllByRecursion (HasTransit d) (map (λ l. l.from) xs)
  transit_first [] ys all = tt
  transit_first (x ∷ xs) ys all = (all.0, transit_first xs ys all.1)

  transit_both : (xs ys : List Link) → AllByRecursion (HasTransit d) (map (λ l. l.from) xs) → AllByRecursion (HasTransit d) (map (λ l. l.from) ys)
      → AllByRecursion (HasTransit d) (map (λ l. l.from) (xs ++ ys))
  transit_both [] ys first second = second
  transit_both (x ∷ xs) ys first second = (first.0, transit_both xs ys first.1 second)

  passed_first : (xs ys : List Link) → AllByRecursion (HasTransit d) (routers_passed (xs ++ ys)) → AllByRecursion (HasTransit d) (routers_passed xs)
  passed_first [] ys all = tt
  passed_first (x ∷ xs) ys all = transit_first xs ys all

  passed_both : (xs ys : List Link) → AllByRecursion (HasTransit d) (routers_passed xs) → AllByRecursion (HasTransit d) (map (λ l. l.from) ys)
      → AllByRecursion (HasTransit d) (routers_passed (xs ++ ys))
  passed_both [] [] first second = tt
  passed_both [] (y ∷ ys) first second = second.1
  passed_both (x ∷ xs) ys first second = transit_both xs ys first second

  joined_first : (router : ℕ) (xs : List Link) (l : Link) (ys : List Link) → AreJoined router (xs ++ l ∷ ys)
      → AreJoined router xs × (end_of router xs ≡ l.from)
  joined_first router [] l ys joined = (tt, sym joined.0)
  joined_first router (x ∷ xs) l ys joined = let rest = joined_first x.to xs l ys joined.1 in ((joined.0, rest.0), rest.1)

  joined_both : (router : ℕ) (xs : List Link) (middle : ℕ) (ys : List Link) → AreJoined router xs → end_of router xs ≡ middle → AreJoined middle ys
      → AreJoined router (xs ++ ys)
  joined_both router [] middle ys first e second = subst (λ r. AreJoined r ys) (sym e) second
  joined_both router (x ∷ xs) middle ys first e second = (first.0, joined_both x.to xs middle ys first.1 e second)

  end_both : (router : ℕ) (xs : List Link) (middle : ℕ) (ys : List Link) → end_of router xs ≡ middle → end_of router (xs ++ ys) ≡ end_of middle ys
  end_both router [] middle ys e = ap (λ r. end_of r ys) e
  end_both router (x ∷ xs) middle ys e = end_both x.to xs middle ys e

  rest_of : (router : ℕ) (xs : List Link) (l : Link) (ys : List Link) → Rest d q router (xs ++ l ∷ ys) → Rest d q l.to ys
  rest_of router [] l ys r = record { links = r.links.1; joined = r.joined.1; transit = r.transit.1; end = r.end }
  rest_of router (x ∷ xs) l ys r = rest_of x.to xs l ys (record { links = r.links.1; joined = r.joined.1; transit = r.transit.1; end = r.end })

  -- A way behind one of its links.
  behind : (xs : List Link) (l : Link) (ys : List Link) → IsWay d q (xs ++ l ∷ ys) → Rest d q l.to ys
  behind [] l ys way = record { links = way.walk.links.1; joined = way.walk.joined.1; transit = way.walk.transit; end = way.end }
  behind (x ∷ xs) l ys way =
      rest_of x.to xs l ys (record { links = way.walk.links.1; joined = way.walk.joined.1; transit = way.walk.transit; end = way.end })

  -- A way before one of its links.
  before : (xs : List Link) (l : Link) (ys : List Link) → IsWay d q (xs ++ l ∷ ys) → Start d q xs l.from
  before xs l ys way =
      let joined = joined_first q.from xs l ys way.walk.joined in
      record {
        walk = record {
          links = all_first (IsAdmissible d q) xs (l ∷ ys) way.walk.links;
          joined = joined.0;
          transit = passed_first xs (l ∷ ys) way.walk.transit;
        };
        end = joined.1;
      }

  way_of : (xs : List Link) (router : ℕ) (ys : List Link) → Start d q xs router → Rest d q router ys → IsWay d q (xs ++ ys)
  way_of xs router ys start rest = record {
    walk = record {
      links = all_both (IsAdmissible d q) xs ys start.walk.links rest.links;
      joined = joined_both q.from xs router ys start.walk.joined start.end rest.joined;
      transit = passed_both xs ys start.walk.transit rest.transit;
    };
    end = end_both q.from xs router ys start.end ∙ rest.end;
  }

  -- The beginning of a way up to the link `l`, and the rest of a way behind the reverse of `l`.
  exchanged_way : (xs : List Link) (l m : Link) (ys : List Link) → IsReverse l m → Start d q xs l.from → Rest d q m.to ys → IsWay d q (xs ++ ys)
  exchanged_way xs l m ys back start rest = way_of xs l.from ys start (subst (λ r. Rest d q r ys) back.to rest)

  -- The beginning of a way up to the reverse of `l`, and the rest of a way behind `l`.
  other_way : (xs : List Link) (l m : Link) (ys : List Link) → IsReverse l m → Start d q xs m.from → Rest d q l.to ys → IsWay d q (xs ++ ys)
  other_way xs l m ys back start rest = way_of xs m.from ys start (subst (λ r. Rest d q r ys) (sym back.from) rest)

-- Sums over links.

exchanged_sum : (f : Link → ℕ) (p1 : List Link) (l : Link) (s1 p2 : List Link) (m : Link) (s2 : List Link)
    → sum_by f (p1 ++ s2) + sum_by f (p2 ++ s1) + (f l + f m) ≡ sum_by f (p1 ++ l ∷ s1) + sum_by f (p2 ++ m ∷ s2)
exchanged_sum f p1 l s1 p2 m s2 =
    let a = sum_by-append f p1 s2 in
    let b = sum_by-append f p2 s1 in
    let c = sum_by-append f p1 (l ∷ s1) in
    let e = sum_by-append f p2 (m ∷ s2) in
    let g = sum_by-cons f l s1 in
    let h = sum_by-cons f m s2 in
    omega (arith, a, b, c, e, g, h)

shortened_sum : (f : Link → ℕ) (p : List Link) (l : Link) (mid : List Link) (m : Link) (s : List Link)
    → sum_by f (p ++ s) + (f l + f m) ≤ sum_by f (p ++ l ∷ (mid ++ m ∷ s))
shortened_sum f p l mid m s =
    let a = sum_by-append f p s in
    let b = sum_by-append f p (l ∷ (mid ++ m ∷ s)) in
    let c = sum_by-cons f l (mid ++ m ∷ s) in
    let e = sum_by-append f mid (m ∷ s) in
    let g = sum_by-cons f m s in
    omega (arith, a, b, c, e, g)

ones : (xs : List Link) → sum_by (λ _. 1) xs ≡ length xs
ones [] = refl
ones (x ∷ xs) = let first = sum_by-cons (λ _. 1) x xs in let rest = ones xs in omega (arith, first, rest)

-- Links that are the reverse of each other.

equal_or_not : (n m : ℕ) → (n ≡ m) ⊎ (n ≢ m)
equal_or_not n m =
    elim (nat_eq n m) as (λ b. nat_eq n m ≡ b → (n ≡ m) ⊎ (n ≢ m)) [
      | true ↦ λ e. inl (eqb-true n m e)
      | false ↦ λ e. inr (λ same. false≢true (sym e ∙ eq-eqb n m same))
    ] refl

reverse_or_not : (l m : Link) → IsReverse l m ⊎ (¬ IsReverse l m)
reverse_or_not l m =
    elim (equal_or_not m.from l.to) as (λ _. IsReverse l m ⊎ (¬ IsReverse l m)) [
      | inr differ ↦ inr (λ r. differ r.from)
      | inl a ↦ elim (equal_or_not m.local l.remote) as (λ _. IsReverse l m ⊎ (¬ IsReverse l m)) [
        | inr differ ↦ inr (λ r. differ r.local)
        | inl b ↦ elim (equal_or_not m.to l.from) as (λ _. IsReverse l m ⊎ (¬ IsReverse l m)) [
          | inr differ ↦ inr (λ r. differ r.to)
          | inl c ↦ elim (equal_or_not m.remote l.local) as (λ _. IsReverse l m ⊎ (¬ IsReverse l m)) [
            | inr differ ↦ inr (λ r. differ r.remote)
            | inl e ↦ inl (record { from = a; local = b; to = c; remote = e })
          ]
        ]
      ]
    ]

-- The list has the reverse of the link.
record HasBack (l : Link) (xs : List Link) : Type 0 where
  first : List Link
  m : Link
  rest : List Link
  same : xs ≡ first ++ m ∷ rest
  back : IsReverse l m

-- The list has no reverse of the link.
abbrev NoBack : List Link → Link → Type 0
NoBack xs l = AllByRecursion (λ m. ¬ IsReverse l m) xs

find_back : (l : Link) (xs : List Link) → HasBack l xs ⊎ NoBack xs l
find_back l [] = inr tt
find_back l (x ∷ xs) =
    elim (reverse_or_not l x) as (λ _. HasBack l (x ∷ xs) ⊎ NoBack (x ∷ xs) l) [
      | inl back ↦ inl (record { first = []; m = x; rest = xs; same = refl; back = back })
      | inr differ ↦ elim (find_back l xs) as (λ _. HasBack l (x ∷ xs) ⊎ NoBack (x ∷ xs) l) [
        | inl has ↦ inl (record { first = x ∷ has.first; m = has.m; rest = has.rest; same = ap (λ ys. x ∷ ys) has.same; back = has.back })
        | inr none ↦ inr (differ, none)
      ]
    ]

-- The list has a link and, behind it, its reverse.
record HasBoth (xs : List Link) : Type 0 where
  first : List Link
  l : Link
  middle : List Link
  m : Link
  rest : List Link
  same : xs ≡ first ++ l ∷ (middle ++ m ∷ rest)
  back : IsReverse l m

-- No link of the list has its reverse behind it.
abbrev NoBoth : List Link → Type 0
NoBoth [] = Unit {0}
NoBoth (x ∷ xs) = NoBack xs x × NoBoth xs

find_both : (xs : List Link) → HasBoth xs ⊎ NoBoth xs
find_both [] = inr tt
find_both (x ∷ xs) =
    elim (find_back x xs) as (λ _. HasBoth (x ∷ xs) ⊎ NoBoth (x ∷ xs)) [
      | inl has ↦ inl (record { first = []; l = x; middle = has.first; m = has.m; rest = has.rest; same = ap (λ ys. x ∷ ys) has.same; back = has.back })
      | inr differ ↦ elim (find_both xs) as (λ _. HasBoth (x ∷ xs) ⊎ NoBoth (x ∷ xs)) [
        | inl has ↦ inl (record { first = x ∷ has.first; l = has.l; middle = has.middle; m = has.m; rest = has.rest; same = ap (λ ys. x ∷ ys) has.same; back = has.back })
        | inr none ↦ inr (differ, none)
      ]
    ]

-- The first list has a link whose reverse the second list has.
record HasAcross (xs ys : List Link) : Type 0 where
  first : List Link
  l : Link
  rest : List Link
  same : xs ≡ first ++ l ∷ rest
  has : HasBack l ys

-- No link of the first list has its reverse in the second list.
abbrev NoAcross : List Link → List Link → Type 0
NoAcross xs ys = AllByRecursion (NoBack ys) xs

find_across : (xs ys : List Link) → HasAcross xs ys ⊎ NoAcross xs ys
find_across [] ys = inr tt
find_across (x ∷ xs) ys =
    elim (find_back x ys) as (λ _. HasAcross (x ∷ xs) ys ⊎ NoAcross (x ∷ xs) ys) [
      | inl has ↦ inl (record { first = []; l = x; rest = xs; same = refl; has = has })
      | inr differ ↦ elim (find_across xs ys) as (λ _. HasAcross (x ∷ xs) ys ⊎ NoAcross (x ∷ xs) ys) [
        | inl more ↦ inl (record { first = x ∷ more.first; l = more.l; rest = more.rest; same = ap (λ zs. x ∷ zs) more.same; has = more.has })
        | inr none ↦ inr (differ, none)
      ]
    ]

no_both : (xs ys : List Link) → NoBoth xs → NoAcross xs ys → NoBoth ys → NoBoth (xs ++ ys)
no_both [] ys first across second = second
no_both (x ∷ xs) ys first across second = (all_both (λ m. ¬ IsReverse x m) xs ys first.0 across.0, no_both xs ys first.1 across.1 second)

-- How often a list has a link with the key of `k`.
abbrev uses : Link → List Link → ℕ
uses k ls = sum_by (by_link k).of_link ls

no_uses : (k x : Link) (ls : List Link) → have_same_key k x ≡ true → AllByRecursion (AreTwoLinks x) ls → uses k ls ≡ 0
no_uses k x [] e all = refl
no_uses k x (l ∷ ls) e all =
    let first = sum_by-cons (by_link k).of_link l ls in
    let rest = no_uses k x ls e all.1 in
    let none : one_if (have_same_key k l) ≡ 0 =
    elim (have_same_key k l) as (λ b. have_same_key k l ≡ b → one_if b ≡ 0) [
      | true ↦ λ same. absurd (all.0 (sym (same_key k x e) ∙ same_key k l same))
      | false ↦ λ _. refl
    ] refl in
    omega (arith, first, rest, none)

used_once : (k : Link) (ls : List Link) → AllPairs AreTwoLinks ls → uses k ls ≤ 1
used_once k [] pairs = omega arith
used_once k (l ∷ ls) pairs =
    let first = sum_by-cons (by_link k).of_link l ls in
    elim (have_same_key k l) as (λ b. have_same_key k l ≡ b → uses k (l ∷ ls) ≤ 1) [
      | true ↦ λ e.
          (let here = ap one_if e in
          let rest = no_uses k l ls e (recursion_from_All (AreTwoLinks l) ls (AllPairs-head AreTwoLinks l ls pairs)) in
          omega (arith, first, here, rest))
      | false ↦ λ e.
          (let here = ap one_if e in
          let rest = used_once k ls (AllPairs-tail AreTwoLinks l ls pairs) in
          omega (arith, first, here, rest))
    ] refl

has_key : (k l : Link) → key_of k ≡ key_of l → have_same_key k l ≡ true
has_key k l e =
    and_from (nat_eq k.from l.from) (nat_eq k.local l.local) (eq-eqb k.from l.from (ap (λ key. key.0) e)) (eq-eqb k.local l.local (ap (λ key. key.1) e))

others : (x : Link) (ls : List Link) → NoBack ls x → uses x ls ≡ 0 → AllByRecursion (AreOfTwoCircuits x) ls
others x [] none unused = tt
others x (l ∷ ls) none unused =
    let first = sum_by-cons (by_link x).of_link l ls in (
      record { keys = λ e. (let here = ap one_if (has_key x l e) in absurd (omega (arith, first, here, unused))); reverse = none.0 },
      others x ls none.1 (omega (arith, first, unused)),
    )

two_circuits : (ls : List Link) → NoBoth ls → ((k : Link) → uses k ls ≤ 1) → AllPairs AreOfTwoCircuits ls
two_circuits [] none once = λ i j d lt within. absurd (omega (arith, within))
two_circuits (l ∷ ls) none once =
    let first = λ (k : Link). sum_by-cons (by_link k).of_link l ls in
    let here = ap one_if (key_same l) in
    let most = once l in
    let own = first l in
    AllPairs-cons AreOfTwoCircuits l ls
    (All-from_recursion (AreOfTwoCircuits l) ls (others l ls none.0 (omega (arith, own, here, most))))
    (two_circuits ls none.1 (λ k. (let all = once k in let cons = first k in omega (arith, all, cons))))

-- Fewer links.

-- Two ways that are a pair by circuits, at no higher cost and with no more links than two others.
record HasPair (d : Database) (q : Request) (one other : List Link) : Type 0 where
  first : List Link
  second : List Link
  pair : IsPair d q Circuits first second
  cost : cost_of first + cost_of second ≤ cost_of one + cost_of other
  links : length first + length second ≤ length one + length other

abbrev metric_of : Link → ℕ
metric_of l = l.metric

module _ (d : Database) (q : Request) where
  -- The two ways have no common link, and each of them has no link twice.
  record AreApart (one other : List Link) : Type 0 where
    first : IsWay d q one
    second : IsWay d q other
    once : (k : Link) → uses k one + uses k other ≤ 1

  -- A pair that is smaller than two smaller ways is smaller than the ways.
  through : (a b one other : List Link) → HasPair d q a b → cost_of a + cost_of b ≤ cost_of one + cost_of other
      → length a + length b ≤ length one + length other → HasPair d q one other
  through a b one other has cost links =
      let less = has.cost in
      let fewer = has.links in
      record { first = has.first; second = has.second; pair = has.pair; cost = omega (arith, less, cost); links = omega (arith, fewer, links) }

  done : (one other : List Link) → AreApart one other → NoBoth one → NoAcross one other → NoBoth other → HasPair d q one other
  done one other apart first across second = record {
    first = one;
    second = other;
    pair = record {
      first_way = apart.first;
      second_way = apart.second;
      circuits =
          two_circuits (one ++ other) (no_both one other first across second)
          (λ k. (let both = sum_by-append (by_link k).of_link one other in let most = apart.once k in omega (arith, both, most)));
      routers = tt;
    };
    cost = omega arith;
    links = omega arith;
  }

  -- The two ways without a link of `one` and its reverse behind it, and without the links between them.
  shortened : (one other p : List Link) (l : Link) (mid : List Link) (m : Link) (s : List Link) → one ≡ p ++ l ∷ (mid ++ m ∷ s)
      → IsReverse l m → IsWay d q one → IsWay d q (p ++ s)
  shortened one other p l mid m s same back way =
      let cut : IsWay d q (p ++ l ∷ (mid ++ m ∷ s)) = subst (IsWay d q) same way in
      exchanged_way d q p l m s back (before d q p l (mid ++ m ∷ s) cut) (rest_of d q l.to mid m s (behind d q p l (mid ++ m ∷ s) cut))

  less : (f : Link → ℕ) (one p : List Link) (l : Link) (mid : List Link) (m : Link) (s : List Link) → one ≡ p ++ l ∷ (mid ++ m ∷ s)
      → sum_by f (p ++ s) + (f l + f m) ≤ sum_by f one
  less f one p l mid m s same = subst (λ ls. sum_by f (p ++ s) + (f l + f m) ≤ sum_by f ls) (sym same) (shortened_sum f p l mid m s)

  moved : (f : Link → ℕ) (one p1 : List Link) (l : Link) (s1 other p2 : List Link) (m : Link) (s2 : List Link) → one ≡ p1 ++ l ∷ s1 → other ≡ p2 ++ m ∷ s2
      → sum_by f (p1 ++ s2) + sum_by f (p2 ++ s1) + (f l + f m) ≡ sum_by f one + sum_by f other
  moved f one p1 l s1 other p2 m s2 first second =
      let a = exchanged_sum f p1 l s1 p2 m s2 in
      let b = ap (sum_by f) first in
      let c = ap (sum_by f) second in
      omega (arith, a, b, c)

  mutual_pair : (n : ℕ) (one other : List Link) → length one + length other < n → AreApart one other → HasPair d q one other
  mutual_pair zero one other few apart = absurd (omega (arith, few))
  mutual_pair (suc n) one other few apart =
      elim (find_both one) as (λ _. HasPair d q one other) [
        | inl b ↦
            (let a = b.first ++ b.rest in
            let sum = λ (f : Link → ℕ). less f one b.first b.l b.middle b.m b.rest b.same in
            let cost = sum metric_of in
            let links = sum (λ _. 1) in
            let long = ones a in
            let longer = ones one in
            through a other one other
            (mutual_pair n a other (omega (arith, few, links, long, longer)) (record {
              first = shortened one other b.first b.l b.middle b.m b.rest b.same b.back apart.first;
              second = apart.second;
              once = λ k. (let most = apart.once k in let uses = sum (by_link k).of_link in omega (arith, most, uses));
            })) (omega (arith, cost)) (omega (arith, links, long, longer)))
        | inr first ↦ elim (find_both other) as (λ _. HasPair d q one other) [
          | inl b ↦
              (let a = b.first ++ b.rest in
              let sum = λ (f : Link → ℕ). less f other b.first b.l b.middle b.m b.rest b.same in
              let cost = sum metric_of in
              let links = sum (λ _. 1) in
              let long = ones a in
              let longer = ones other in
              through one a one other
              (mutual_pair n one a (omega (arith, few, links, long, longer)) (record {
                first = apart.first;
                second = shortened other one b.first b.l b.middle b.m b.rest b.same b.back apart.second;
                once = λ k. (let most = apart.once k in let uses = sum (by_link k).of_link in omega (arith, most, uses));
              })) (omega (arith, cost)) (omega (arith, links, long, longer)))
          | inr second ↦ elim (find_across one other) as (λ _. HasPair d q one other) [
            | inr across ↦ done one other apart first across second
            | inl x ↦
                (let p1 = x.first in
                let s1 = x.rest in
                let p2 = x.has.first in
                let s2 = x.has.rest in
                let l = x.l in
                let m = x.has.m in
                let back = x.has.back in
                let way : IsWay d q (p1 ++ l ∷ s1) = subst (IsWay d q) x.same apart.first in
                let way2 : IsWay d q (p2 ++ m ∷ s2) = subst (IsWay d q) x.has.same apart.second in
                let sum = λ (f : Link → ℕ). moved f one p1 l s1 other p2 m s2 x.same x.has.same in
                let cost = sum metric_of in
                let links = sum (λ _. 1) in
                let a = ones (p1 ++ s2) in
                let b = ones (p2 ++ s1) in
                let c = ones one in
                let e = ones other in
                through (p1 ++ s2) (p2 ++ s1) one other
                (mutual_pair n (p1 ++ s2) (p2 ++ s1) (omega (arith, few, links, a, b, c, e)) (record {
                  first = exchanged_way d q p1 l m s2 back (before d q p1 l s1 way) (behind d q p2 m s2 way2);
                  second = other_way d q p2 l m s1 back (before d q p2 m s2 way2) (behind d q p1 l s1 way);
                  once = λ k. (let most = apart.once k in let uses = sum (by_link k).of_link in omega (arith, most, uses));
                })) (omega (arith, cost)) (omega (arith, links, a, b, c, e)))
          ]
        ]
      ]

not_greater : (c n c' n' : ℕ) → c ≤ c' → n ≤ n' → ordering_then (nat_cmp c c') (nat_cmp n n') ≡ Greater → ⊥
not_greater c n c' n' cost links e = grind (arith, nat_tests)

pub pairs_of_links_no_smaller : ArePairsOfLinksNoSmaller
pairs_of_links_no_smaller d q one other pair =
    let has =
    mutual_pair d q (suc (length one + length other)) one other (omega arith) (record {
      first = pair.first_way;
      second = pair.second_way;
      once = λ k. (let both = sum_by-append (by_link k).of_link one other in let most = used_once k (one ++ other) pair.links in omega (arith, both, most));
    }) in
    let a = sum_by-append metric_of has.first has.second in
    let b = sum_by-append metric_of one other in
    let c = length-append has.first has.second in
    let e = length-append one other in
    let cost = has.cost in
    let links = has.links in (
      has.first,
      has.second,
      has.pair,
      not_greater (cost_of (has.first ++ has.second)) (length (has.first ++ has.second)) (cost_of (one ++ other)) (length (one ++ other)) (omega (arith, a, b, cost))
          (omega (arith, c, e, links)),
    )

not_less : (c n c' n' c'' n'' : ℕ) → (ordering_then (nat_cmp c c') (nat_cmp n n') ≡ Greater → ⊥) → (ordering_then (nat_cmp c c'') (nat_cmp n n'') ≡ Less → ⊥)
    → ordering_then (nat_cmp c' c'') (nat_cmp n' n'') ≡ Less → ⊥
not_less c n c' n' c'' n'' most least e = grind (arith, nat_tests)

pub least_pair_of_links_no_smaller : IsLeastPairOfLinksNoSmaller
least_pair_of_links_no_smaller d q one other a b pair least =
    let has = pairs_of_links_no_smaller d q one other pair in
    not_less (cost_of (has.0 ++ has.1)) (length (has.0 ++ has.1)) (cost_of (one ++ other)) (length (one ++ other)) (cost_of (a ++ b)) (length (a ++ b)) has.3 (least.least has.0 has.1 has.2)
