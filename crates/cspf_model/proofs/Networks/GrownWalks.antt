-- Walks that are continued by one link.
use Rattle.std.proofs.Common.{◌≡◌, ℕ, List, [], ◌∷◌, ◌++◌, map, refl, inl, inr, arith}
use Rattle.std.proofs.lemmas.Grind.{common_steps}
use Rattle.std.specs.List.{AllByRecursion}
use Rattle.cspf_model.specs.declared.link.Link.{Link}
use Rattle.cspf_model.specs.Database.{HasTransit}
use Rattle.cspf_model.specs.Admissible.{IsAdmissible}
use Rattle.cspf_model.specs.Walks.{AreJoined, end_of}
use Rattle.cspf_model.specs.NetworkLaws.{MayComeNext, WalksGrowByOneLink}

-- If `P` holds of each item of a list and of the item `x`, `P` holds of each item of the list with
-- `x` appended.
module _ {A : Type 0} (P : A → Type 0) where
  all_more : (xs : List A) (x : A) → AllByRecursion P xs → P x → AllByRecursion P (xs ++ x ∷ [])
  all_more xs x all holds = grind (arith, common_steps)

  last_one : (xs : List A) (x : A) → AllByRecursion P (xs ++ x ∷ []) → P x
  last_one [] x all = all.0
  last_one (y ∷ ys) x all = last_one ys x all.1

-- If links are joined, and the link `l` begins at the router where they end, the links with `l`
-- appended are joined.
joined_more : (router : ℕ) (links : List Link) (l : Link) → AreJoined router links → l.from ≡ end_of router links → AreJoined router (links ++ l ∷ [])
joined_more router [] l joined from = (from, tt)
joined_more router (m ∷ links) l joined from = (joined.0, joined_more m.to links l joined.1 from)

last_joined : (router : ℕ) (links : List Link) (l : Link) → AreJoined router (links ++ l ∷ []) → l.from ≡ end_of router links
last_joined router [] l joined = joined.0
last_joined router (m ∷ links) l joined = last_joined m.to links l joined.1

-- In this part, `P` is a property of routers. The lemmas apply it to the routers at which all links
-- but the first begin.
module _ (P : ℕ → Type 0) where
  starts_more : (links : List Link) (l : Link) → AllByRecursion P (map (λ m. m.from) links) → P l.from → AllByRecursion P (map (λ m. m.from) (links ++ l ∷ []))
  starts_more links l all holds = grind (arith, common_steps)

  last_start : (links : List Link) (l : Link) → AllByRecursion P (map (λ m. m.from) (links ++ l ∷ [])) → P l.from
  last_start [] l all = all.0
  last_start (m ∷ links) l all = last_start links l all.1

-- If a link is appended to a walk, the result is a walk exactly if `MayComeNext` holds of the walk
-- and the link.
pub walks_grow : WalksGrowByOneLink
walks_grow d q [] l is = (
  λ more. record { admissible = more.links.0; joined = more.joined.0; leaves = inr refl },
  λ next. record { links = (next.admissible, tt); joined = (next.joined, tt); transit = tt },
)
walks_grow d q (m ∷ walk) l is = (
  λ more. record {
    admissible = last_one (IsAdmissible d q) (m ∷ walk) l more.links;
    joined = last_joined q.from (m ∷ walk) l more.joined;
    leaves = inl (last_start (HasTransit d) walk l more.transit);
  },
  λ next. record {
    links = all_more (IsAdmissible d q) (m ∷ walk) l is.links next.admissible;
    joined = joined_more q.from (m ∷ walk) l is.joined next.joined;
    transit = starts_more (HasTransit d) walk l is.transit (transit_of next);
  },
)
  where
    transit_of : MayComeNext d q (m ∷ walk) l → HasTransit d l.from
    transit_of next = elim next.leaves [ inl transit ↦ transit | inr none ↦ absurd (omega (arith, none)) ]
