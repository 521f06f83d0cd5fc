-- How to tell whether a database that admits a route still admits it after changes. A link of the
-- route is looked up only if the changes may touch its key or the mark of its router.
use Rattle.std.proofs.Common.{◌≡◌, ◌≢◌, ◌↔◌, ◌⊎◌, ℕ, ◌+◌, ◌<◌, ◌≤◌, inl, inr, Bool, true, false, not, IsTrue, Option, Some, None, List, [], ◌∷◌, length, drop, get_or, unwrap_or, nat_eq, refl, sym, ap, subst, ◌∙◌, eqb-true, arith}
use Rattle.std.specs.Int.Bits.{bit_and, bit_xor, and_zero_r}
use Rattle.std.specs.FinSet as set
use Rattle.std.specs.List.{AllByRecursion}
use Rattle.std.proofs.lemmas.Bool.{false≢true, false_from_ne_true, or_parts}
use Rattle.cspf_model.specs.declared.link.Link.{Link}
use Rattle.cspf_book.specs.declared.path.Passed.{Passed}
use Rattle.cspf_model.specs.declared.request.Request.{Request}
use Rattle.cspf_model.specs.declared.batch.Change.{Change}
use Rattle.cspf_model.specs.Database.{Database, Key, key_of, link_at, AreAtTheirKeys, IsLinkOf, HasReverse}
use Rattle.cspf_model.specs.Changes.{link_key, mark_key, last_on, link_after, mark_after, after_changes}
use Rattle.cspf_model.specs.Admissible.{IsAdmitted}
use Rattle.cspf_model.proofs.Databases.LastChanges.{link_at-after_changes}
use Rattle.cspf_book.specs.declared.placement.Placement.{Placement}
use Rattle.cspf_book.specs.declared.touched.Touched.{Touched}
use Rattle.cspf_book.specs.Placements.{passed_of, key_passed}
use Rattle.cspf_book.specs.LostRoutes.{without_bandwidth, AdmitsRoute}
use Rattle.cspf_book.specs.Following.{HasAdmittedLink, MayGoOn}
use Rattle.cspf_book.specs.RouterBits.{bits_of, IsAmong}
use Rattle.cspf_book.specs.Touched.{has_moved, has_other_groups, IsCommon, IsTouched, IsLinkEntered, AreTouched, IsFor, IsUntouched}
use Rattle.cspf_book.proofs.ChangedBases.{marked-after_changes, keyed_after}
use Rattle.cspf_book.proofs.RouterBits.{off_route}
use Rattle.cspf_book.proofs.RouteWalks.{admits_followed, goes_on, followed_on, followed_more, followed_all, IsFollowed}

pub not_false : (b : Bool) → not b ≡ false → b ≡ true
not_false true is = refl
not_false false is = sym is

same_number : (a b : ℕ) → not (nat_eq a b) ≡ false → b ≡ a
same_number a b is = sym (eqb-true a b (not_false (nat_eq a b) is))

-- If a link hasn't moved, it is still there, and runs to the same interface.
kept_ends : (l : Link) (o : Option Link) → ¬ (has_moved l o ≡ true) → (m : Link) × (o ≡ Some m) × (m.to ≡ l.to) × (m.remote ≡ l.remote)
kept_ends l None stays = absurd (stays refl)
kept_ends l (Some m) stays =
    let parts = or_parts (not (nat_eq l.to m.to)) (not (nat_eq l.remote m.remote)) (false_from_ne_true _ stays) in
    (m, refl, same_number l.to m.to parts.0, same_number l.remote m.remote parts.1)

-- No touched key has the bits of two routers whose bits are all among `bits`.
abbrev pub IsApart : Touched → ℕ → Type 0
IsApart t bits = (router far : ℕ) → IsAmong bits router → IsAmong bits far → IsAmong t.bits router → ¬ IsCommon t.common router far

module _ (d : Database) (cs : List Change) (t : Touched) (touched : AreTouched d cs t) where
  abbrev after : Database
  after = after_changes d cs

  -- If the key of a router's mark isn't touched, the mark is unchanged.
  kept_mark : (router : ℕ) → ¬ IsTouched t (mark_key router) router → set.contains after.marks router ≡ set.contains d.marks router
  kept_mark router off = marked-after_changes d cs router ∙ by_last (last_on (mark_key router) cs) refl
    where
      by_last : (o : Option Change) → last_on (mark_key router) cs ≡ o → mark_after o (set.contains d.marks router) ≡ set.contains d.marks router
      by_last None is = refl
      by_last (Some c) is = absurd (off (touched.at (mark_key router) c is))

  -- The changes leave the link at a key as it is, or its key is entered.
  kept_or_entered : (k : Key) → (link_at after k ≡ link_at d k) ⊎ IsLinkEntered d after t k
  kept_or_entered k = by_last (last_on (link_key k) cs) refl
    where
      by_last : (o : Option Change) → last_on (link_key k) cs ≡ o → (link_at after k ≡ link_at d k) ⊎ IsLinkEntered d after t k
      by_last None is = inl (link_at-after_changes d cs k ∙ ap (λ o. link_after o (link_at d k)) is)
      by_last (Some c) is = inr (touched.at (link_key k) c is)

  -- If the key of a link isn't touched, the reverse of this link still runs to the same interface.
  kept_back : (r : Link) → IsLinkOf d r → ¬ IsTouched t (link_key (r.to, r.remote)) r.from
      → (m : Link) × (link_at after (key_of r) ≡ Some m) × (m.to ≡ r.to) × (m.remote ≡ r.remote)
  kept_back r is off = elim (kept_or_entered (key_of r)) [
    | inl same ↦ (r, same ∙ is, refl, refl)
    | inr entered ↦ kept_ends r (link_at after (key_of r)) (λ moved. off (entered.reverse r is moved))
  ]

  -- If the key of a link isn't touched, the link still runs to the same interface. Where groups
  -- matter, it is also in the same groups.
  kept_own : (l : Link) → IsLinkOf d l → ¬ IsTouched t (link_key (key_of l)) l.to
      → (m : Link) × (link_at after (key_of l) ≡ Some m) × (m.to ≡ l.to) × (m.remote ≡ l.remote) × (t.groups ≡ true → m.group ≡ l.group)
  kept_own l is off = elim (kept_or_entered (key_of l)) [
    | inl same ↦ (l, same ∙ is, refl, refl, λ _. refl)
    | inr entered ↦
        let ends = kept_ends l (link_at after (key_of l)) (λ moved. off (entered.own l is moved)) in
        (ends.0, ends.1, ends.2, ends.3, λ on. same_number l.group ends.0.group (false_from_ne_true _ (λ other. off (entered.groups l is on (ap (has_other_groups l) ends.1 ∙ other)))))
  ]

  module _ (keyed : AreAtTheirKeys d) where
    still_reverse : (l m : Link) → key_of m ≡ key_of l → m.to ≡ l.to → m.remote ≡ l.remote → ¬ IsTouched t (link_key (key_of l)) l.to → HasReverse d l → HasReverse after m
    still_reverse l m key to remote off (r, is, reverse) =
        let its : ◌≡◌ {A = Key × ℕ} ((r.to, r.remote), r.from) (key_of l, l.to) = λ i. ((reverse.to i, reverse.remote i), reverse.from i) in
        let back = kept_back r is (λ on. off (subst (λ (x : Key × ℕ). IsTouched t (link_key x.0) x.1) its on)) in
        let own = keyed_after d cs keyed (key_of r) back.0 back.1 in (
          back.0,
          ap (link_at after) own ∙ back.1,
          record {
            from = ap (λ (k : Key). k.0) own ∙ reverse.from ∙ sym to;
            local = ap (λ (k : Key). k.1) own ∙ reverse.local ∙ sym remote;
            to = back.2 ∙ reverse.to ∙ sym (ap (λ (k : Key). k.0) key);
            remote = back.3 ∙ reverse.remote ∙ sym (ap (λ (k : Key). k.1) key);
          },
        )

    -- Let a walk be able to continue along an untouched link before the changes. If the request
    -- admits the link that is at its key after the changes, the walk may continue along that link.
    pub admitted_goes_on : (q : Request) (links router : ℕ) (l : Passed) → IsUntouched t l → MayGoOn d q links router l
        → ((found m : Link) → link_at after (key_passed l) ≡ Some m → (t.groups ≡ true → m.group ≡ found.group) → IsAdmitted q found → IsAdmitted q m)
        → MayGoOn after q links router l
    admitted_goes_on q links router l off old accepted =
        let found : Link = old.there.found in
        let key : key_of found ≡ key_passed l = ap key_passed old.there.alike in
        let there : ¬ IsTouched t (link_key (key_of found)) found.to = λ on. off.key (subst (λ (x : Passed). IsTouched t (link_key (key_passed x)) x.to) old.there.alike on) in
        let own = kept_own found old.there.admissible.link there in
        let its = keyed_after d cs keyed (key_of found) own.0 own.1 in record {
          from = old.from;
          leaves = elim old.leaves [
            | inl free ↦ inl (λ marked. free (sym (kept_mark router (λ on. off.mark (subst (λ r. IsTouched t (mark_key r) r) (sym old.from) on))) ∙ marked))
            | inr none ↦ inr none
          ];
          there = record {
            found = own.0;
            admissible = record {
              link = ap (link_at after) its ∙ own.1;
              usable = record {
                admitted = accepted found own.0 (sym (ap (link_at after) key) ∙ own.1) own.4 old.there.admissible.usable.admitted;
                reverse = still_reverse found own.0 its own.2 own.3 there old.there.admissible.usable.reverse;
              };
            };
            alike = both own.0 found its own.2 ∙ old.there.alike;
          };
        }
      where
        both : (a b : Link) → key_of a ≡ key_of b → a.to ≡ b.to → passed_of a ≡ passed_of b
        both a b k r = λ i. record { from = (k i).0; local = (k i).1; to = r i }

  module _ (q : Request) (keyed : AreAtTheirKeys d) (fits : IsFor t q) where
    abbrev bare : Request
    bare = without_bandwidth q

    still_admitted : (l m : Link) → (t.groups ≡ true → m.group ≡ l.group) → IsFor t q → IsAdmitted bare l → IsAdmitted bare m
    still_admitted l m same (inl on) old = record {
      affinity = record {
        exclude_any = ap (λ g. bit_and g q.exclude_any) (same on) ∙ old.affinity.exclude_any;
        include_any = subst (λ g. (q.include_any ≡ 0) ⊎ (bit_and g q.include_any ≢ 0)) (sym (same on)) old.affinity.include_any;
        include_all = subst (λ g. (q.include_all ≡ 0) ⊎ (bit_xor (bit_and g q.include_all) q.include_all ≡ 0)) (sym (same on)) old.affinity.include_all;
      };
      room = omega arith;
    }
    still_admitted l m same (inr plain) old = record {
      affinity = record {
        exclude_any = ap (bit_and m.group) plain.exclude_any ∙ and_zero_r m.group;
        include_any = inl plain.include_any;
        include_all = inl plain.include_all;
      };
      room = omega arith;
    }

    -- If a walk may continue along an untouched link before the changes, it may continue along it
    -- after them.
    pub untouched_goes_on : (links router : ℕ) (l : Passed) → IsUntouched t l → MayGoOn d bare links router l → MayGoOn after bare links router l
    untouched_goes_on links router l off old = admitted_goes_on keyed bare links router l off old (λ found m _ same admitted. still_admitted found m same fits admitted)

    untouched_followed : (bits : ℕ) → IsApart t bits → (links router : ℕ) (route : List Passed) → IsAmong bits router → AllByRecursion (λ l. IsAmong bits l.to) route
        → IsFollowed d bare links router route → IsFollowed after bare links router route
    untouched_followed bits apart links router [] near far old = tt
    untouched_followed bits apart links router (l ∷ ls) near far old = (
      untouched_goes_on links router l
          (record {
            key = λ on. apart router l.to near far.0 (subst (IsAmong t.bits) old.0.from on.bits) (subst (λ r. IsCommon t.common r l.to) old.0.from on.common);
            mark = λ on. apart router router near near (subst (IsAmong t.bits) old.0.from on.bits) (subst (λ r. IsCommon t.common r r) old.0.from on.common);
          })
          old.0,
      untouched_followed bits apart (links + 1) l.to ls far.0 far.1 old.1,
    )

  -- If no touched key can be the key of a link of the placement's route, or of the mark of a router
  -- on it, the placement keeps its route.
  pub untouched_admits : (p : Placement) → AreAtTheirKeys d → IsFor t p.request → IsApart t (bits_of p)
      → AdmitsRoute d p → AdmitsRoute after p
  untouched_admits p keyed fits apart admits =
      let parts = off_route (IsAmong (bits_of p)) p (λ _ is. is) in
      (admits_followed after p).0
      (untouched_followed p.request keyed fits (bits_of p) apart 0 p.request.from p.route parts.0 parts.1 ((admits_followed d p).1 admits))

-- Along which link a walk may continue, the request admits it.
pub admitted_if_goes_on : (d : Database) (q : Request) (links router : ℕ) (l : Passed) → MayGoOn d q links router l → HasAdmittedLink d q l
admitted_if_goes_on d q links router l goes = record {
  found = goes.there.found;
  link = sym (ap (λ (x : Passed). link_at d (key_passed x)) goes.there.alike) ∙ goes.there.admissible.link;
  admitted = goes.there.admissible.usable.admitted;
}

pub some_same : (l m : Link) → ◌≡◌ {A = Option Link} (Some l) (Some m) → l ≡ m
some_same l m e = ap (λ o. unwrap_or o l) e

-- Let the database `d` admit the route. In the database `e`, a walk can follow the whole route
-- exactly if a walk from `router` can follow the links from index `i` on.
pub record IsFollowedUpTo (d e : Database) (p : Placement) (i router : ℕ) : Type 0 where
  pub before : AdmitsRoute d p → IsFollowed d (without_bandwidth p.request) i router (drop i p.route)
  pub after : AdmitsRoute d p
      → IsFollowed e (without_bandwidth p.request) i router (drop i p.route)
      ↔ IsFollowed e (without_bandwidth p.request) 0 p.request.from p.route

pub up_to_start : (d e : Database) (p : Placement) → IsFollowedUpTo d e p 0 p.request.from
up_to_start d e p = record {
  before = λ admits. (admits_followed d p).1 admits;
  after = λ _. (λ all. all, λ all. all);
}

-- In this module, `l` is the link at index i of the route, and `IsFollowedUpTo` holds for the first
-- i links.
module _ (d e : Database) (p : Placement) (items : List Passed) (i router : ℕ) (l : Passed)
    (whole : items ≡ p.route) (within : i < length items) (is : l ≡ get_or items i l) (so_far : IsFollowedUpTo d e p i router) where
  abbrev its : Request
  its = without_bandwidth p.request

  -- Let the walk be able to continue along the link in `e`, at least if it can in `d`. Then
  -- `IsFollowedUpTo` holds for the first i + 1 links.
  pub up_to_more : (MayGoOn d its i router l → MayGoOn e its i router l) → IsFollowedUpTo d e p (i + 1) l.to
  up_to_more go = record {
    before = λ admits. followed_on d its p.route items i router l whole within is (so_far.before admits);
    after = λ admits.
        followed_more e its p.route items i router l whole within is (IsFollowed e its 0 p.request.from p.route)
        (go (goes_on d its p.route items i router l whole within is (so_far.before admits))) (so_far.after admits);
  }

  -- If the walk may continue along the link in `d` but not in `e`, `e` doesn't admit the route.
  pub up_to_broken : (MayGoOn d its i router l → ¬ MayGoOn e its i router l) → AdmitsRoute d p → IsTrue false ↔ AdmitsRoute e p
  up_to_broken stuck admits = (
    λ never. absurd (false≢true never),
    λ later. absurd (stuck (goes_on d its p.route items i router l whole within is (so_far.before admits)) (goes_on e its p.route items i router l whole within is ((so_far.after admits).1 ((admits_followed e p).1 later)))),
  )

-- If `d` admits the route, and `IsFollowedUpTo` holds for all links of the route, `e` also admits
-- the route.
pub up_to_end : (d e : Database) (p : Placement) (items : List Passed) (i router : ℕ) → items ≡ p.route
    → length items ≤ i → IsFollowedUpTo d e p i router → AdmitsRoute d p → IsTrue true ↔ AdmitsRoute e p
up_to_end d e p items i router whole behind so_far admits = (
  λ _. (admits_followed e p).0 ((so_far.after admits).0 (followed_all e (without_bandwidth p.request) p.route items i router whole behind)),
  λ _. refl,
)
