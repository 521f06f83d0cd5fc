-- Private: which keys changes of the base touch. A route that the base admits is lost only if its
-- links have a touched key.
use Rattle.std.specs.Prelude.{◌≡◌, ◌||◌, ◌⊎◌, ℕ, Bool, true, false, not, Option, Some, None, List, nat_eq, slice_index_or}
use Rattle.cspf_model.specs.declared.link.Link.{Link}
use Rattle.cspf_model.specs.declared.request.Request.{Request}
use Rattle.cspf_model.specs.declared.batch.Change.{Change}
use Rattle.cspf_model.specs.Database.{Database, Key, link_at}
use Rattle.cspf_model.specs.Changes.{ChangeKey, link_key, mark_key, last_on, after_changes}
use Rattle.cspf_book.specs.declared.path.Passed.{Passed}
use Rattle.cspf_book.specs.declared.touched.Touched.{Touched}
use Rattle.std.specs.Int.Bits.{bit_and, bit_or}
use Rattle.cspf_book.specs.Placements.{key_passed}
use Rattle.cspf_book.specs.RouterBits.{slot_of, four_bits, IsAmong}

-- The bits in `common` are among the four bits of these two routers.
abbrev pub IsCommon : ℕ → ℕ → ℕ → Type 0
IsCommon common router far = bit_and common (bit_or (four_bits router) (four_bits far)) ≡ common

-- The key is touched: its slot is set, and the four bits of its router are among the bits. `far` is
-- the router at the far end of its link; for the key of a mark it is the router itself. The common
-- bits are bits of these two routers.
pub record IsTouched (t : Touched) (k : ChangeKey) (far : ℕ) : Type 0 where
  pub slot : slice_index_or t.slots.items (slot_of k) false ≡ true
  pub bits : IsAmong t.bits k.0
  pub common : IsCommon t.common k.0 far

-- Keys that are touched in `old` are touched in `new`.
pub record KeepsTouched (old new : Touched) : Type 0 where
  pub groups : new.groups ≡ old.groups
  pub at : (k : ChangeKey) (far : ℕ) → IsTouched old k far → IsTouched new k far

-- The link is missing after the changes, or it runs to another interface.
abbrev pub has_moved : Link → Option Link → Bool
has_moved l None = true
has_moved l (Some m) = not (nat_eq l.to m.to) || not (nat_eq l.remote m.remote)

-- The link is missing after the changes, or it is in other groups.
abbrev pub has_other_groups : Link → Option Link → Bool
has_other_groups l None = true
has_other_groups l (Some m) = not (nat_eq l.group m.group)

-- `e` is the database `d` after changes. If the link of `d` at this key has moved, its key and the
-- key of its reverse are touched. If it is in other groups, its key is touched where groups matter.
pub record IsLinkEntered (d e : Database) (t : Touched) (k : Key) : Type 0 where
  pub own : (l : Link) → link_at d k ≡ Some l → has_moved l (link_at e k) ≡ true → IsTouched t (link_key k) l.to
  pub reverse : (l : Link) → link_at d k ≡ Some l → has_moved l (link_at e k) ≡ true → IsTouched t (link_key (l.to, l.remote)) k.0
  pub groups : (l : Link) → link_at d k ≡ Some l → t.groups ≡ true → has_other_groups l (link_at e k) ≡ true → IsTouched t (link_key k) l.to

-- The key of a change is entered: for a link, the keys of `IsLinkEntered` are touched, and for the
-- mark of a router, the key of the mark.
abbrev pub IsEntered : Database → Database → Touched → ℕ → Option ℕ → Type 0
IsEntered d e t router None = IsTouched t (mark_key router) router
IsEntered d e t router (Some local) = IsLinkEntered d e t (router, local)

-- `e` is the database `d` after changes. The keys of these changes are entered.
pub record AreEntered (d e : Database) (changes : List Change) (t : Touched) : Type 0 where
  pub at : (k : ChangeKey) (c : Change) → last_on k changes ≡ Some c → IsEntered d e t k.0 k.1

-- The keys of all changes of the database `d` are entered.
abbrev pub AreTouched : Database → List Change → Touched → Type 0
AreTouched d changes t = AreEntered d (after_changes d changes) changes t

-- The request has no affinities.
pub record HasNoAffinities (q : Request) : Type 0 where
  pub exclude_any : q.exclude_any ≡ 0
  pub include_any : q.include_any ≡ 0
  pub include_all : q.include_all ≡ 0

-- The touched keys tell which routes of the request are lost: groups matter, or the request has no
-- affinities.
abbrev pub IsFor : Touched → Request → Type 0
IsFor t q = (t.groups ≡ true) ⊎ HasNoAffinities q

-- Neither the link's key nor the mark of its router is touched.
pub record IsUntouched (t : Touched) (l : Passed) : Type 0 where
  pub key : ¬ IsTouched t (link_key (key_passed l)) l.to
  pub mark : ¬ IsTouched t (mark_key l.from) l.from
