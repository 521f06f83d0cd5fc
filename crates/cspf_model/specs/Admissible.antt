-- Which links of a database a request may use, and which routers a walk may leave.
use Rattle.std.specs.Prelude.{◌≡◌, ◌≢◌, ◌≤◌, ◌⊎◌, ℕ, bit_and, bit_xor, slice_index}
use Rattle.cspf_model.specs.declared.link.Link.{Link}
use Rattle.cspf_model.specs.declared.request.Request.{Request}
use Rattle.cspf_model.specs.Database.{Database, IsLinkOf, HasReverse, HasTransit}

-- A link passes the affinities of a request if it passes all three tests of RFC 3209 4.7.4.
pub record HasAffinity (q : Request) (l : Link) : Type 0 where
  pub exclude_any : bit_and l.group q.exclude_any ≡ 0
  pub include_any : (q.include_any ≡ 0) ⊎ (bit_and l.group q.include_any ≢ 0)
  pub include_all :
      (q.include_all ≡ 0) ⊎ (bit_xor (bit_and l.group q.include_all) q.include_all ≡ 0)

-- The link passes the affinities of the request. At the request's setup priority, at least the
-- request's bandwidth is unreserved on the link.
pub record IsAdmitted (q : Request) (l : Link) : Type 0 where
  pub affinity : HasAffinity q l
  pub room : q.bandwidth ≤ slice_index l.free q.setup

-- The request admits the link, and the database has the link's reverse. A link without a reverse
-- isn't used (RFC 2328 16.1, step 2b).
pub record IsUsable (d : Database) (q : Request) (l : Link) : Type 0 where
  pub admitted : IsAdmitted q l
  pub reverse : HasReverse d l

-- The link is a link of the database and usable for the request.
pub record IsAdmissible (d : Database) (q : Request) (l : Link) : Type 0 where
  pub link : IsLinkOf d l
  pub usable : IsUsable d q l

-- A walk may leave the router that it has reached by `links` links: the router has transit, or the
-- walk has no links yet.
abbrev pub MayLeave : Database → ℕ → ℕ → Type 0
MayLeave d router links = HasTransit d router ⊎ (links ≡ 0)
