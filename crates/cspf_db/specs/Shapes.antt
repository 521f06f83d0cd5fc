-- Databases that differ at most in unreserved bandwidths.
use Rattle.std.specs.Prelude.{◌≡◌, ℕ}
use Rattle.std.specs.Option.{option_map}
use Rattle.cspf_model.specs.declared.link.Link.{Link}
use Rattle.cspf_model.specs.Database.{Database, Key, link_at}
use Rattle.cspf_columns.specs.Index.{router_list}

-- all attributes of a link except its unreserved bandwidths
pub record Shape : Type 0 where
  pub from : ℕ
  pub local : ℕ
  pub to : ℕ
  pub remote : ℕ
  pub metric : ℕ
  pub group : ℕ

-- all attributes of the link except its unreserved bandwidths
abbrev pub shape_of : Link → Shape
shape_of l = record {
  from = l.from;
  local = l.local;
  to = l.to;
  remote = l.remote;
  metric = l.metric;
  group = l.group;
}

-- The databases have the same marks, and links at the same keys. The two links at a key differ at
-- most in their unreserved bandwidths. A mark says that a router has no transit.
pub record HaveOneShape (d e : Database) : Type 0 where
  pub marks : e.marks ≡ d.marks
  pub links : (k : Key) → option_map shape_of (link_at e k) ≡ option_map shape_of (link_at d k)

-- If two databases differ at most in unreserved bandwidths, their lists of routers are equal.
abbrev pub ShapesTellRouters : Type 0
ShapesTellRouters = (d e : Database) → HaveOneShape d e → router_list e ≡ router_list d
