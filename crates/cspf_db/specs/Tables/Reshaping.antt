-- Private: which changes change the shape of a database. The shape is everything in the database
-- except unreserved bandwidths.
use Rattle.std.specs.Prelude.{Bool, false, not, ◌&&◌, cond, nat_eq, is_some}
use Rattle.std.specs.Option.{option_map_or}
use Rattle.std.specs.FinSet as set
use Rattle.cspf_model.specs.declared.batch.Change.{Change}
use Rattle.cspf_model.specs.declared.batch.Change.TheVariants.{Put, Remove, Node}
use Rattle.cspf_model.specs.Database.{Database, key_of, link_at}
use Rattle.cspf_db.specs.Shapes.{Shape, shape_of}

-- whether two shapes are equal
abbrev pub is_shape : Shape → Shape → Bool
is_shape s t =
    nat_eq s.from t.from && nat_eq s.local t.local && nat_eq s.to t.to && nat_eq s.remote t.remote
    && nat_eq s.metric t.metric && nat_eq s.group t.group

-- Whether a change changes more of a database than unreserved bandwidths. A change that puts a link
-- changes only bandwidths if the database already has a link that equals it except for bandwidths.
-- A removal changes nothing if the database has no link at its key. A change of a router's transit
-- changes nothing if the router already has this transit.
abbrev pub reshapes : Database → Change → Bool
reshapes d (Put l) = not (option_map_or (λ m. is_shape (shape_of m) (shape_of l)) (link_at d (key_of l)) false)
reshapes d (Remove from local) = is_some (link_at d (from, local))
reshapes d (Node router transit) =
    cond transit (set.contains d.marks router) (not (set.contains d.marks router))
