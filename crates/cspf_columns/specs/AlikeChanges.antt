-- Private: changes that only replace a link by another link between the same two interfaces.
use Rattle.std.specs.Prelude.{◌≡◌, List, Contains, map}
use Rattle.cspf_model.specs.declared.link.Link.{Link}
use Rattle.cspf_model.specs.declared.batch.Change.{Change}
use Rattle.cspf_model.specs.declared.batch.Change.TheVariants.{Put, Remove, Node}
use Rattle.cspf_model.specs.Database.{Key, key_of}

-- The interface at which a link begins, and the interface at which it ends. An interface is a pair
-- of a router and an address.
abbrev pub interfaces_of : Link → Key × Key
interfaces_of l = (key_of l, (l.to, l.remote))

-- at each index, the row (a link) of `new` joins the same two interfaces in the same direction as
-- the row of `rows`
abbrev pub RunAlike : List Link → List Link → Type 0
RunAlike rows new = map interfaces_of new ≡ map interfaces_of rows

-- the change puts a link that joins the same two interfaces, in the same direction, as one of the
-- rows (links)
abbrev pub IsAlike : List Link → Change → Type 0
IsAlike rows (Put l) = Contains (map interfaces_of rows) (interfaces_of l)
IsAlike rows (Remove from local) = ⊥
IsAlike rows (Node router transit) = ⊥
