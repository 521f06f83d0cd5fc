-- Private: how changes act on the links of a database. Changes of a router's transit are ignored.
use Rattle.std.specs.Prelude.{List, [], ◌∷◌}
use Rattle.std.specs.FinMap.{insert, remove}
use Rattle.cspf_model.specs.declared.batch.Change.{Change}
use Rattle.cspf_model.specs.declared.batch.Change.TheVariants.{Put, Remove, Node}
use Rattle.cspf_model.specs.Database.{Database, key_of}

-- The database after one change, where a change of a router's transit is ignored.
abbrev pub relinked : Database → Change → Database
relinked d (Put l) = record { links = insert d.links (key_of l) l; marks = d.marks }
relinked d (Remove from local) = record { links = remove d.links (from, local); marks = d.marks }
relinked d (Node router transit) = d

-- The database after these changes in order, where changes of a router's transit are ignored.
abbrev pub all_relinked : Database → List Change → Database
all_relinked d [] = d
all_relinked d (c ∷ cs) = all_relinked (relinked d c) cs
