-- Private: which links of a database the changes leave as they are, and which links the changes
-- put, add or remove. The links of the database are called rows.
use Rattle.std.specs.Prelude.{Bool, true, false, not, is_some, List, filter}
use Rattle.std.specs.List.{filter_map}
use Rattle.cspf_model.specs.declared.link.Link.{Link}
use Rattle.cspf_model.specs.declared.batch.Change.{Change}
use Rattle.cspf_model.specs.declared.batch.Change.TheVariants.{Put, Remove, Node}
use Rattle.cspf_model.specs.Database.{Database, key_of, link_at}
use Rattle.cspf_model.specs.Changes.{link_key, link_left}
use Rattle.cspf_model.specs.Lemmas.RepeatedKeys.{is_changed}

-- Whether no change has the key of the link `row`.
abbrev pub is_untouched : List Change → Link → Bool
is_untouched changes row = not (is_changed changes (link_key (key_of row)))

-- The untouched links of `rows`: no change has the key of such a link.
abbrev pub rows_untouched : List Link → List Change → List Link
rows_untouched rows changes = filter (is_untouched changes) rows

-- Whether the change puts a link at a key at which the database has no link.
abbrev pub adds_link : Database → Change → Bool
adds_link d (Put l) = not (is_some (link_at d (key_of l)))
adds_link d (Remove from local) = false
adds_link d (Node router transit) = false

-- Whether the change removes a link.
abbrev pub removes_link : Change → Bool
removes_link (Put l) = false
removes_link (Remove from local) = true
removes_link (Node router transit) = false

-- Whether the change removes no link.
abbrev pub puts_link : Change → Bool
puts_link c = not (removes_link c)

-- The links that the changes put.
abbrev pub links_put : List Change → List Link
links_put changes = filter_map link_left changes
