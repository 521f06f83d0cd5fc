-- Private: how changes are looked up by their keys.
use Rattle.std.specs.Prelude.{◌≡◌, List}
use Rattle.std.specs.BTreeMap.{BTreeMap, get}
use Rattle.cspf_model.specs.declared.batch.Change.{Change}
use Rattle.cspf_model.specs.Changes.{ChangeKey, change_key_cmp, last_on}

-- The map has the last change for each key.
pub record IsByKey (last : BTreeMap ChangeKey Change) (changes : List Change) : Type 0 where
  pub last_at : (k : ChangeKey) → get change_key_cmp last k ≡ last_on k changes
