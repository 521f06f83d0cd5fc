-- Private: routers that are gone, because no link begins or ends at them after the changes.
use Rattle.std.specs.Prelude.{◌≡◌, ℕ, Bool, ◌||◌, false, List, Contains, nat_eq}
use Rattle.std.specs.List.{list_any}
use Rattle.cspf_model.specs.declared.link.Link.{Link}
use Rattle.cspf_model.specs.declared.batch.Change.{Change}
use Rattle.cspf_model.specs.declared.batch.Change.TheVariants.{Put, Remove, Node}
use Rattle.cspf_model.specs.Lemmas.RowsLeft.{rows_untouched, links_put}

-- Whether the link begins or ends at the router.
abbrev pub is_at : ℕ → Link → Bool
is_at router l = nat_eq l.from router || nat_eq l.to router

-- Whether the change puts a link that begins or ends at the router.
abbrev pub puts_at : ℕ → Change → Bool
puts_at router (Put l) = is_at router l
puts_at router (Remove from local) = false
puts_at router (Node r transit) = false

-- After the changes no link begins or ends at the router.
pub record IsGone (rows : List Link) (changes : List Change) (router : ℕ) : Type 0 where
  pub left : list_any (is_at router) (rows_untouched rows changes) ≡ false
  pub put : list_any (is_at router) (links_put changes) ≡ false

-- The list `routers` has a router at which no link begins or ends after the changes.
abbrev pub HasGone : List Link → List ℕ → List Change → Type 0
HasGone rows routers changes = (router : ℕ) × Contains routers router × IsGone rows changes router
