-- Lemmas on the walks that continue a node by the step to the next leg or by one of the first links
-- of a list. They say which walks are added by the next link of the list. A node is the record of a
-- walk.
use Rattle.std.proofs.Common.{◌≡◌, ◌⊎◌, inl, inr, ℕ, ◌+◌, ◌<◌, List, [], ◌∷◌, ◌++◌, length, take, slice_index_or, sym, ap, subst, ◌∙◌}
use Rattle.std.specs.List.{Contains}
use Rattle.std.proofs.lemmas.List.{take_more}
use Rattle.std.proofs.lemmas.List.Elements.{Contains-append_left, Contains-push, Contains-push_cases}
use Rattle.cspf_model.specs.declared.link.Link.{Link}
use Rattle.cspf_model.specs.declared.request.Request.{Request}
use Rattle.cspf_model.specs.Database.{Database}
use Rattle.cspf_search.specs.declared.arena.Node.{Node}
use Rattle.cspf_search.specs.States.{State}
use Rattle.cspf_search.specs.Rounds.{CrossesBy, CrossesFrom}

module _ (d : Database) (q : Request) (nodes : List Node) (links : List Link) (at : ℕ) (i : ℕ) (within : i < length links) (l : Link)
    (is : l ≡ slice_index_or links i l) where
  one_more : take (i + 1) links ≡ take i links ++ (l ∷ [])
  one_more = take_more links i l within ∙ ap (λ (x : Link). take i links ++ (x ∷ [])) (sym is)

  pub kept_link : (w : List Link) (t : State) → CrossesFrom d q nodes (take i links) at w t → CrossesFrom d q nodes (take (i + 1) links) at w t
  kept_link w t (inl turn) = inl turn
  kept_link w t (inr x) = inr (x.0, rw one_more (Contains-append_left (take i links) (l ∷ []) x.0 x.1), x.2)

  pub new_link : (w : List Link) (t : State) → CrossesBy d q nodes at l w t → CrossesFrom d q nodes (take (i + 1) links) at w t
  new_link w t x = inr (l, rw one_more (Contains-push (take i links) l), x)

  pub either_link : (w : List Link) (t : State) → CrossesFrom d q nodes (take (i + 1) links) at w t → CrossesFrom d q nodes (take i links) at w t ⊎ CrossesBy d q nodes at l w t
  either_link w t (inl turn) = inl (inl turn)
  either_link w t (inr x) =
      elim (Contains-push_cases (take i links) l x.0 (subst (λ ls. Contains ls x.0) one_more x.1)) [
        | inl old ↦ inl (inr (x.0, old, x.2))
        | inr same ↦ inr (subst (λ k. CrossesBy d q nodes at k w t) (sym same) x.2)
      ]
