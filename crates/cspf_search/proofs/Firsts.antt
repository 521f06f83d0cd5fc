-- The first of all walks that meet one of two conditions is the earlier of two walks: the first
-- walk that meets the one condition, and the first walk that meets the other.
use Rattle.std.proofs.Common.{◌≡◌, ◌⊎◌, inl, inr, ℕ, true, false, cond, Option, Some, None, List, refl, rules, arith}
use Rattle.std.proofs.lemmas.Grind.{common_steps}
use Rattle.std.specs.Ordering.{is_gt}
use Rattle.std.proofs.lemmas.Cmp.{upto}
use Rattle.cspf_model.specs.declared.link.Link.{Link}
use Rattle.cspf_search.specs.declared.arena.Node.{Node}
use Rattle.cspf_search.specs.States.{State}
use Rattle.cspf_search.specs.Settled.{state_cmp}
use Rattle.cspf_search.specs.Arena.{walk_of}
use Rattle.cspf_search.specs.Rounds.{IsFirstOf, IsFirst, earlier_of}
use Rattle.cspf_search.proofs.Orders.{states_total}

turned : (a b : ℕ × List Link) → is_gt (state_cmp a b) ≡ true → is_gt (state_cmp b a) ≡ false
turned a b h = grind (arith, common_steps, states_total)

module _ (nodes : List Node) (P Q R : List Link → State → Type 0) (from_left : (w : List Link) (t : State) → P w t → R w t)
    (from_right : (w : List Link) (t : State) → Q w t → R w t) (cases : (w : List Link) (t : State) → R w t → P w t ⊎ Q w t) where
  pub left_first : (a : Node) → IsFirstOf nodes P a → ((w : List Link) (t : State) → Q w t → is_gt (state_cmp (a.leg, walk_of nodes a) (t.leg, w)) ≡ false) → IsFirstOf nodes R a
  left_first a is rest = search rules

  right_first : (b : Node) → IsFirstOf nodes Q b → ((w : List Link) (t : State) → P w t → is_gt (state_cmp (b.leg, walk_of nodes b) (t.leg, w)) ≡ false) → IsFirstOf nodes R b
  right_first b is rest = search rules

  pub first_both : (a b : Option Node) → IsFirst nodes P a → IsFirst nodes Q b → IsFirst nodes R (earlier_of nodes a b)
  first_both None None p q = λ w t r. elim (cases w t r) [ inl h ↦ p w t h | inr h ↦ q w t h ]
  first_both None (Some b) p q = right_first b q (λ w t h. absurd (p w t h))
  first_both (Some a) None p q = left_first a p (λ w t h. absurd (q w t h))
  first_both (Some a) (Some b) p q =
      let x : ℕ × List Link = (a.leg, walk_of nodes a) in
      let y : ℕ × List Link = (b.leg, walk_of nodes b) in
      elim (is_gt (state_cmp x y)) as (λ g. is_gt (state_cmp x y) ≡ g → IsFirst nodes R (cond g (Some b) (Some a))) [
        | true ↦ λ e. right_first b q (λ w t h. upto states_total y x (t.leg, w) (turned x y e) (p.first w t h))
        | false ↦ λ e. left_first a p (λ w t h. upto states_total x y (t.leg, w) e (q.first w t h))
      ] refl

-- If the same walks meet the conditions `P` and `R`, the first node (the record of a walk) whose
-- walk meets `P` is also the first node whose walk meets `R`.
pub first_same : (nodes : List Node) (P R : List Link → State → Type 0) → ((w : List Link) (t : State) → P w t → R w t) → ((w : List Link) (t : State) → R w t → P w t)
    → (a : Option Node) → IsFirst nodes P a → IsFirst nodes R a
first_same nodes P R up down a p = search rules
