-- The routers of small networks, and the best answers to requests with unknown ends.
use Rattle.std.proofs.Common.{◌≡◌, ◌↔◌, ℕ, List, [], ◌∷◌, refl, sym, subst, inl, inr}
use Rattle.std.proofs.lemmas.Bool.{eqb-false}
use Rattle.std.specs.List.{AllByRecursion}
use Rattle.cspf_model.specs.declared.link.Link.{Link}
use Rattle.cspf_model.specs.declared.request.Request.{Request}
use Rattle.cspf_model.specs.Database.{Database, EndsAt, IsRouterOf}
use Rattle.cspf_model.specs.Best.{Answer, unknown_from, unknown_to, IsBestAnswer}
use Rattle.cspf_model.specs.Examples.{router, from_1_to_2}
use Rattle.cspf_model.specs.NetworkLaws.{network, from_2_to_1, IsAnswerBetween}
use Rattle.cspf_model.proofs.Routes.WalkOrder.{one_answer}
use Rattle.cspf_model.proofs.Networks.NetworkLinks.{link_at-network, each_link}

-- If no link begins or ends at a router, the router isn't a router of the network.
no_router : (links : List Link) (marks : List ℕ) (r : ℕ) → AllByRecursion (λ l. ¬ EndsAt r l) links → ¬ IsRouterOf (network links marks) r
no_router links marks r none known = each_link (λ l. ¬ EndsAt r l) links marks none known.0 known.1 known.2

-- The network whose only link leads from 1.1.1.1 to 2.2.2.2 has both of these routers.
pub is_router_1 : IsRouterOf (network (from_1_to_2 ∷ []) []) (router 1)
is_router_1 = (from_1_to_2, link_at-network (from_1_to_2 ∷ []) [] (router 1, from_1_to_2.local), inl refl)

pub is_router_2 : IsRouterOf (network (from_1_to_2 ∷ []) []) (router 2)
is_router_2 = (from_1_to_2, link_at-network (from_1_to_2 ∷ []) [] (router 1, from_1_to_2.local), inr refl)

-- A marked Router ID at which no link begins or ends isn't a router of the network.
pub no_router_3 : ¬ IsRouterOf (network (from_1_to_2 ∷ []) (router 3 ∷ [])) (router 3)
no_router_3 =
    no_router (from_1_to_2 ∷ []) (router 3 ∷ []) (router 3)
    ((λ ends. elim ends [ inl e ↦ eqb-false (router 1) (router 3) refl e | inr e ↦ eqb-false (router 2) (router 3) refl e ]), tt)

-- The network of the link from 1.1.1.1 to 2.2.2.2 and its reverse.
abbrev d : Database
d = network (from_1_to_2 ∷ from_2_to_1 ∷ []) []

known_1 : IsRouterOf d (router 1)
known_1 = (from_1_to_2, link_at-network (from_1_to_2 ∷ from_2_to_1 ∷ []) [] (router 1, from_1_to_2.local), inl refl)

unknown_8 : ¬ IsRouterOf d (router 8)
unknown_8 =
    no_router (from_1_to_2 ∷ from_2_to_1 ∷ []) [] (router 8) (
      (λ ends. elim ends [ inl e ↦ eqb-false (router 1) (router 8) refl e | inr e ↦ eqb-false (router 2) (router 8) refl e ]),
      ((λ ends. elim ends [ inl e ↦ eqb-false (router 2) (router 8) refl e | inr e ↦ eqb-false (router 1) (router 8) refl e ]), tt),
    )

unknown_9 : ¬ IsRouterOf d (router 9)
unknown_9 =
    no_router (from_1_to_2 ∷ from_2_to_1 ∷ []) [] (router 9) (
      (λ ends. elim ends [ inl e ↦ eqb-false (router 1) (router 9) refl e | inr e ↦ eqb-false (router 2) (router 9) refl e ]),
      ((λ ends. elim ends [ inl e ↦ eqb-false (router 2) (router 9) refl e | inr e ↦ eqb-false (router 1) (router 9) refl e ]), tt),
    )

-- If `answer` is a best answer, `other` is a best answer exactly if it equals `answer`.
alone : (q : Request) (answer other : Answer) → IsBestAnswer d q answer → IsBestAnswer d q other ↔ (other ≡ answer)
alone q answer other is =
    ((λ also. one_answer d q other answer also is), λ same. subst (IsBestAnswer d q) (sym same) is)

-- If the head-end is unknown, the answer says so, whatever the tail-end is.
head_end_first : (to : ℕ) → IsAnswerBetween (router 8) to unknown_from
head_end_first to q from _ other =
    alone q unknown_from other (subst (λ r. ¬ IsRouterOf d r) (sym from) unknown_8)

pub both_unknown : IsAnswerBetween (router 8) (router 9) unknown_from
both_unknown = head_end_first (router 9)

pub head_end_unknown : IsAnswerBetween (router 8) (router 1) unknown_from
head_end_unknown = head_end_first (router 1)

-- If the head-end is known and the tail-end is unknown, the answer says that the tail-end is
-- unknown.
pub tail_end_unknown : IsAnswerBetween (router 1) (router 9) unknown_to
tail_end_unknown q from to other =
    alone q unknown_to other
    (subst (IsRouterOf d) (sym from) known_1, subst (λ r. ¬ IsRouterOf d r) (sym to) unknown_9)
