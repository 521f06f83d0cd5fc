-- For two databases there is only one list of the ids of placements that lose their routes
-- (`AreLost`). Below, a list is ordered if each of its placements precedes all later placements
-- (`ComesBefore`).
use Rattle.std.proofs.Common.{◌≡◌, ◌⊎◌, inl, inr, zero, suc, List, [], ◌∷◌, map, refl, sym, ap, subst, ◌∙◌, arith}
use Rattle.std.specs.List.{AllPairs, Contains}
use Rattle.cspf_book.specs.declared.placement.Placement.{Placement}
use Rattle.cspf_book.specs.Placements.{id_of}
use Rattle.cspf_book.specs.LostRoutes.{ComesBefore}
use Rattle.cspf_book.specs.Laws.{HaveOneLostList}

-- Two placements can't each precede the other.
one_way : (p r : Placement) → ComesBefore p r → ComesBefore r p → ⊥
one_way p r first back =
    elim first [
      | inl higher ↦ elim back [ inl lower ↦ omega arith | inr tied ↦ omega (arith, tied.0) ]
      | inr same ↦ elim back [ inl lower ↦ omega (arith, same.0) | inr tied ↦ omega (arith, same.1, tied.1) ]
    ]

-- An ordered list is also ordered without its first placement.
ordered_rest : (p : Placement) (ps : List Placement) → AllPairs ComesBefore (p ∷ ps) → AllPairs ComesBefore ps
ordered_rest p ps ordered i j d first within =
    ordered (suc i) (suc j) d (omega arith) (omega arith)

-- The first placement of an ordered list precedes each other placement of the list.
first_before : (p r : Placement) (ps : List Placement) → AllPairs ComesBefore (p ∷ ps) → Contains ps r → ComesBefore p r
first_before p r ps ordered (k, within, is) =
    subst (ComesBefore p) is (ordered 0 (suc k) r (omega arith) (omega arith))

-- An element of a list is the first element, or an element of the rest.
first_or_rest : (p r : Placement) (ps : List Placement) → Contains (p ∷ ps) r → (p ≡ r) ⊎ Contains ps r
first_or_rest p r ps (zero, within, is) = inl is
first_or_rest p r ps (suc k, within, is) = inr (k, omega arith, is)

in_rest : (p r : Placement) (ps : List Placement) → Contains ps r → Contains (p ∷ ps) r
in_rest p r ps (k, within, is) = (suc k, omega arith, is)

-- Let two lists have the same first placement, and let the first list be ordered (`AllPairs
-- ComesBefore`). If the second list contains each placement of the first list, this is also true of
-- the two lists without their first placements.
same_rest : (p q : Placement) (ps qs : List Placement) → p ≡ q → AllPairs ComesBefore (p ∷ ps)
    → ((r : Placement) → Contains (p ∷ ps) r → Contains (q ∷ qs) r) → (r : Placement) → Contains ps r → Contains qs r
same_rest p q ps qs same ordered there r has =
    elim (first_or_rest q r qs (there r (in_rest p r ps has))) [
      | inl is ↦
          let before : ComesBefore p r = first_before p r ps ordered has in
          let one : r ≡ p = sym (same ∙ is) in
          let itself : ComesBefore p p = subst (ComesBefore p) one before in
          absurd (one_way p p itself itself)
      | inr later ↦ later
    ]

-- Two ordered lists (`AllPairs ComesBefore`) that contain the same placements are equal.
one_list : (ps qs : List Placement) → AllPairs ComesBefore ps → AllPairs ComesBefore qs
    → ((r : Placement) → Contains ps r → Contains qs r) → ((r : Placement) → Contains qs r → Contains ps r) → ps ≡ qs
one_list [] [] first second there back = refl
one_list [] (q ∷ qs) first second there back =
    let none = back q (0, omega arith, refl) in absurd (omega (arith, none.1))
one_list (p ∷ ps) [] first second there back =
    let none = there p (0, omega arith, refl) in absurd (omega (arith, none.1))
one_list (p ∷ ps) (q ∷ qs) first second there back =
    let same : p ≡ q = heads (first_or_rest q p qs (there p (0, omega arith, refl))) (first_or_rest p q ps (back q (0, omega arith, refl))) in
    let rest = one_list ps qs (ordered_rest p ps first) (ordered_rest q qs second) (same_rest p q ps qs same first there) (same_rest q p qs ps (sym same) second back) in
    λ i. same i ∷ rest i
  where
    heads : (q ≡ p) ⊎ Contains qs p → (p ≡ q) ⊎ Contains ps q → p ≡ q
    heads (inl is) other = sym is
    heads (inr later) (inl is) = is
    heads (inr later) (inr also) = absurd (one_way p q (first_before p q ps first also) (first_before q p qs second later))

pub one_lost_list : HaveOneLostList
one_lost_list before after placements a b is also =
    is.are
    ∙ ap (map id_of) (one_list is.lost also.lost is.order also.order (λ p has. (also.members p).1 ((is.members p).0 has)) (λ p has. (is.members p).1 ((also.members p).0 has)))
    ∙ sym also.are
