-- When the link from 1.1.1.1 to 2.2.2.2 is usable.
use Rattle.std.proofs.Common.{◌≡◌, Some, None, List, [], ◌∷◌, ◌++◌, refl, sym, ap, ◌∙◌, lit<}
use Rattle.std.proofs.lemmas.Bool.{eqb-false}
use Rattle.cspf_model.specs.declared.link.Link.{Link}
use Rattle.cspf_model.specs.Database.{Key, link_at, IsLinkOf, IsReverse}
use Rattle.cspf_model.specs.Changes.{link_key, last_on, link_after}
use Rattle.cspf_model.specs.Examples.{router, address, back, asked_fields, from_1_to_2}
use Rattle.cspf_model.specs.NetworkLaws.{network_batch, network, back_to_other_address, back_from_other_address, back_to_other_router, back_from_other_router, IsUnusableAmong, IsUsableAmong, MayBeAdmitted}
use Rattle.cspf_model.proofs.Routes.ExampleRoutes.{made, admitted}
use Rattle.cspf_model.proofs.Networks.NetworkLinks.{link_at-network}

-- The key of the reverse of the link from 1.1.1.1 to 2.2.2.2.
abbrev reverse_key : Key
reverse_key = (router 2, address 10 0 12 2)

-- If a link of the network is the reverse of the link from 1.1.1.1 to 2.2.2.2, its key is
-- `reverse_key`.
found : (links : List Link) (r : Link) → IsLinkOf (network links []) r → IsReverse from_1_to_2 r
    → link_after (last_on (link_key reverse_key) ((network_batch links []).changes ++ [])) None ≡ Some r
found links r is same =
    sym (link_at-network links [] reverse_key)
    ∙ ap (link_at (network links [])) (λ i. (sym same.from i, sym same.local i)) ∙ is

none_some : (l : Link) → None ≡ Some l → ⊥
none_some l e = cc

same_Some : (l m : Link) → Some l ≡ Some m → l ≡ m
same_Some l m e = cc

-- The next three lemmas: if the network has no link with the key `reverse_key`, the link from
-- 1.1.1.1 to 2.2.2.2 isn't usable for any request.
pub one_way : IsUnusableAmong (from_1_to_2 ∷ [])
one_way q usable =
    let r = usable.reverse in none_some r.0 (found (from_1_to_2 ∷ []) r.0 r.1 r.2)

pub other_local : IsUnusableAmong (from_1_to_2 ∷ back_from_other_address ∷ [])
other_local q usable =
    let r = usable.reverse in none_some r.0 (found (from_1_to_2 ∷ back_from_other_address ∷ []) r.0 r.1 r.2)

pub other_from : IsUnusableAmong (from_1_to_2 ∷ back_from_other_router ∷ [])
other_from q usable =
    let r = usable.reverse in none_some r.0 (found (from_1_to_2 ∷ back_from_other_router ∷ []) r.0 r.1 r.2)

-- The next two lemmas: the link with the key `reverse_key` isn't the reverse of the link from
-- 1.1.1.1 to 2.2.2.2, because it ends at another address or another router. So the link from
-- 1.1.1.1 to 2.2.2.2 isn't usable for any request.
pub other_remote : IsUnusableAmong (from_1_to_2 ∷ back_to_other_address ∷ [])
other_remote q usable =
    let r = usable.reverse in
    let same = same_Some back_to_other_address r.0 (found (from_1_to_2 ∷ back_to_other_address ∷ []) r.0 r.1 r.2) in
    eqb-false (address 10 0 12 9) (address 10 0 12 1) refl (ap (λ (l : Link). l.remote) same ∙ r.2.remote)

pub other_to : IsUnusableAmong (from_1_to_2 ∷ back_to_other_router ∷ [])
other_to q usable =
    let r = usable.reverse in
    let same = same_Some back_to_other_router r.0 (found (from_1_to_2 ∷ back_to_other_router ∷ []) r.0 r.1 r.2) in
    eqb-false (router 3) (router 1) refl (ap (λ (l : Link). l.to) same ∙ r.2.to)

-- In the network of the link from 1.1.1.1 to 2.2.2.2 and its reverse, this link is usable for each
-- request that admits it.
pub with_reverse : IsUsableAmong (from_1_to_2 ∷ back from_1_to_2 ∷ [])
with_reverse q is = record {
  admitted = is;
  reverse = (
    back from_1_to_2,
    link_at-network (from_1_to_2 ∷ back from_1_to_2 ∷ []) [] reverse_key,
    record { from = refl; local = refl; to = refl; remote = refl },
  );
}

-- Some request admits the link from 1.1.1.1 to 2.2.2.2.
pub may_be_admitted : MayBeAdmitted from_1_to_2
may_be_admitted =
    let two_ends = eqb-false (router 1) (router 3) refl in
    (made (asked_fields (router 3) []) (lit< tt) two_ends, admitted (router 3) [] (lit< tt) two_ends _ _ _ _ _ _)
