-- The router at which a link of the table ends.
use Rattle.std.proofs.Common.{◌≡◌, ℕ, ◌<◌, List, map, length, slice_index, slice_index_or, sym, ap, subst, ◌∙◌, arith}
use Rattle.std.specs.List.{All}
use Rattle.std.proofs.lemmas.List.{get_or-map, length-map}
use Rattle.cspf_model.specs.declared.link.Link.{Link}
use Rattle.cspf_model.specs.Database.{Database}
use Rattle.cspf_db.specs.Index.{router_list}
use Rattle.cspf_graph.specs.Lists.{IsIndexOf}

-- `ends` has for each of the links the index of the router at its end.
module _ (routers ends : List ℕ) (links : List Link) (each : map (λ end. slice_index routers end) ends ≡ map (λ (l : Link). l.to) links) where
  pub as_many : length ends ≡ length links
  as_many = sym (length-map ends (λ end. slice_index routers end)) ∙ ap (λ (ns : List ℕ). length ns) each ∙ length-map links (λ (l : Link). l.to)

  end_is : (k : ℕ) (l : Link) → k < length links → l ≡ slice_index_or links k l → slice_index routers (slice_index ends k) ≡ l.to
  end_is k l lt is =
      let long : k < length ends = (let same = as_many in omega (arith, same, lt)) in
      let left = get_or-map (λ end. slice_index routers end) ends k 0 0 long in
      let right = get_or-map (λ (m : Link). m.to) links k l 0 lt in
      sym left ∙ ap (λ ns. slice_index_or ns k 0) each ∙ right ∙ ap (λ (m : Link). m.to) (sym is)

pub end_at : (d : Database) (ends : List ℕ) (links : List Link) → map (λ end. slice_index (router_list d) end) ends ≡ map (λ (l : Link). l.to) links
    → All (λ end. end < length (router_list d)) ends → (k : ℕ) (l : Link) (end : ℕ) → k < length links → l ≡ slice_index_or links k l → end ≡ slice_index ends k
    → IsIndexOf d l.to end
end_at d ends links each within k l end lt is at =
    let long : k < length ends = (let same = as_many (router_list d) ends links each in omega (arith, same, lt)) in
    subst (IsIndexOf d l.to) (sym at) (record { within = within k 0 long; is = end_is (router_list d) ends links each k l lt is })
