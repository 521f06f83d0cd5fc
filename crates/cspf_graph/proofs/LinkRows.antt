-- Lemmas on the links from a router, and on the columns of the table that belong to these links.
use Rattle.std.proofs.Common.{◌≡◌, ◌≢◌, inl, inr, ℕ, zero, suc, ◌<◌, ◌≤◌, Bool, true, false, not, nat_eq, Some, List, [], ◌∷◌, filter, length, map, slice_get, slice_index, slice_index_or, refl, sym, ap, subst, ◌∙◌, arith, rules}
use Rattle.std.specs.List.{All, Contains}
use Rattle.std.proofs.lemmas.Bool.{eqb-true, eq-eqb}
use Rattle.std.proofs.lemmas.List.{get_or-map, length-map}
use Rattle.std.proofs.lemmas.List.Elements.{All-nil, All-cons, All-weaker, All-filter, All-contains, All-contains_itself, Contains-append_right, filter_passes}
use Rattle.std.proofs.lemmas.List.Filters.{length-filter_both}
use Rattle.std.proofs.lemmas.Option.{slice_get-get_or, slice_get_within, get_or_from_slice_get, slice_get_read}
use Rattle.cspf_columns.specs.declared.limits.TheConstants.{NO_LINK}
use Rattle.cspf_model.specs.declared.link.Link.{Link}
use Rattle.cspf_model.specs.Database.{Database, AreLinksOf, HasReverse, IsLinkOf, IsReverse}
use Rattle.cspf_db.specs.Index.{links_of, links_from_index, router_list, IsReverseAt}
use Rattle.cspf_graph.specs.Lists.{AreListed, IsIndexOf}
use Rattle.cspf_graph.proofs.RouterIndexes.{same_or_not, one_place}

-- Lemmas on the elements that a filter keeps.

pub filter_short : (p : Link → Bool) (ls : List Link) → length (filter p ls) ≤ length ls
filter_short p ls = omega (arith, length-filter_both p (λ l. not (p l)) (λ l. refl) ls)

kept_head : (p : Link → Bool) (k : Link) (ls : List Link) → p k ≡ true → Contains (filter p (k ∷ ls)) k
kept_head p k ls e = rw e (0, omega arith, refl)

kept_tail : (p : Link → Bool) (k : Link) (ls : List Link) (l : Link) → Contains (filter p ls) l → Contains (filter p (k ∷ ls)) l
kept_tail p k ls l h =
    elim (p k) as (λ b. p k ≡ b → Contains (filter p (k ∷ ls)) l) [
      | true ↦ λ e. rw e (Contains-append_right (k ∷ []) (filter p ls) l h)
      | false ↦ λ e. rw e h
    ] refl

filtered : (p : Link → Bool) (ls : List Link) → All (λ l. p l ≡ true → Contains (filter p ls) l) ls
filtered p [] = All-nil (λ l. p l ≡ true → Contains (filter p []) l)
filtered p (k ∷ ls) =
    All-cons (λ l. p l ≡ true → Contains (filter p (k ∷ ls)) l) k ls (kept_head p k ls)
    (All-weaker (λ l. p l ≡ true → Contains (filter p ls) l) (λ l. p l ≡ true → Contains (filter p (k ∷ ls)) l) (λ l h e. kept_tail p k ls l (h e)) ls (filtered p ls))

module _ (d : Database) (place : ℕ) where
  pub kept_of : (l : Link) → Contains (links_from_index d place) l → Contains (links_of d) l
  kept_of l h =
      All-contains (Contains (links_of d)) (links_from_index d place) l
      (All-filter (λ k. nat_eq k.from (slice_index (router_list d) place)) (Contains (links_of d)) (links_of d) (All-contains_itself (links_of d))) h

  pub kept_from : (l : Link) → Contains (links_of d) l → l.from ≡ slice_index (router_list d) place → Contains (links_from_index d place) l
  kept_from l h from =
      All-contains (λ l. nat_eq l.from (slice_index (router_list d) place) ≡ true → Contains (links_from_index d place) l) (links_of d) l
      (filtered (λ k. nat_eq k.from (slice_index (router_list d) place)) (links_of d)) h (eq-eqb l.from (slice_index (router_list d) place) from)

  pub runs_from : (row : ℕ) (l : Link) → slice_get (links_from_index d place) row ≡ Some l → l.from ≡ slice_index (router_list d) place
  runs_from row l e =
      let within = slice_get_within (links_from_index d place) row l e in
      let passes = filter_passes (λ k. nat_eq k.from (slice_index (router_list d) place)) (links_of d) row l within in
      let is = get_or_from_slice_get (links_from_index d place) row l l e in
      eqb-true l.from (slice_index (router_list d) place) (rw is at passes)

-- If a link has the index `i` in the list `links`, the element of `ends` at `i` is the index of the
-- router where this link ends.
pub end_of_row : (d : Database) (ends : List ℕ) (links : List Link) → All (λ end. end < length (router_list d)) ends
    → map (λ end. slice_index (router_list d) end) ends ≡ map (λ (l : Link). l.to) links → (i : ℕ) (l : Link) (end : ℕ) → i < length links
    → l ≡ slice_index_or links i l → end ≡ slice_index ends i → IsIndexOf d l.to end
end_of_row d ends links within each i l end h is at =
    let long : i < length ends =
    omega (arith, h, ap (λ (ns : List ℕ). length ns) each, length-map ends (λ end. slice_index (router_list d) end), length-map links (λ (l : Link). l.to)) in
    let left = get_or-map (λ end. slice_index (router_list d) end) ends i 0 0 long in
    let right = get_or-map (λ (l : Link). l.to) links i l 0 h in
    record {
      within = rw (← at) at (within i 0 long);
      is = ap (λ e. slice_index (router_list d) e) at ∙ sym left ∙ ap (λ ns. slice_index_or ns i 0) each ∙ right ∙ ap (λ (l : Link). l.to) (sym is);
    }

-- The list `ends` has one element for each link from the router.
pub as_many : (d : Database) (place : ℕ) (ends : List ℕ) → map (λ end. slice_index (router_list d) end) ends ≡ map (λ (l : Link). l.to) (links_from_index d place)
    → length ends ≡ length (links_from_index d place)
as_many d place ends each =
    sym (length-map ends (λ end. slice_index (router_list d) end)) ∙ ap (λ (ns : List ℕ). length ns) each ∙ length-map (links_from_index d place) (λ (l : Link). l.to)

-- If a link has the index `nth` among the links from the router, the element of `reverses` at `nth`
-- is the index of the link's reverse.
pub reverse_of_row : (d : Database) (place : ℕ) (reverses : List ℕ)
    → ((nth : ℕ) (e : Link) → nth < length (links_from_index d place) → IsReverseAt d (slice_index_or (links_from_index d place) nth e) (slice_index_or reverses nth 0))
    → (nth : ℕ) (l : Link) → slice_get (links_from_index d place) nth ≡ Some l → IsReverseAt d l (slice_index reverses nth)
reverse_of_row d place reverses beside nth l here =
    let is = get_or_from_slice_get (links_from_index d place) nth l l here in
    let within = slice_get_within (links_from_index d place) nth l here in
    subst (λ k. IsReverseAt d k (slice_index reverses nth)) is (beside nth l within)

-- If the link `r` is the reverse of the link `l`, `l` is the reverse of `r`.
reversed : (l r : Link) → IsReverse l r → IsReverse r l
reversed l r is = record { from = sym is.to; local = sym is.remote; to = sym is.from; remote = sym is.local }

-- A link has at most one reverse in the database, because the links of a database differ in their
-- keys.
one_reverse : (d : Database) (r l m : Link) → IsReverse r l → IsReverse r m → IsLinkOf d l → IsLinkOf d m → m ≡ l
one_reverse d r l m first second h3 h4 = search rules

module _ (d : Database) (links : AreLinksOf d (links_of d)) where
  -- A link has a reverse if the index that the table has for this reverse isn't `NO_LINK`.
  pub has_reverse : (l : Link) (n : ℕ) → IsReverseAt d l n → n ≢ NO_LINK → HasReverse d l
  has_reverse l n is some = (slice_index_or (links_of d) n l, links.each n l (is.within some), is.found some)

  -- The reverse of a link's reverse is the link itself: this link is found at the index that the
  -- table has for that reverse.
  back_again : (l r : Link) → IsLinkOf d l → IsReverse l r → (n : ℕ) → IsReverseAt d r n → slice_get (links_of d) n ≡ Some l
  back_again l r of back n is =
      elim (same_or_not n NO_LINK) [
        | inl none ↦ absurd (is.none none (l, of, reversed l r back))
        | inr some ↦
            slice_get-get_or (links_of d) n r (is.within some)
            ∙ ap Some (one_reverse d r l (slice_index_or (links_of d) n r) (reversed l r back) (is.found some) of (links.each n r (is.within some)))
      ]

  module _ (listed : AreListed d) (to : ℕ) (ends reverses : List ℕ) (within : All (λ end. end < length (router_list d)) ends)
      (each : map (λ end. slice_index (router_list d) end) ends ≡ map (λ (l : Link). l.to) (links_from_index d to))
      (beside : (nth : ℕ) (e : Link) → nth < length (links_from_index d to) → IsReverseAt d (slice_index_or (links_from_index d to) nth e) (slice_index_or reverses nth 0)) where
    -- If a link to the router `to` has a reverse, this reverse is one of the links from `to`. At
    -- the index of the reverse among these links, `ends` has the index of the router where the link
    -- begins, and `reverses` has the index of the link.
    pub found_back : (l : Link) → IsLinkOf d l → HasReverse d l → (u : ℕ) → IsIndexOf d l.from u → IsIndexOf d l.to to
        → (nth : ℕ) × (nth < length (links_from_index d to)) × (slice_index ends nth ≡ u) × (slice_get (links_of d) (slice_index reverses nth) ≡ Some l)
    found_back l of has u from end =
        let at = kept_from d to has.0 (links.whole has.0 has.1) (has.2.from ∙ sym end.is) in
        let row_end = end_of_row d ends (links_from_index d to) within each at.0 has.0 (slice_index ends at.0) at.1 (sym at.2) refl in
        let arrives : IsIndexOf d l.from (slice_index ends at.0) = subst (λ k. IsIndexOf d k (slice_index ends at.0)) has.2.to row_end in (
          at.0,
          at.1,
          one_place d listed l.from (slice_index ends at.0) u arrives from,
          back_again l has.0 of has.2 (slice_index reverses at.0) (subst (λ k. IsReverseAt d k (slice_index reverses at.0)) at.2 (beside at.0 has.0 at.1)),
        )

-- A list of links has an element at each index below its length.
pub some_at : (xs : List Link) (i : ℕ) → i < length xs → (x : Link) × (slice_get xs i ≡ Some x)
some_at [] i h = absurd (omega arith)
some_at (x ∷ xs) zero h = (x, refl)
some_at (x ∷ xs) (suc i) h = some_at xs i (omega arith)

-- For the link at the index `row` among the links from a router, `ends` has at the same index the
-- index of the router where the link ends, and `reverses` has the index of the link's reverse.
pub beside_row : (d : Database) (place : ℕ) (links : List Link) → links ≡ links_from_index d place → (ends : List ℕ) → All (λ end. end < length (router_list d)) ends
    → map (λ end. slice_index (router_list d) end) ends ≡ map (λ (l : Link). l.to) (links_from_index d place) → (reverses : List ℕ)
    → ((nth : ℕ) (e : Link) → nth < length (links_from_index d place) → IsReverseAt d (slice_index_or (links_from_index d place) nth e) (slice_index_or reverses nth 0))
    → (row : ℕ) (l : Link) (end : ℕ) → row < length links → l ≡ slice_index_or links row l → end ≡ slice_index ends row
    → (slice_get (links_from_index d place) row ≡ Some l) × IsIndexOf d l.to end × IsReverseAt d l (slice_index reverses row)
beside_row d place links same ends within each reverses beside row l end lt is at =
    let here : slice_get (links_from_index d place) row ≡ Some l = rw same at (slice_get_read links (length links) row l refl lt is) in
    (here, end_of_row d ends links within (each ∙ ap (map (λ (l : Link). l.to)) (sym same)) row l end lt is at, reverse_of_row d place reverses beside row l here)

pub no_elements : {A : Type 0} (xs : List A) → length xs ≡ 0 → xs ≡ []
no_elements [] none = refl
no_elements (x ∷ xs) none = absurd (omega (arith, none))
