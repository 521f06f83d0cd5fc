-- How two walks compare if each of them consists of two walks, one after the other.
use Rattle.std.proofs.Common.{◌≡◌, ◌≢◌, inl, inr, ℕ, ◌+◌, ◌<◌, ◌⊎◌, List, [], ◌∷◌, ◌++◌, length, refl, sym, ap, ◌∙◌, arith, length-append}
use Rattle.std.specs.Ordering.{nat_cmp, ordering_then}
use Rattle.std.specs.declared.cmp.Ordering.{Ordering}
use Rattle.std.specs.declared.cmp.Ordering.TheVariants.{Less, Equal, Greater}
use Rattle.std.specs.Cmp.Lexicographic.{slice_cmp}
use Rattle.std.proofs.lemmas.Bool.Decides.{nat_tests}
use Rattle.std.proofs.lemmas.List.{length-map, map-append}
use Rattle.std.proofs.lemmas.List.Sums.{sum_by-append}
use Rattle.cspf_model.specs.declared.link.Link.{Link}
use Rattle.cspf_model.specs.Walks.{cost_of, locals_of, walk_cmp}

-- `ordering_then` is associative

assoc_then : (o p r : Ordering) → ordering_then (ordering_then o p) r ≡ ordering_then o (ordering_then p r)
assoc_then Less p r = refl
assoc_then Equal p r = refl
assoc_then Greater p r = refl

neither_less : (o p : Ordering) → o ≢ Less → p ≢ Less → ordering_then o p ≢ Less
neither_less Less p first second = absurd (first refl)
neither_less Equal p first second = second
neither_less Greater p first second = first

-- Of two comparisons in sequence, `p` decides only if `o` is `Equal`. If the result isn't `Less`,
-- either `o` is `Greater`, or `o` is `Equal` and `p` isn't `Less`.
greater_or_tied : (o p : Ordering) → ordering_then o p ≢ Less → (o ≡ Greater) ⊎ ((o ≡ Equal) × (p ≢ Less))
greater_or_tied Less p h = absurd (h refl)
greater_or_tied Equal p h = inr (refl, h)
greater_or_tied Greater p h = inl refl

above : (a b : ℕ) → nat_cmp a b ≡ Greater → b < a
above a b h = grind (arith, nat_tests)

level : (a b : ℕ) → nat_cmp a b ≡ Equal → a ≡ b
level a b h = grind (arith, nat_tests)

-- A walk with cost `a` and `m` links doesn't precede a walk with cost `b` and `n` links. If both
-- costs are equal, and both numbers of links are equal, the comparison `o` decides.
abbrev IsNoEarlier : ℕ → ℕ → ℕ → ℕ → Ordering → Type 0
IsNoEarlier a b m n o = (b < a) ⊎ ((a ≡ b) × ((n < m) ⊎ ((m ≡ n) × (o ≢ Less))))

opened : (a b m n : ℕ) (o : Ordering) → ordering_then (nat_cmp a b) (ordering_then (nat_cmp m n) o) ≢ Less → IsNoEarlier a b m n o
opened a b m n o h =
    elim (greater_or_tied (nat_cmp a b) (ordering_then (nat_cmp m n) o) h) [
      | inl dear ↦ inl (above a b dear)
      | inr tied ↦
          elim (greater_or_tied (nat_cmp m n) o tied.1) [
            | inl long ↦ inr (level a b tied.0, inl (above m n long))
            | inr last ↦ inr (level a b tied.0, inr (level m n last.0, last.1))
          ]
    ]

by_cost : (a b : ℕ) (o : Ordering) → b < a → ordering_then (nat_cmp a b) o ≢ Less
by_cost a b o h less = grind (arith, nat_tests)

by_links : (a b m n : ℕ) (o : Ordering) → a ≡ b → n < m → ordering_then (nat_cmp a b) (ordering_then (nat_cmp m n) o) ≢ Less
by_links a b m n o e h less = grind (arith, nat_tests)

unless_less : (o p : Ordering) → o ≡ Equal → p ≢ Less → ordering_then o p ≢ Less
unless_less Less p e h = absurd (cc)
unless_less Equal p e h = h
unless_less Greater p e h = absurd (cc)

ties : (a b : ℕ) → a ≡ b → nat_cmp a b ≡ Equal
ties a b e = grind (arith, nat_tests)

by_last : (a b m n : ℕ) (o : Ordering) → a ≡ b → m ≡ n → o ≢ Less → ordering_then (nat_cmp a b) (ordering_then (nat_cmp m n) o) ≢ Less
by_last a b m n o e f h = unless_less (nat_cmp a b) (ordering_then (nat_cmp m n) o) (ties a b e) (unless_less (nat_cmp m n) o (ties m n f) h)

-- Two pairs of walks are compared, each pair as one longer walk. If no walk of the first pair
-- precedes the walk in the same position of the second pair, the first longer walk doesn't precede
-- the second. The walks are given by their costs and numbers of links. The comparison `r` decides
-- if the longer walks have equal costs and equal numbers of links.
put_together : (a b c e m n s t : ℕ) (o p r : Ordering) → IsNoEarlier a b m n o → IsNoEarlier c e s t p → (m ≡ n → o ≢ Less → p ≢ Less → r ≢ Less)
    → ordering_then (nat_cmp (a + c) (b + e)) (ordering_then (nat_cmp (m + s) (n + t)) r) ≢ Less
put_together a b c e m n s t o p r (inl dear) (inl second) last = by_cost (a + c) (b + e) (ordering_then (nat_cmp (m + s) (n + t)) r) (omega arith)
put_together a b c e m n s t o p r (inl dear) (inr (cost, second)) last = by_cost (a + c) (b + e) (ordering_then (nat_cmp (m + s) (n + t)) r) (omega arith)
put_together a b c e m n s t o p r (inr (cost, first)) (inl dear) last = by_cost (a + c) (b + e) (ordering_then (nat_cmp (m + s) (n + t)) r) (omega arith)
put_together a b c e m n s t o p r (inr (cost, inl long)) (inr (more, inl second)) last = by_links (a + c) (b + e) (m + s) (n + t) r (omega arith) (omega arith)
put_together a b c e m n s t o p r (inr (cost, inl long)) (inr (more, inr second)) last = by_links (a + c) (b + e) (m + s) (n + t) r (omega arith) (let tied = second.0 in omega arith)
put_together a b c e m n s t o p r (inr (cost, inr first)) (inr (more, inl long)) last = by_links (a + c) (b + e) (m + s) (n + t) r (omega arith) (let tied = first.0 in omega arith)
put_together a b c e m n s t o p r (inr (cost, inr first)) (inr (more, inr second)) last =
    by_last (a + c) (b + e) (m + s) (n + t) r (omega arith) (let tied = first.0 in let too = second.0 in omega arith) (last first.0 first.1 second.1)

-- two lists are compared by their prefixes `xs` and `ys` and then by the rest, if these prefixes
-- have the same length
parts_compared : (xs ys us vs : List ℕ) → length xs ≡ length ys
    → slice_cmp nat_cmp (xs ++ us) (ys ++ vs) ≡ ordering_then (slice_cmp nat_cmp xs ys) (slice_cmp nat_cmp us vs)
parts_compared [] [] us vs e = refl
parts_compared [] (b ∷ ys) us vs e = absurd (omega arith)
parts_compared (a ∷ xs) [] us vs e = absurd (omega arith)
parts_compared (a ∷ xs) (b ∷ ys) us vs e =
    ap (ordering_then (nat_cmp a b)) (parts_compared xs ys us vs (omega arith)) ∙ sym (assoc_then (nat_cmp a b) (slice_cmp nat_cmp xs ys) (slice_cmp nat_cmp us vs))

locals_compared : (v w x y : List Link) → length v ≡ length w
    → slice_cmp nat_cmp (locals_of (v ++ x)) (locals_of (w ++ y)) ≡ ordering_then (slice_cmp nat_cmp (locals_of v) (locals_of w)) (slice_cmp nat_cmp (locals_of x) (locals_of y))
locals_compared v w x y e =
    rw (map-append (λ (l : Link). l.local) v x, map-append (λ (l : Link). l.local) w y)
    (parts_compared (locals_of v) (locals_of w) (locals_of x) (locals_of y) (length-map v (λ (l : Link). l.local) ∙ e ∙ sym (length-map w (λ (l : Link). l.local))))

-- the cost of two walks, one after the other, is the sum of the costs of both walks
pub cost_of-append : (v w : List Link) → cost_of (v ++ w) ≡ cost_of v + cost_of w
cost_of-append v w = sum_by-append (λ (l : Link). l.metric) v w

-- If `v` doesn't precede `w`, and `x` doesn't precede `y`, then `v` followed by `x` doesn't precede
-- `w` followed by `y`.
pub joined_no_earlier : (v w x y : List Link) → walk_cmp v w ≢ Less → walk_cmp x y ≢ Less → walk_cmp (v ++ x) (w ++ y) ≢ Less
joined_no_earlier v w x y first second =
    rw (cost_of-append v x, cost_of-append w y, length-append v x, length-append w y)
    (put_together (cost_of v) (cost_of w) (cost_of x) (cost_of y) (length v) (length w) (length x) (length y)
    (slice_cmp nat_cmp (locals_of v) (locals_of w)) (slice_cmp nat_cmp (locals_of x) (locals_of y)) (slice_cmp nat_cmp (locals_of (v ++ x)) (locals_of (w ++ y)))
    (opened _ _ _ _ _ first) (opened _ _ _ _ _ second)
    (λ same front back. rw (locals_compared v w x y same) (neither_less _ _ front back)))

-- no walk precedes the walk without links
pub none_earlier : (v : List Link) → walk_cmp v [] ≢ Less
none_earlier [] less = absurd (cc)
none_earlier (l ∷ v) less = by_length (cost_of (l ∷ v)) (length (l ∷ v)) (slice_cmp nat_cmp (locals_of (l ∷ v)) []) (omega arith) less
  where
    by_length : (a m : ℕ) (o : Ordering) → 0 < m → ordering_then (nat_cmp a 0) (ordering_then (nat_cmp m 0) o) ≢ Less
    by_length a m o h is = grind (arith, nat_tests)
