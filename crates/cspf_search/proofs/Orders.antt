-- Lemmas on the orders by which walks are compared. Some of these orders compare walks together
-- with their legs, or together with their states (routers in legs).
use Rattle.std.proofs.Common.{◌≡◌, ℕ, suc, ◌+◌, ◌<◌, ◌≤◌, false, List, [], ◌∷◌, ◌++◌, length, sym, ap, ◌∙◌, arith, rules}
use Rattle.std.specs.Ordering.{nat_cmp, ordering_then, is_gt}
use Rattle.std.specs.declared.cmp.Ordering.{Ordering}
use Rattle.std.specs.declared.cmp.Ordering.TheVariants.{Less, Equal}
use Rattle.std.specs.Cmp.{IsTotalOrder, nat_cmp_total}
use Rattle.std.specs.Cmp.Lexicographic.{slice_cmp}
use Rattle.std.proofs.lemmas.Cmp.{then_total, on_total, nat_list_cmp_total, tied_itself}
use Rattle.std.proofs.lemmas.Bool.Decides.{nat_tests}
use Rattle.std.proofs.lemmas.List.{map_push, length_push, length-map}
use Rattle.std.proofs.lemmas.List.Sums.{sum_by_push}
use Rattle.cspf_model.specs.declared.link.Link.{Link}
use Rattle.cspf_model.specs.Walks.{cost_of, locals_of, walk_cmp}
use Rattle.cspf_search.specs.States.{State}
use Rattle.cspf_search.specs.Settled.{IsNoLater, rank_cmp, potential_cmp, RanksNoLater, locals_cmp, state_cmp}

-- The orders of walks are total.

pub walks_total : IsTotalOrder walk_cmp
walks_total = then_total (on_total cost_of nat_cmp_total) (then_total (on_total (λ (w : List Link). length w) nat_cmp_total) (on_total locals_of nat_list_cmp_total))

ranks_total : IsTotalOrder rank_cmp
ranks_total =
    then_total (on_total (λ (a : ℕ × List Link). cost_of a.1) nat_cmp_total)
    (then_total (on_total (λ (a : ℕ × List Link). length a.1) nat_cmp_total) (on_total (λ (a : ℕ × List Link). a.0) nat_cmp_total))

pub potentials_total : (potential : State → ℕ) → IsTotalOrder (potential_cmp potential)
potentials_total potential =
    then_total (on_total (λ (a : State × List Link). potential a.0 + cost_of a.1) nat_cmp_total)
    (then_total (on_total (λ (a : State × List Link). length a.1) nat_cmp_total) (on_total (λ (a : State × List Link). a.0.leg) nat_cmp_total))

pub states_total : IsTotalOrder state_cmp
states_total = then_total ranks_total (on_total (λ (a : ℕ × List Link). locals_of a.1) nat_list_cmp_total)

-- Lemmas on comparing by one order first, and by a second order if the first one says equal.

then-equal : (o : Ordering) → ordering_then o Equal ≡ o
then-equal o = search rules

pub then_assoc : (o p q : Ordering) → ordering_then (ordering_then o p) q ≡ ordering_then o (ordering_then p q)
then_assoc o p q = search rules

-- If two comparisons `p` and `q` agree whenever the comparison `o` says equal, comparing by `o` and
-- then `p` agrees with comparing by `o` and then `q`.
then_same : (o p q : Ordering) → (o ≡ Equal → p ≡ q) → ordering_then o p ≡ ordering_then o q
then_same o p q h = search rules

front_no_later : (o p : Ordering) → is_gt (ordering_then o p) ≡ false → is_gt o ≡ false
front_no_later o p h = search rules

-- Lemmas on two walks in the same leg. They are compared by cost, then by the number of links, then
-- by the local addresses.

nat_cmp-potential : (p a b : ℕ) → nat_cmp (p + a) (p + b) ≡ nat_cmp a b
nat_cmp-potential p a b = grind (arith, nat_tests)

pub walk_from_less : (potential : State → ℕ) (t : State) (w x : List Link) → potential_cmp potential (t, w) (t, x) ≡ Less → IsNoLater w x
walk_from_less potential t w x h = search rules

pub rank_from_walk : (potential : State → ℕ) (t : State) (w x : List Link) → IsNoLater w x → RanksNoLater potential t w t x
rank_from_walk potential t w x h = search rules

pub walk_from_state : (k : ℕ) (w x : List Link) → is_gt (state_cmp (k, w) (k, x)) ≡ false → IsNoLater w x
walk_from_state k w x h = search rules

pub rank_from_state : (s t : State) (w x : List Link) → is_gt (state_cmp (s.leg, w) (t.leg, x)) ≡ false → RanksNoLater (λ _. 0) s w t x
rank_from_state s t w x h = rw (nat_cmp-potential 0 (cost_of w) (cost_of x)) (front_no_later (rank_cmp (s.leg, w) (t.leg, x)) (locals_cmp w x) h)

-- Lemmas on walks to which one link is appended.

pub cost_of-push : (v : List Link) (l : Link) → cost_of (v ++ (l ∷ [])) ≡ cost_of v + l.metric
cost_of-push v l = sum_by_push (λ (l : Link). l.metric) v l

nat_cmp-add : (a b n : ℕ) → nat_cmp (a + n) (b + n) ≡ nat_cmp a b
nat_cmp-add a b n = grind (arith, nat_tests)

tied_same : (a b : ℕ) → nat_cmp a b ≡ Equal → a ≡ b
tied_same a b h = grind (arith, nat_tests)

slice_cmp-last : (xs ys : List ℕ) (x y : ℕ) → length xs ≡ length ys
    → slice_cmp nat_cmp (xs ++ (x ∷ [])) (ys ++ (y ∷ [])) ≡ ordering_then (slice_cmp nat_cmp xs ys) (nat_cmp x y)
slice_cmp-last [] [] x y e = then-equal (nat_cmp x y)
slice_cmp-last (a ∷ xs) (b ∷ ys) x y e =
    ap (ordering_then (nat_cmp a b)) (slice_cmp-last xs ys x y (omega arith)) ∙ sym (then_assoc (nat_cmp a b) (slice_cmp nat_cmp xs ys) (nat_cmp x y))
slice_cmp-last xs ys x y e = absurd (omega arith)

-- If a link is appended to each of two walks of the same length, the local addresses of these two
-- links are compared last.
pub locals_cmp-last : (v w : List Link) (l m : Link) → length v ≡ length w
    → locals_cmp (v ++ (l ∷ [])) (w ++ (m ∷ [])) ≡ ordering_then (locals_cmp v w) (nat_cmp l.local m.local)
locals_cmp-last v w l m e =
    rw (map_push (λ (l : Link). l.local) v l, map_push (λ (l : Link). l.local) w m)
    (slice_cmp-last (locals_of v) (locals_of w) l.local m.local (length-map v (λ (l : Link). l.local) ∙ e ∙ sym (length-map w (λ (l : Link). l.local))))

-- If the same link is appended to two walks, the order between the walks doesn't change.
pub walk_cmp-push : (v w : List Link) (l : Link) → walk_cmp (v ++ (l ∷ [])) (w ++ (l ∷ [])) ≡ walk_cmp v w
walk_cmp-push v w l =
    rw (cost_of-push v l, cost_of-push w l, length_push v l, length_push w l, nat_cmp-add (cost_of v) (cost_of w) l.metric, nat_cmp-add (length v) (length w) 1)
    (ap (ordering_then (nat_cmp (cost_of v) (cost_of w)))
    (then_same (nat_cmp (length v) (length w)) (locals_cmp (v ++ (l ∷ [])) (w ++ (l ∷ []))) (locals_cmp v w)
    (λ tie. locals_cmp-last v w l l (tied_same _ _ tie) ∙ ap (ordering_then (locals_cmp v w)) (tied_itself nat_cmp_total l.local) ∙ then-equal (locals_cmp v w))))

grows : (a n b k : ℕ) (o : Ordering) → a ≤ b → n < k → ordering_then (nat_cmp a b) (ordering_then (nat_cmp n k) o) ≡ Less
grows a n b k o up more = grind (arith, nat_tests)

-- If the potential before a link is at most the potential after it plus the link's metric, a walk
-- precedes the same walk with this link appended, by cost plus potential.
pub potential_cmp-push : (potential : State → ℕ) (s t : State) (v : List Link) (l : Link) → potential s ≤ potential t + l.metric
    → potential_cmp potential (s, v) (t, v ++ (l ∷ [])) ≡ Less
potential_cmp-push potential s t v l up =
    rw (cost_of-push v l, length_push v l)
    (grows (potential s + cost_of v) (length v) (potential t + (cost_of v + l.metric)) (length v + 1) (nat_cmp s.leg t.leg) (omega (arith, up)) (omega arith))

turns : (a b n k : ℕ) → a ≤ b → ordering_then (nat_cmp a b) (ordering_then (nat_cmp n n) (nat_cmp k (suc k))) ≡ Less
turns a b n k up = grind (arith, nat_tests)

-- If a router's potential in a leg is at most its potential in the next leg, a walk precedes the
-- same walk after the step to the next leg, by cost plus potential.
pub potential_cmp-turn : (potential : State → ℕ) (k router : ℕ) (v : List Link)
    → potential (record { leg = k; router = router }) ≤ potential (record { leg = suc k; router = router })
    → potential_cmp potential (record { leg = k; router = router }, v) (record { leg = suc k; router = router }, v) ≡ Less
potential_cmp-turn potential k router v up =
    turns (potential (record { leg = k; router = router }) + cost_of v) (potential (record { leg = suc k; router = router }) + cost_of v) (length v) k (omega (arith, up))
