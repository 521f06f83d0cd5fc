-- Lemmas on the column that says, for each router, whether the router has transit.
use Rattle.std.proofs.Common.{◌≡◌, ℕ, ◌+◌, ◌<◌, ◌≤◌, ◌↔◌, Bool, true, false, not, IsTrue, List, Contains, length, get_or, slice_index, nat_eq, refl, sym, ◌∙◌, rules}
use Rattle.std.specs.Ordering.{nat_cmp}
use Rattle.std.specs.Cmp.{nat_cmp_total, Equal-is}
use Rattle.std.specs.FinSet as set
use Rattle.std.proofs.lemmas.Bool.{cases_lt, false≢true}
use Rattle.std.proofs.lemmas.List.{get_or_default, get_or_read}
use Rattle.std.proofs.lemmas.Map.Views.{Contains-from_any}
use Rattle.cspf_model.specs.declared.link.Link.{Link}
use Rattle.cspf_model.specs.Database.{Database, HasTransit}
use Rattle.cspf_columns.specs.Index.{router_list}
use Rattle.cspf_model.specs.Lemmas.LinkRows.{marks_in, marked_database}
use Rattle.cspf_columns.specs.Rows.{AreRising}
use Rattle.cspf_db.specs.Tables.Parts.{AreTransitsOf}
use Rattle.cspf_db.proofs.Tables.MarkChanges.{marked_at}
use Rattle.cspf_columns.proofs.RouterPlaces.{lower}

module _ (marks : List ℕ) (router at : ℕ) (rising : AreRising marks) (below : (k : ℕ) → k < at → slice_index marks k < router) where
  -- Suppose that the marks before the index `at` are below the router, and that the mark at `at`
  -- (if there is one) is above the router. Then the list of marks doesn't have the router. A mark
  -- is the Router ID of a router without transit.
  none_there : (at < length marks → router < slice_index marks at) → Contains marks router → ⊥
  none_there above h2 = search (rules, cases_lt, get_or_default, lower)

  -- Suppose that the marks before the index `at` are below the router, and that the mark at `at`
  -- (if there is one) is above the router. Then the set of marks doesn't have the router. A mark is
  -- the Router ID of a router without transit.
  pub unmarked_between : (at < length marks → router < slice_index marks at) → set.contains (marks_in marks) router ≡ false
  unmarked_between above =
      elim (set.contains (marks_in marks) router) as (λ b. set.contains (marks_in marks) router ≡ b → b ≡ false) [
        | true ↦ λ on. absurd (none_there above (Contains-from_any (λ x y e. set.nat_cmp-IsAntisymmetric x y ((Equal-is (nat_cmp x y)).0 e)) router marks (sym (set.contains-from_list nat_cmp_total marks router) ∙ on)))
        | false ↦ λ _. refl
      ] refl

  -- A mark is the Router ID of a router without transit. The first mark that is at least `router`
  -- equals `router` exactly if this router is marked.
  pub other_mark : (n : ℕ) → at < length marks → router ≤ slice_index marks at → n ≡ get_or marks at n → not (nat_eq n router) ≡ not (set.contains (marks_in marks) router)
  other_mark n h behind read = search (rules, get_or_default, get_or_read, marked_at, marks_in, unmarked_between)

-- If the first `end` marks are below a router of a list in increasing order, they are below each
-- later router of the list. A mark is the Router ID of a router without transit.
pub still_below : (marks routers : List ℕ) (first end index router : ℕ) → AreRising routers → index < length routers → router ≡ get_or routers index router
    → ((k j : ℕ) → k < first → index ≤ j → j < length routers → slice_index marks k < slice_index routers j) → ((k : ℕ) → first ≤ k → k < end → slice_index marks k < router)
    → (k j : ℕ) → k < end → index + 1 ≤ j → j < length routers → slice_index marks k < slice_index routers j
still_below marks routers first end index router rising within read low more k j h from bound = search (rules, cases_lt, get_or_read, lower)

-- At a router's index, the column says whether this router has transit.
pub transit_at : (d : Database) (rows : List Link) (marks routers : List ℕ) (transits : List Bool) (at : ℕ) (b : Bool) → marked_database rows marks ≡ d → routers ≡ router_list (marked_database rows marks)
    → AreTransitsOf routers marks transits → at < length (router_list d) → b ≡ get_or transits at b → IsTrue b ↔ HasTransit d (slice_index (router_list d) at)
transit_at d rows marks routers transits at b e listed are h read = search (rules, false≢true, get_or_read)
