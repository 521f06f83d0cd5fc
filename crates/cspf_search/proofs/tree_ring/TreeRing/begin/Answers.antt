use Rattle.std.proofs.Common.{ℕ, false, Bool, List, slice_index_or, ap, ◌∙◌}
use Rattle.cspf_search.specs.Bounds.{bound_at}
use Rattle.cspf_search.proofs.LegBounds.{zeros_at}
use Rattle.cspf_search.proofs.Trees.{none_at}
use Rattle.cspf_search.proofs.tree_ring.TreeRing.begin.Goals as goal

pub returns-clause-none : goal.returns-clause-none
returns-clause-none c w =
    ap (λ (ds : List Bool). slice_index_or ds w false) (c.in_ok-from_elem-3.ensures.items_if_clones_equal (λ y same. same)) ∙ none_at 1024 w

pub returns-clause-count : goal.returns-clause-count
returns-clause-count c = ap (λ (ls : List ℕ). bound_at ls c.args.to) (c.in_ok-from_elem-2.ensures.items_if_clones_equal (λ y same. same)) ∙ zeros_at 1024 c.args.to
