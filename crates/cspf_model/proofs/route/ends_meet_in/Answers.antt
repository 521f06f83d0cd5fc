use Rattle.std.proofs.lemmas.List.Sorted.{IsNonDecreasingBy-from_sort}
use Rattle.cspf_model.proofs.Routes.SortedRouters.{twice-IsPermutation}
use Rattle.cspf_model.proofs.route.ends_meet_in.Goals as goal

pub repeats-requires : goal.repeats-requires
repeats-requires c = IsNonDecreasingBy-from_sort (λ x. x) _ c.sort_unstable.ensures.sorted

pub returns : goal.returns
returns c = rw c.list_ends.ensures at (twice-IsPermutation _ _ c.repeats.result c.sort_unstable.ensures.permutation c.repeats.ensures)
