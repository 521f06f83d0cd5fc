-- Private: the weights of a rule.
use Rattle.cspf_pair.specs.Potentials.{Weights, by_link, by_router, by_size, without_weight}
use Rattle.cspf_disjoint.specs.declared.weights.WeightRule.{WeightRule}
use Rattle.cspf_disjoint.specs.declared.weights.WeightRule.TheVariants.{BySize, Nothing, ByLink, ByRouter}

-- The weights that the rule gives to links and routers.
abbrev pub weights_of : WeightRule → Weights
weights_of BySize = by_size
weights_of Nothing = without_weight
weights_of (ByLink l) = by_link l
weights_of (ByRouter router) = by_router router
