-- Private: what the potentials prove of the weight of pairs.
use Rattle.std.specs.Prelude.{ℕ, ◌+◌, ◌*◌, ◌≤◌, List}
use Rattle.cspf_model.specs.declared.link.Link.{Link}
use Rattle.cspf_model.specs.declared.request.Request.{Request}
use Rattle.cspf_model.specs.Database.{Database}
use Rattle.cspf_pair.specs.Potentials.{Potentials, BoundsExcess, by_size, weight_of}

-- The weight of both ways is at most what the potentials prove of the weight of each pair.
pub record IsWithinBound (d : Database) (q : Request) (y : Potentials) (one other : List Link) : Type 0 where
  pub excess : ℕ
  pub bounds : BoundsExcess d q y by_size excess
  pub within : weight_of by_size one + weight_of by_size other + 2 * y.leaving q.from + excess ≤ 2 * y.arriving q.to
