-- Private: classes of requests. A class is all requests with one tail-end and the same affinities.
use Rattle.std.specs.Prelude.{◌≡◌}
use Rattle.cspf_model.specs.declared.request.Request.{Request}
use Rattle.cspf_trees.specs.declared.class.Class.{Class}

-- the request has the tail-end and the affinities of the class
pub record HasClass (q : Request) (class : Class) : Type 0 where
  pub to : q.to ≡ class.to
  pub exclude_any : q.exclude_any ≡ class.exclude_any
  pub include_any : q.include_any ≡ class.include_any
  pub include_all : q.include_all ≡ class.include_all
