-- What holds of the links of a way.
use Rattle.std.proofs.Common.{◌≡◌, ◌<◌, ℕ, List, [], ◌∷◌, ◌++◌, length, refl, arith}
use Rattle.cspf_model.specs.declared.link.Link.{Link}
use Rattle.cspf_model.specs.declared.request.Request.{Request}
use Rattle.cspf_model.specs.Database.{Database}
use Rattle.cspf_model.specs.RouteLinks.{AreLinked}
use Rattle.cspf_model.specs.Walks.{end_of}
use Rattle.cspf_pair.specs.Pairs.{IsWay}

pub end_of-append : (router : ℕ) (links : List Link) (l : Link) → end_of router (links ++ (l ∷ [])) ≡ l.to
end_of-append router [] l = refl
end_of-append router (m ∷ links) l = end_of-append m.to links l

-- A way has a link, since its ends are two routers.
pub has_link : (d : Database) (q : Request) (way : List Link) → IsWay d q way → 0 < length way
has_link d q [] is = absurd (q.two_ends is.end)
has_link d q (l ∷ ls) is = omega arith

pub are_linked : (d : Database) (q : Request) (way : List Link) → IsWay d q way → AreLinked way
are_linked d q [] is = tt
are_linked d q (l ∷ ls) is = (refl, is.walk.joined.1)
