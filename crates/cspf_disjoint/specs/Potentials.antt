-- Private: the potentials that two lists give to the routers of a database.
use Rattle.std.specs.Prelude.{ℕ, List, [], ◌∷◌, cond, nat_eq}
use Rattle.cspf_model.specs.Database.{Database}
use Rattle.cspf_db.specs.Index.{router_list}
use Rattle.cspf_pair.specs.Potentials.{Potentials}
use Rattle.cspf_disjoint.specs.declared.potentials.PotentialLists.{PotentialLists}

-- The number that has in `numbers` the index that the router has in `routers`, or 0.
abbrev pub number_for : List ℕ → List ℕ → ℕ → ℕ
number_for [] numbers router = 0
number_for (r ∷ routers) [] router = 0
number_for (r ∷ routers) (n ∷ numbers) router = cond (nat_eq r router) n (number_for routers numbers router)

-- The potentials that the lists give to the routers of the database.
abbrev pub potentials_of : Database → PotentialLists → Potentials
potentials_of d lists = record {
  arriving = number_for (router_list d) lists.arriving.now;
  leaving = number_for (router_list d) lists.leaving.now;
}
