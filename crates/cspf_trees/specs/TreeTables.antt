-- What a table with trees is in contracts.
use Rattle.std.specs.Prelude.{ℕ, refl}
use Rattle.std.specs.Coded.{Coded, code_by, coded×, coded_ℕ}
use Rattle.cspf_model.specs.Database.{Database}
use Rattle.cspf_model.specs.DatabaseCode.{database_code}

-- the database of the table, and how many trees the table may have at most
pub record TreeTableState : Type 0 where
  pub database : Database
  pub most_trees : ℕ

-- in contracts, a table with trees is the pair of its database and of the number of trees that it
-- may have at most
abbrev pub tree_table_code : Coded TreeTableState
tree_table_code =
    code_by (Database × ℕ) (coded× database_code coded_ℕ) (λ s. (s.database, s.most_trees))
    (λ p. record { database = p.0; most_trees = p.1 }) (λ _. refl)
