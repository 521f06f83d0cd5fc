-- The encoding of a database. A type whose view is a database needs this encoding in its `Model`.
use Rattle.std.specs.Prelude.{refl}
use Rattle.std.specs.Coded.{Coded, code_by, coded×, coded_ℕ}
use Rattle.std.specs.Ordering.{nat_cmp}
use Rattle.std.specs.FinMap as map
use Rattle.std.specs.FinSet as set
use Rattle.cspf_model.specs.declared.link.Link.{Link}
use Rattle.cspf_model.specs.contracts.link.Link.{the_row}
use Rattle.cspf_model.specs.Database.{Database, key_cmp}

-- A database is encoded as the pair of its links and its marks.
abbrev pub database_code : Coded Database
database_code =
    code_by (map.FinMap key_cmp Link × set.FinSet nat_cmp)
    (coded× (map.code (coded× coded_ℕ coded_ℕ) the_row.coded) (set.code coded_ℕ))
    (λ d. (d.links, d.marks)) (λ p. record { links = p.0; marks = p.1 }) (λ _. refl)
