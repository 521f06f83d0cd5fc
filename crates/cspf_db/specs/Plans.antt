-- What a plan says about a batch that fits a database.
use Rattle.std.specs.Prelude.{◌≡◌, true, All, count_by}
use Rattle.cspf_model.specs.Numbered.{NumberedChanges}
use Rattle.cspf_model.specs.Database.{Database}
use Rattle.cspf_model.specs.Changes.{Fits}
use Rattle.cspf_model.specs.Lemmas.CountedEnds.{HasListedEnds}
use Rattle.cspf_model.specs.Lemmas.RowsLeft.{adds_link}
use Rattle.cspf_db.specs.declared.table.plan.Plan.{Plan}
use Rattle.cspf_columns.specs.Index.{links_of, router_list}
use Rattle.cspf_columns.specs.AlikeChanges.{IsAlike}

-- The batch `b` fits the database `d`, and `plan` says what the changes of `b` do to the links and
-- the routers of `d`.
pub record IsPlanOf (d : Database) (b : NumberedChanges) (plan : Plan) : Type 0 where
  pub fits : Fits d b
  pub added : plan.tally.added ≡ count_by (adds_link d) b.changes
  pub listed : plan.tally.brought ≡ 0 → All (HasListedEnds (router_list d)) b.changes
  pub alike : plan.tally.alike ≡ true → All (IsAlike (links_of d)) b.changes
