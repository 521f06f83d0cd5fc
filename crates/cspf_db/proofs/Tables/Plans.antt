-- The check of a batch against a table's rows (links) gives the plan of the batch. A plan says what
-- the changes of a batch do to the table.
use Rattle.std.proofs.Common.{◌≡◌, ℕ, true, List, All, refl, sym, subst, ◌∙◌}
use Rattle.std.specs.List.{count_by}
use Rattle.cspf_model.specs.declared.link.Link.{Link}
use Rattle.cspf_model.specs.declared.batch.Change.{Change}
use Rattle.cspf_model.specs.Numbered.{NumberedChanges}
use Rattle.cspf_model.specs.Changes.{Fits}
use Rattle.cspf_model.specs.Lemmas.CountedEnds.{HasListedEnds}
use Rattle.cspf_model.specs.Lemmas.RowsLeft.{adds_link}
use Rattle.cspf_model.specs.Lemmas.LinkRows.{database_of, marked_database, AreByKey}
use Rattle.cspf_db.specs.declared.table.plan.Plan.{Plan}
use Rattle.cspf_columns.specs.Index.{router_list}
use Rattle.cspf_db.specs.Plans.{IsPlanOf}
use Rattle.cspf_columns.specs.AlikeChanges.{IsAlike}
use Rattle.cspf_columns.proofs.RouterLists.{routers_marked}
use Rattle.cspf_columns.proofs.RowOrder.{links_of-database_of}

module _ (rows : List Link) (marks : List ℕ) where
  -- Whether a change adds a link doesn't depend on the marks of the database. A mark says that a
  -- router has no transit.
  adds_marked : (c : Change) → adds_link (database_of rows) c ≡ adds_link (marked_database rows marks) c
  adds_marked c = refl

  -- The number of links that the changes add doesn't depend on the marks of the database. A mark
  -- says that a router has no transit.
  added_marked : (cs : List Change) → count_by (adds_link (database_of rows)) cs ≡ count_by (adds_link (marked_database rows marks)) cs
  added_marked cs = λ i. count_by (λ c. adds_marked c i) cs

  module _ (by_key : AreByKey rows) (routers : List ℕ) (all : routers ≡ router_list (database_of rows)) (b : NumberedChanges) (plan : Plan) where
    pub plan_of_rows : Fits (marked_database rows marks) b
        → plan.tally.added ≡ count_by (adds_link (database_of rows)) b.changes
        → (plan.tally.brought ≡ 0 → All (HasListedEnds routers) b.changes)
        → (plan.tally.alike ≡ true → All (IsAlike rows) b.changes)
        → IsPlanOf (marked_database rows marks) b plan
    plan_of_rows fits added listed alike = record {
      fits = fits;
      added = added ∙ added_marked b.changes;
      listed = λ none. subst (λ rs. All (HasListedEnds rs) b.changes) (all ∙ routers_marked rows marks) (listed none);
      alike = λ on. subst (λ ls. All (IsAlike ls) b.changes) (sym (links_of-database_of rows by_key)) (alike on);
    }

    pub rows_added : IsPlanOf (marked_database rows marks) b plan → plan.tally.added ≡ count_by (adds_link (database_of rows)) b.changes
    rows_added is = is.added ∙ sym (added_marked b.changes)

    pub rows_listed : IsPlanOf (marked_database rows marks) b plan → plan.tally.brought ≡ 0 → All (HasListedEnds routers) b.changes
    rows_listed is none = subst (λ rs. All (HasListedEnds rs) b.changes) (sym (all ∙ routers_marked rows marks)) (is.listed none)

    pub rows_alike : IsPlanOf (marked_database rows marks) b plan → plan.tally.alike ≡ true → All (IsAlike rows) b.changes
    rows_alike is on = subst (λ ls. All (IsAlike ls) b.changes) (links_of-database_of rows by_key) (is.alike on)
