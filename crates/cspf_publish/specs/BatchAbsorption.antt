-- Defines how a replica (a copy of the table of links) absorbs a batch. If the batch fits, its
-- changes are made. If not, nothing changes. Also defines the test whether a batch fits.
use Rattle.std.specs.Prelude.{Bool, true, ◌&&◌, not, cond, nat_le, is_some, List, [], ◌∷◌, length, map}
use Rattle.std.specs.Ordering.{eq_by_cmp}
use Rattle.std.specs.List.{list_all}
use Rattle.cspf_model.specs.declared.limits.TheConstants.{MOST_CHANGES, MOST_LINKS, MOST_ROUTERS, MOST_MARKS}
use Rattle.cspf_model.specs.declared.batch.Change.{Change}
use Rattle.cspf_model.specs.declared.batch.Change.TheVariants.{Put, Remove, Node}
use Rattle.cspf_model.specs.Numbered.{NumberedChanges}
use Rattle.cspf_model.specs.Database.{Database, link_at, link_count, router_count, mark_count}
use Rattle.cspf_model.specs.Changes.{ChangeKey, change_key_cmp, key_changed, after_changes}

-- whether no two of the keys are the same
abbrev pub are_distinct : List ChangeKey → Bool
are_distinct [] = true
are_distinct (k ∷ ks) = list_all (λ j. not (eq_by_cmp change_key_cmp k j)) ks && are_distinct ks

-- false if the change removes a link that the database doesn't have, and true otherwise
abbrev pub is_present : Database → Change → Bool
is_present d (Put l) = true
is_present d (Remove from local) = is_some (link_at d (from, local))
is_present d (Node router transit) = true

-- the test whether the batch fits
abbrev pub is_fitting : Database → NumberedChanges → Bool
is_fitting d b =
    nat_le (length b.changes) MOST_CHANGES
    && (are_distinct (map key_changed b.changes)
    && (list_all (is_present d) b.changes
    && (nat_le (link_count (after_changes d b.changes)) MOST_LINKS
    && (nat_le (router_count (after_changes d b.changes)) MOST_ROUTERS
    && nat_le (mark_count (after_changes d b.changes)) MOST_MARKS))))

-- the database with the batch's changes if the batch fits, and the unchanged database otherwise
abbrev pub database_with : Database → NumberedChanges → Database
database_with d b = cond (is_fitting d b) (after_changes d b.changes) d
