-- Which lists of batches are lawful: each batch has to fit the database that the preceding batches
-- make.
use Rattle.std.proofs.Common.{◌↔◌, List, [], ◌∷◌, ◌++◌, sym, subst, rules}
use Rattle.cspf_model.specs.Numbered.{NumberedChanges}
use Rattle.cspf_model.specs.Database.{Database}
use Rattle.cspf_model.specs.Changes.{changes_of, no_links, after_changes, AreLawfulAfter}
use Rattle.cspf_model.specs.Laws.{LawfulByOneMore, FirstBatchesAreLawful}
use Rattle.cspf_model.proofs.Databases.LastChanges.{after_changes-append}

-- A list of batches is lawful after the database `d` if each batch fits the database that the
-- preceding batches make from `d`. Two concatenated lists are lawful after `d` exactly if two facts
-- hold. The first list is lawful after `d`. The second list is lawful after the database that the
-- first list makes.
AreLawfulAfter-append : (d : Database) (bs cs : List NumberedChanges)
    → AreLawfulAfter d (bs ++ cs) ↔ (AreLawfulAfter d bs × AreLawfulAfter (after_changes d (changes_of bs)) cs)
AreLawfulAfter-append d [] cs = ((λ more. (tt, more)), λ both. both.1)
AreLawfulAfter-append d (b ∷ bs) cs =
    let rest = AreLawfulAfter-append (after_changes d b.changes) bs cs in
    let same = after_changes-append d b.changes (changes_of bs) in (
      (λ all. let both = rest.0 all.1 in ((all.0, both.0), subst (λ e. AreLawfulAfter e cs) (sym same) both.1)),
      λ both. (both.0.0, rest.1 (both.0.1, subst (λ e. AreLawfulAfter e cs) same both.1)),
    )

-- If a batch is appended to a list, the longer list is lawful exactly if the list is lawful and the
-- batch fits the database that the list makes.
pub one_more : LawfulByOneMore
one_more = search (rules, AreLawfulAfter-append)

-- Each prefix of a lawful list of batches is lawful.
pub first_batches : FirstBatchesAreLawful
first_batches bs more all = ((AreLawfulAfter-append no_links bs more).0 all).0
