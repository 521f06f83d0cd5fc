use Rattle.std.proofs.Common.{refl}
use Rattle.cspf_model.specs.declared.batch.Change.TheVariants.{Put}
use Rattle.cspf_model.specs.Lemmas.LinkChanges.{relinked}
use Rattle.cspf_model.specs.Lemmas.LinkRows.{database_of}
use Rattle.cspf_columns.proofs.AlikeRows.{key_alike, found_alike, written_alike}
use Rattle.cspf_columns.proofs.RowOrder.{entries-hit, by_key-entries, database_of-entries}
use Rattle.cspf_columns.proofs.overwriting.write_one.Goals as goal

pub unreachable-requires : goal.unreachable-requires
unreachable-requires c = key_alike c.args.rows.now.items c.in-Put.link (rw c.in-Put.is at c.requires.alike) (rw c.deref.ensures.value at c.in-None.ensures.none)

pub returns-in-Some-clause-changed : goal.returns-in-Some-clause-changed
returns-in-Some-clause-changed c =
    let at = rw c.deref.ensures.value at c.in-Some.ensures in
    rw c.in-Put.is (database_of-entries (relinked (database_of _) (Put c.in-Put.link)) _ refl (entries-hit c.args.rows.now.items c.in-Some.at c.in-Put.link c.requires.by_key at.bound at.some))

pub returns-in-Some-clause-by_key : goal.returns-in-Some-clause-by_key
returns-in-Some-clause-by_key c =
    let at = rw c.deref.ensures.value at c.in-Some.ensures in
    by_key-entries _ _ (entries-hit c.args.rows.now.items c.in-Some.at c.in-Put.link c.requires.by_key at.bound at.some)

pub returns-in-Some-clause-alike : goal.returns-in-Some-clause-alike
returns-in-Some-clause-alike c =
    let at = rw c.deref.ensures.value at c.in-Some.ensures in
    written_alike c.args.rows.now.items c.in-Some.at at.bound c.in-Put.link (found_alike c.args.rows.now.items c.requires.by_key c.in-Put.link (rw c.in-Put.is at c.requires.alike) c.in-Some.at at.bound at.some)
