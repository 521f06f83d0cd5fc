use Rattle.std.proofs.lemmas.List.Elements.{All-contains_itself}
use Rattle.cspf_columns.proofs.RouterPlaces.{kept_insert}
use Rattle.cspf_columns.proofs.RouterLists.{put-new, rising-put}
use Rattle.cspf_columns.proofs.routers.add.Goals as goal

pub returns-in-Err-clause-kept : goal.returns-in-Err-clause-kept
returns-in-Err-clause-kept c = rw c.insert_within.ensures.items (kept_insert _ c.in-Err.at c.args.router)

pub returns-in-Err-clause-rising : goal.returns-in-Err-clause-rising
returns-in-Err-clause-rising c =
    let at = rw c.deref.ensures.value at c.in-Err.ensures in
    rw c.insert_within.ensures.items (rising-put _ _ c.args.router c.requires.rising (put-new _ c.args.router c.in-Err.at at.upto at.gap))

pub returns-in_default-clause-kept : goal.returns-in_default-clause-kept
returns-in_default-clause-kept c = All-contains_itself _
