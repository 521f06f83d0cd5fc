use Rattle.std.proofs.Common.{Contains}
use Rattle.std.proofs.lemmas.List.Elements.{All-contains, All-contains_itself}
use Rattle.cspf_columns.proofs.RouterPlaces.{kept_twice}
use Rattle.cspf_columns.proofs.routers.add_ends_of.Goals as goal

pub returns-in-Put-clause-kept : goal.returns-in-Put-clause-kept
returns-in-Put-clause-kept c = kept_twice _ _ _ c.add.ensures.kept c.add-in-Put.ensures.kept

pub returns-in-Put-clause-there : goal.returns-in-Put-clause-there
returns-in-Put-clause-there c = rw c.in-Put.is (All-contains (Contains c.add-in-Put.new.routers.items) _ _ c.add-in-Put.ensures.kept c.add.ensures.there, c.add-in-Put.ensures.there)

pub returns-in_default-clause-kept : goal.returns-in_default-clause-kept
returns-in_default-clause-kept c = All-contains_itself _
