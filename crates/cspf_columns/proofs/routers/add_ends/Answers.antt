use Rattle.std.proofs.Common.{arith, subst, All, take}
use Rattle.std.proofs.lemmas.List.{take_all}
use Rattle.std.proofs.lemmas.List.Elements.{All-contains_itself, All-nil, All-more, All-weaker}
use Rattle.cspf_model.specs.Lemmas.CountedEnds.{HasListedEnds}
use Rattle.cspf_columns.proofs.RouterPlaces.{kept_twice, listed_still}
use Rattle.cspf_columns.proofs.routers.add_ends.Goals as goal

pub loop-change-init : goal.loop-change-init
loop-change-init c = record {
  kept = All-contains_itself _;
  listed = All-nil _;
  rising = c.requires.rising;
  longer = omega arith;
  capacity = omega arith;
}

pub loop-change-preserved : goal.loop-change-preserved
loop-change-preserved c = record {
  kept = kept_twice _ _ _ c.loop-change.invariant.kept c.add_ends_of.ensures.kept;
  listed =
      All-more (HasListedEnds c.add_ends_of.new.routers.items) c.args.changes.now c.loop-change.change-index c.change-item.result c.loop-change-test.true
      (All-weaker (HasListedEnds c.loop-change.routers.items) (HasListedEnds c.add_ends_of.new.routers.items) (listed_still _ _ c.add_ends_of.ensures.kept) (take c.loop-change.change-index c.args.changes.now) c.loop-change.invariant.listed)
      (subst (HasListedEnds c.add_ends_of.new.routers.items) c.change-item.is c.add_ends_of.ensures.there);
  rising = c.add_ends_of.ensures.rising;
  longer = omega arith;
  capacity = omega arith;
}

pub returns-clause-listed : goal.returns-clause-listed
returns-clause-listed c = subst (All (HasListedEnds c.loop-change.routers.items)) (take_all _ c.args.changes.now (omega arith)) c.loop-change.invariant.listed
