-- Private: what holds of the two searches.
use Rattle.std.specs.Prelude.{◌≡◌}
use Rattle.cspf_meet.specs.declared.meeting.Meeting.{Meeting}
use Rattle.cspf_walk.specs.declared.located_request.LocatedRequest.{LocatedRequest}
use Rattle.cspf_meet.specs.Labels.{rank_at}
use Rattle.cspf_meet.specs.Looks.{AreLookedAt, LeadsBack}
use Rattle.cspf_walk.specs.Ways.{Leads}

-- Both searches have looked at each router, or the router waits. The rank of each end in the
-- search that begins there is 0.
pub record IsMeeting (query : LocatedRequest) (meeting : Meeting) : Type 0 where
  pub ahead : AreLookedAt (Leads query.table.now query.request.now) meeting.ahead meeting.most
  pub back : AreLookedAt (LeadsBack query.table.now query.request.now) meeting.back meeting.most
  pub start : rank_at meeting.ahead.ranks.items query.from ≡ 0
  pub end : rank_at meeting.back.ranks.items query.to ≡ 0
