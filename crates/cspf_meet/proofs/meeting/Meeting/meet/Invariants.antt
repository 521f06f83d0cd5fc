use Rattle.cspf_meet.specs.Meetings.{IsMeeting}
use Rattle.cspf_meet.proofs.meeting.Meeting.meet.Given as goal

abbrev pub invariant-loop-turn : goal.invariant-loop-turn
invariant-loop-turn l = IsMeeting l.query l.self
