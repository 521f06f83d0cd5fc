use Rattle.cspf_meet.specs.Looks.{LeadsBack}
use Rattle.cspf_walk.specs.Ways.{Leads}
use Rattle.cspf_meet.proofs.Falling.{looked_begun}
use Rattle.cspf_meet.proofs.meeting.Meeting.begin.Goals as goal

pub returns : goal.returns
returns c =
    let d = c.args.query.table.now in
    let q = c.args.query.request.now in
    record {
      ahead = looked_begun (Leads d q) c.in_ok-begin.field-0 c.args.query.from 9007199254740992 c.in_ok-begin.ensures.waits c.in_ok-begin.ensures.others c.in_ok-begin.ensures.small;
      back = looked_begun (LeadsBack d q) c.in_ok-begin-2.field-0 c.args.query.to 9007199254740992 c.in_ok-begin-2.ensures.waits c.in_ok-begin-2.ensures.others c.in_ok-begin-2.ensures.small;
      start = c.in_ok-begin.ensures.start;
      end = c.in_ok-begin-2.ensures.start;
    }
