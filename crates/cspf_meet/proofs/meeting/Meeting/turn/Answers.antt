use Rattle.std.proofs.Common.{arith}
use Rattle.cspf_meet.specs.Looks.{LeadsBack}
use Rattle.cspf_walk.specs.Ways.{Leads}
use Rattle.cspf_meet.proofs.Falling.{looked_less}
use Rattle.cspf_meet.proofs.meeting.Meeting.turn.Goals as goal

pub returns-in_ok-self : goal.returns-in_ok-self
returns-in_ok-self c =
    let said = c.in_ok-self.ensures in
    record {
      ahead = said.looked;
      back = looked_less (LeadsBack c.args.query.table.now c.args.query.request.now) c.args.self.now.back c.args.self.now.most _ said.least c.requires.meeting.back;
      start = omega (arith, said.lower c.args.query.from, c.requires.meeting.start);
      end = c.requires.meeting.end;
    }

pub returns-in_ok-self-2 : goal.returns-in_ok-self-2
returns-in_ok-self-2 c =
    let said = c.in_ok-self-2.ensures in
    record {
      ahead = looked_less (Leads c.args.query.table.now c.args.query.request.now) c.args.self.now.ahead c.args.self.now.most _ said.least c.requires.meeting.ahead;
      back = said.looked;
      start = c.requires.meeting.start;
      end = omega (arith, said.lower c.args.query.to, c.requires.meeting.end);
    }
