use Rattle.std.proofs.Common.{[]}
use Rattle.std.proofs.KnownBytes.{Appends-nil}
use Rattle.cspf_serve.specs.LineTexts.{line_text}
use Rattle.cspf_serve.proofs.LiveRunLines.{live_written}
use Rattle.cspf_serve.proofs.live.live_run.write_live.Goals as goal

pub returns-in_ok-say-in-Some-clause-text : goal.returns-in_ok-say-in-Some-clause-text
returns-in_ok-say-in-Some-clause-text g c =
    live_written c.args.answers.now c.args.batches.now c.args.applied c.args.fault 2
    (g.W.Write.contents c.args.writer.now) (g.W.Write.contents c.write_replies.new.writer) (g.W.Write.contents c.say.new.writer) (g.W.Write.contents c.say-in-Some.new.writer)
    c.in_ok-write_replies.ensures.text c.in_ok-say.ensures.text (line_text c.in-Some.line, c.in-Some.ensures, c.in_ok-say-in-Some.ensures.text)

pub returns-in-None-clause-text : goal.returns-in-None-clause-text
returns-in-None-clause-text g c =
    live_written c.args.answers.now c.args.batches.now c.args.applied c.args.fault 0
    (g.W.Write.contents c.args.writer.now) (g.W.Write.contents c.write_replies.new.writer) (g.W.Write.contents c.say.new.writer) (g.W.Write.contents c.say.new.writer)
    c.in_ok-write_replies.ensures.text c.in_ok-say.ensures.text ([], c.in-None.ensures, Appends-nil (g.W.Write.contents c.say.new.writer))
