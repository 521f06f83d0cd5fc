use Rattle.std.proofs.Common.{take, drop, sym, subst, rules, ◌∙◌}
use Rattle.std.proofs.KnownBytes.{Appends-trans}
use Rattle.std.proofs.Math.Seq.{take-add}
use Rattle.std.proofs.lemmas.List.{take_rest}
use Rattle.std.specs.Io.KnownBytes.{Appends}
use Rattle.cspf_rows.proofs.output.put_through.Goals as goal

pub loop-sent-preserved : goal.loop-sent-preserved
loop-sent-preserved g c =
    let text = c.args.text.now in
    let sent = c.loop-sent.sent in
    let taken = c.in-Some.taken in record {
      within = search rules;
      writer = c.write_some.ensures.writer ∙ c.loop-sent.invariant.writer;
      unfailed = search rules;
      written =
          subst (Appends (g.W.Write.contents c.args.to.now.to.now) (g.W.Write.contents c.write_some.new.self.to.now)) (sym (take-add sent taken text))
          (Appends-trans _ _ _ (take sent text) (take taken (drop sent text)) c.loop-sent.invariant.written (rw (take_rest text sent) at c.in-Some.ensures.taken));
    }
