use Rattle.std.proofs.Common.{◌≡◌, ◌+◌, [], ◌∷◌, ◌++◌, length, sym, ap, subst, ◌∙◌, length-append, arith}
use Rattle.cspf_judge.specs.LineReading.{TakesLine, AreSeen}
use Rattle.cspf_judge.proofs.LineCuts.{sees_more, sees_all, sees_none, sees_too_many}
use Rattle.cspf_judge.proofs.audits.lines.read_all.Goals as goal

pub loop-read-init : goal.loop-read-init
loop-read-init g c = record { counted = ap length c.requires.fresh; seen = subst (AreSeen _ _) (sym c.requires.fresh) (sees_none _) }

pub returns-in-None-clause-whole : goal.returns-in-None-clause-whole
returns-in-None-clause-whole g c =
    sees_all (g.B.Read.remaining c.args.reader.now) (g.B.Read.remaining c.loop-read.reader) (g.B.Read.remaining c.next_line.new.reader) c.loop-read.lines.items c.loop-read.invariant.seen
    (subst (TakesLine _ _) c.in-None.is c.in_ok-line.ensures.takes)

pub loop-read-preserved : goal.loop-read-preserved
loop-read-preserved g c =
    let pushed : c.push.new.self.items ≡ c.loop-read.lines.items ++ c.in-Some.line ∷ [] = c.in_ok-push-in-Some.ensures.items in
    let takes = subst (TakesLine _ _) c.in-Some.is c.in_ok-line.ensures.takes in record {
      counted = ap length pushed ∙ length-append c.loop-read.lines.items (c.in-Some.line ∷ []) ∙ ap (λ n. n + 1) c.loop-read.invariant.counted;
      seen = subst (AreSeen _ _) (sym pushed)
          (sees_more (g.B.Read.remaining c.args.reader.now) (g.B.Read.remaining c.loop-read.reader) (g.B.Read.remaining c.next_line.new.reader) c.loop-read.lines.items c.in-Some.line c.loop-read.invariant.seen takes);
    }

pub returns-clause-whole : goal.returns-clause-whole
returns-clause-whole g c =
    sees_all (g.B.Read.remaining c.args.reader.now) (g.B.Read.remaining c.loop-read.reader) (g.B.Read.remaining c.next_line-2.new.reader) c.loop-read.lines.items c.loop-read.invariant.seen
    (subst (TakesLine _ _) c.in-None-2.is c.in_ok-next_line.ensures.takes)

pub returns-in-Some-2-clause-too_many : goal.returns-in-Some-2-clause-too_many
returns-in-Some-2-clause-too_many g c = λ same.
    sees_too_many (g.B.Read.remaining c.args.reader.now) (g.B.Read.remaining c.loop-read.reader) (g.B.Read.remaining c.next_line-2.new.reader) c.loop-read.lines.items c.in-Some-2.field-0 c.loop-read.invariant.seen
    (subst (TakesLine _ _) c.in-Some-2.is c.in_ok-next_line.ensures.takes) (omega (arith, c.loop-read.invariant.counted, c.loop-read-test.false, c.loop-read.auto._read-end))
