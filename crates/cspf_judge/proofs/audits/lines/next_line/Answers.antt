use Rattle.std.proofs.Common.{◌≡◌, ◌+◌, ◌++◌, IfSome, sym, ap, subst, ◌∙◌}
use Rattle.std.specs.Io.BufRead.{take_through}
use Rattle.cspf_judge.proofs.LineCuts.{takes_line, some_bytes}
use Rattle.cspf_judge.proofs.audits.lines.next_line.Goals as goal

pub returns-clause-takes : goal.returns-clause-takes
returns-clause-takes g c =
    let bytes = c.read_until.new.buf.items in
    let read = subst (λ start. IfSome (g.B.Read.remaining c.args.reader.now) (λ text. bytes ≡ start ++ take_through 10 text)) c.new-text.ensures.items c.in_ok-read_until.ensures.bytes in
    takes_line (g.B.Read.remaining c.args.reader.now) (g.B.Read.remaining c.read_until.new.self) bytes c.cut_feed.new.text.items read c.in_ok-read_until.ensures.rest
    (some_bytes bytes c.in_ok-read_until.field-0 (sym c.read_until.new.buf.ok.0 ∙ c.in_ok-read_until.ensures.ok ∙ ap (λ len. len + c.in_ok-read_until.field-0) c.new-text.ensures.len) c.if-branch-eq0.false) c.cut_feed.ensures
