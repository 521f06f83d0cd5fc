use Rattle.std.proofs.Common.{inl, inr, refl}
use Rattle.std.proofs.lemmas.Result.{on_err_weaker}
use Rattle.cspf_judge.specs.AuditRun.{IsQuestionAuditErrorLine, audit_lines, audit_status}
use Rattle.cspf_judge.specs.QuestionAudits.{IsQuestionAuditOf, IsQuestionAuditError}
use Rattle.cspf_judge.proofs.AuditRunLines.{audited, unaudited, unaudited_begun}
use Rattle.cspf_judge.proofs.audit_run.run_audit_with_questions.Goals as goal

pub returns-in-Ok-clause-whole : goal.returns-in-Ok-clause-whole
returns-in-Ok-clause-whole g c =
    audited (IsQuestionAuditOf c.args.kinds) IsQuestionAuditErrorLine (IsQuestionAuditError c.args.kinds) (g.W.Write.contents c.args.writer.now) (g.W.Write.contents c.write_audit.new.writer) (g.R.Read.remaining c.args.journal) (g.Q.Read.remaining c.args.requests) (g.P.Read.remaining c.args.replies)
    c.write_audit.result c.in-Ok.found c.write_audit.ensures.status c.write_audit.ensures.lines c.in-Ok.ensures.whole

pub returns-in-Err-clause-whole : goal.returns-in-Err-clause-whole
returns-in-Err-clause-whole g c =
    unaudited (IsQuestionAuditOf c.args.kinds) IsQuestionAuditErrorLine (IsQuestionAuditError c.args.kinds) (g.W.Write.contents c.args.writer.now) (g.W.Write.contents c.refuse.new.writer) (g.R.Read.remaining c.args.journal) (g.Q.Read.remaining c.args.requests) (g.P.Read.remaining c.args.replies)
    c.refuse.result c.question_audit_end_of.result c.in-Err.error c.question_audit_end_of.ensures.refused c.in-Err.ensures.err c.refuse.ensures.status c.refuse.ensures.line

pub returns-in-Ok-clause-stopped : goal.returns-in-Ok-clause-stopped
returns-in-Ok-clause-stopped g c =
    on_err_weaker c.write_audit.result
    (λ begun. inr (audit_lines c.in-Ok.found, (audit_status c.in-Ok.found, inl (c.in-Ok.found, refl, refl, c.in-Ok.ensures.whole)), begun)) c.write_audit.ensures.front

pub returns-in-Err-clause-stopped : goal.returns-in-Err-clause-stopped
returns-in-Err-clause-stopped g c =
    unaudited_begun (IsQuestionAuditOf c.args.kinds) IsQuestionAuditErrorLine (IsQuestionAuditError c.args.kinds) (g.W.Write.contents c.args.writer.now) (g.W.Write.contents c.refuse.new.writer) (g.R.Read.remaining c.args.journal) (g.Q.Read.remaining c.args.requests) (g.P.Read.remaining c.args.replies)
    c.refuse.result c.question_audit_end_of.result c.in-Err.error c.question_audit_end_of.ensures.refused c.in-Err.ensures.err c.refuse.ensures.begun
