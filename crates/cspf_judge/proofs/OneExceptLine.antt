-- An `except` row has at most one line that answers it in a database.
use Rattle.std.proofs.Common.{◌≡◌, ℕ, ◌↔◌, Bool, IsTrue, List, [], ◌∷◌, ◌++◌, codes, drop, refl, sym, ap, subst, ◌∙◌}
use Rattle.cspf_model.specs.Database.{Database}
use Rattle.cspf_model.specs.Best.{Answer}
use Rattle.cspf_ero.specs.ReplyLine.{IsReplyAs}
use Rattle.cspf_ero.proofs.OneLine.{one_reply_line}
use Rattle.cspf_except.proofs.BestOnce.{one_best_except}
use Rattle.cspf_questions.specs.QuestionLines.{IsExceptReply}
use Rattle.cspf_questions.specs.declared.question.ExceptQuestion.{ExceptQuestion}

one_except_line : (id version : ℕ) (answer : Answer) (line other : List ℕ) → IsReplyAs (codes "except") id version answer line → IsReplyAs (codes "except") id version answer other → line ≡ other
one_except_line id version answer line other a b =
    a.2 ∙ ap (λ (said : List ℕ). codes "except " ++ drop 4 said) (one_reply_line id version answer _ _ (a.0, a.1, refl) (b.0, b.1, refl)) ∙ sym b.2

pub one_line : (d : Database) (version : ℕ) (question : ExceptQuestion) (line other : List ℕ) → IsExceptReply d version question line → IsExceptReply d version question other → line ≡ other
one_line d version question line other a b =
    let same : a.0 ≡ b.0 = one_best_except d question.request question.exclusions a.0 b.0 a.1 b.1 in
    one_except_line question.request.id version b.0 line other (subst (λ answer. IsReplyAs (codes "except") question.request.id version answer line) same a.2) b.2

-- Let `reply` answer the question in the database. Then a line answers it exactly if `reply` is the
-- line and a line feed.
pub told_right : (d : Database) (version : ℕ) (question : ExceptQuestion) (reply bytes line : List ℕ) (right : Bool) → bytes ≡ reply → IsExceptReply d version question reply
    → IsTrue right ↔ (bytes ≡ line ++ 10 ∷ []) → IsTrue right ↔ IsExceptReply d version question (line ++ 10 ∷ [])
told_right d version question reply bytes line right same is test = (
  λ holds. subst (λ l. IsExceptReply d version question l) (sym same ∙ test.0 holds) is,
  λ also. test.1 (same ∙ one_line d version question reply (line ++ 10 ∷ []) is also),
)
