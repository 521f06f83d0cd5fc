-- There is at most one reply line for a request's id, a version of the database and an answer.
use Rattle.std.proofs.Common.{◌≡◌, ℕ, ◌↔◌, Bool, true, false, IsTrue, List, refl, sym, ◌∙◌}
use Rattle.cspf_model.specs.Best.{Answer, unknown_from, unknown_to, no_route, route}
use Rattle.cspf_ero.specs.ReplyLine.{IsAnswerText, HasOneReplyLine}

same_test : (a b : Bool) (P : Type 0) → IsTrue a ↔ P → IsTrue b ↔ P → a ≡ b
same_test true true P x y = refl
same_test true false P x y = absurd (let e : false ≡ true = y.1 (x.0 refl) in cc e)
same_test false true P x y = absurd (let e : false ≡ true = x.1 (y.0 refl) in cc e)
same_test false false P x y = refl

text_once : (answer : Answer) (t u : List ℕ) → IsAnswerText answer t → IsAnswerText answer u → t ≡ u
text_once unknown_from t u a b = a ∙ sym b
text_once unknown_to t u a b = a ∙ sym b
text_once no_route t u a b = a ∙ sym b
text_once (route links) t u a b = a.words ∙ rw (same_test a.again b.again _ a.twice b.twice) (sym b.words)

pub one_reply_line : HasOneReplyLine
one_reply_line id version answer line other a b = a.2 ∙ rw (text_once answer a.0 b.0 a.1 b.1) (sym b.2)
