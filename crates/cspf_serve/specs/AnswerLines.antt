-- Private: the reply lines for a list of answers.
use Rattle.std.specs.Prelude.{◌≡◌, ℕ, List, [], ◌∷◌, ◌++◌}
use Rattle.cspf_ero.specs.ReplyLine.{IsReply}
use Rattle.cspf_model.specs.Outcome.{answer_of}
use Rattle.cspf_publish.specs.declared.answer.Answer.{Answer}

-- the text `lines` has one reply line for each answer, in the order of the answers; each reply line
-- has the id and the version of its answer
abbrev pub AreAnswerLines : List Answer → List ℕ → Type 0
AreAnswerLines [] lines = lines ≡ []
AreAnswerLines (a ∷ answers) lines =
    (line : List ℕ) × (more : List ℕ) × IsReply a.id a.version (answer_of a.outcome) line × (lines ≡ line ++ more)
    × AreAnswerLines answers more
