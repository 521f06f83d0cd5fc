-- Private: a line begins with at most one id and version as an answer, and a line that the audit
-- skips doesn't begin as an answer.
use Rattle.std.proofs.Common.{◌≡◌, ℕ, List, ◌++◌, codes, drop, take, get_or, arith, inl, inr, refl, sym, ap, subst, ◌∙◌}
use Rattle.cspf_ero.specs.declared.head.Head.{Head}
use Rattle.cspf_ero.specs.ReplyHead.{BeginsWithHead}
use Rattle.cspf_ero.proofs.HeadReading.{one_head}
use Rattle.cspf_judge.specs.Asked.{BeginsWithWord, BeginsAsQuestion, BeginsAsAnswer}
use Rattle.cspf_judge.specs.Findings.{first_word, IsPassedOver}
use Rattle.cspf_judge.specs.SkippedLines.{no_head_skipped}

letters_differ : (one other : ℕ) → (one ≡ other → ⊥) → (line : List ℕ) → get_or line 0 0 ≡ one → get_or line 0 0 ≡ other → ⊥
letters_differ one other apart line is also = apart (sym is ∙ also)

first_a : (line : List ℕ) (head : Head) → BeginsWithHead line head → get_or line 0 0 ≡ 97
first_a line head begins = ap (λ (text : List ℕ). get_or text 0 0) begins.whole

first_e : (line : List ℕ) (head : Head) → BeginsWithWord (codes "except") line head → get_or line 0 0 ≡ 101
first_e line head begins = ap (λ (text : List ℕ). get_or text 0 0) begins.whole

first_p : (line : List ℕ) (head : Head) → BeginsWithWord (codes "pair") line head → get_or line 0 0 ≡ 112
first_p line head begins = ap (λ (text : List ℕ). get_or text 0 0) begins.whole

-- no line begins both as a reply line and as the answer to a question
not_both : (line : List ℕ) (head other : Head) → BeginsWithHead line head → BeginsAsQuestion line other → ⊥
not_both line head other begins (inl also) = letters_differ 97 101 (λ same. omega (arith, same)) line (first_a line head begins) (first_e line other also)
not_both line head other begins (inr also) = letters_differ 97 112 (λ same. omega (arith, same)) line (first_a line head begins) (first_p line other also)

-- a line begins with a word of `size` bytes, and with at most one id and version
module _ (word : List ℕ) (size : ℕ) (cut : (rest : List ℕ) → drop size (word ++ rest) ≡ rest) where
  one_behind : (line : List ℕ) (head other : Head) → BeginsWithWord word line head → BeginsWithWord word line other → head ≡ other
  one_behind line head other a b =
      let same : a.behind ≡ b.behind = sym (cut a.behind) ∙ ap (drop size) (sym a.whole ∙ b.whole) ∙ cut b.behind in
      one_head (codes "ask" ++ b.behind) head other (subst (λ behind. BeginsWithHead (codes "ask" ++ behind) head) same a.begins) b.begins

one_question_head : (line : List ℕ) (head other : Head) → BeginsAsQuestion line head → BeginsAsQuestion line other → head ≡ other
one_question_head line head other (inl a) (inl b) = one_behind (codes "except") 6 (λ rest. refl) line head other a b
one_question_head line head other (inr a) (inr b) = one_behind (codes "pair") 4 (λ rest. refl) line head other a b
one_question_head line head other (inl a) (inr b) =
    absurd (letters_differ 101 112 (λ same. omega (arith, same)) line (first_e line head a) (first_p line other b))
one_question_head line head other (inr a) (inl b) =
    absurd (letters_differ 112 101 (λ same. omega (arith, same)) line (first_p line head a) (first_e line other b))

pub one_answer_head : (line : List ℕ) (head other : Head) → BeginsAsAnswer line head → BeginsAsAnswer line other → head ≡ other
one_answer_head line head other (inl a) (inl b) = one_head line head other a b
one_answer_head line head other (inl a) (inr b) = absurd (not_both line head other a b)
one_answer_head line head other (inr a) (inl b) = absurd (not_both line other head b a)
one_answer_head line head other (inr a) (inr b) = one_question_head line head other a b

-- the first word of a line that begins with this word, an id and a version
word_is : (word line : List ℕ) (head : Head) → ((rest : List ℕ) → first_word (word ++ drop 3 (codes "ask " ++ rest)) ≡ word) → BeginsWithWord word line head → first_word line ≡ word
word_is word line head read begins =
    ap first_word (begins.whole ∙ ap (λ behind. word ++ behind) (ap (drop 3) begins.begins.whole)) ∙ read _

pub no_answer_skipped : (line : List ℕ) (head : Head) → IsPassedOver line → ¬ BeginsAsAnswer line head
no_answer_skipped line head passed (inl begins) = no_head_skipped line head passed begins
no_answer_skipped line head passed (inr (inl begins)) = go passed
  where
    word : first_word line ≡ codes "except"
    word = word_is (codes "except") line head (λ rest. refl) begins

    go : IsPassedOver line → ⊥
    go (inl is) = let no : codes "except" ≡ codes "version" = sym word ∙ is in cc
    go (inr (inl is)) = let no : codes "except" ≡ codes "applied" = sym word ∙ is in cc
    go (inr (inr is)) = let no : codes "except" ≡ codes "batch" = sym word ∙ is in cc
no_answer_skipped line head passed (inr (inr begins)) = go passed
  where
    word : first_word line ≡ codes "pair"
    word = word_is (codes "pair") line head (λ rest. refl) begins

    go : IsPassedOver line → ⊥
    go (inl is) = let no : codes "pair" ≡ codes "version" = sym word ∙ is in cc
    go (inr (inl is)) = let no : codes "pair" ≡ codes "applied" = sym word ∙ is in cc
    go (inr (inr is)) = let no : codes "pair" ≡ codes "batch" = sym word ∙ is in cc
