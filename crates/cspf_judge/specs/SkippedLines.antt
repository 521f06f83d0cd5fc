-- Private: a line that the audit skips doesn't begin as a reply line.
use Rattle.std.proofs.Common.{◌≡◌, ℕ, List, codes, inl, inr, sym, ap, ◌∙◌}
use Rattle.cspf_ero.specs.declared.head.Head.{Head}
use Rattle.cspf_ero.specs.ReplyHead.{BeginsWithHead}
use Rattle.cspf_judge.specs.Findings.{first_word, IsPassedOver}

-- if the first word of a line is `ask` or another word for a row that asks, the line isn't skipped
pub no_head_skipped : (line : List ℕ) (head : Head) → IsPassedOver line → ¬ BeginsWithHead line head
no_head_skipped line head passed begins = go passed
  where
    word : first_word line ≡ codes "ask"
    word = ap first_word begins.whole

    go : IsPassedOver line → ⊥
    go (inl is) = let no : codes "ask" ≡ codes "version" = sym word ∙ is in cc
    go (inr (inl is)) = let no : codes "ask" ≡ codes "applied" = sym word ∙ is in cc
    go (inr (inr is)) = let no : codes "ask" ≡ codes "batch" = sym word ∙ is in cc
