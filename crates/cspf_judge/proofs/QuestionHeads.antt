-- A line is read as the answer to a row that asks: with the word `except`, `pair` or `ask`.
use Rattle.std.proofs.Common.{◌≡◌, ℕ, List, ◌++◌, codes, drop, Option, Some, None, IfSome, IfNone, inl, inr, sym, ap, subst, ◌∙◌}
use Rattle.cspf_ero.specs.declared.head.Head.{Head}
use Rattle.cspf_ero.specs.ReplyHead.{BeginsWithHead, HasNoHead}
use Rattle.cspf_judge.specs.Findings.{HasNoBeginning}
use Rattle.cspf_judge.specs.Asked.{BeginsWithWord, BeginsAsQuestion, asked_spec}

-- `size` is the number of bytes of the word.
module _ (word : List ℕ) (size : ℕ) (cut : (rest : List ℕ) → drop size (word ++ rest) ≡ rest) where
  -- If the bytes behind the word don't begin as a reply line with `ask` before them, the line doesn't
  -- begin with the word, an id and a version.
  pub no_word : (line behind : List ℕ) (read : Option Head) → behind ≡ drop size line → IfNone read (HasNoHead (codes "ask" ++ behind))
      → IfNone read ((other : Head) → ¬ BeginsWithWord word line other)
  no_word line behind (Some head) front none = tt
  no_word line behind None front none = λ other begins.
      let same : begins.behind ≡ behind = sym (cut begins.behind) ∙ sym (ap (drop size) begins.whole) ∙ sym front in
      none other (subst (λ rest. BeginsWithHead (codes "ask" ++ rest) other) same begins.begins)

  -- If the bytes behind the word begin as a reply line with `ask` before them, the line begins with
  -- the word, an id and a version.
  pub with_word : (line behind : List ℕ) (read : Option Head) → line ≡ word ++ behind → IfSome read (BeginsWithHead (codes "ask" ++ behind))
      → IfSome read (BeginsWithWord word line)
  with_word line behind None whole begins = tt
  with_word line behind (Some head) whole begins = record { behind = behind; whole = whole; begins = begins }

-- a line that begins neither with `except` nor with `pair` doesn't begin as the answer to a question
pub no_question : (line : List ℕ) (read : Option Head) → ((other : Head) → ¬ BeginsWithWord (codes "except") line other)
    → IfNone read ((other : Head) → ¬ BeginsWithWord (codes "pair") line other)
    → IfNone read ((other : Head) → ¬ BeginsAsQuestion line other)
no_question line (Some head) lacks none = tt
no_question line None lacks none = λ other begins. elim begins [
  | inl except ↦ lacks other except
  | inr pair ↦ none other pair
]

-- a line that begins with `pair`, an id and a version begins as the answer to a question
pub as_pair : (line : List ℕ) (read : Option Head) → IfSome read (BeginsWithWord (codes "pair") line) → IfSome read (BeginsAsQuestion line)
as_pair line None begins = tt
as_pair line (Some head) begins = inr begins

-- a line that begins neither as the answer to a question nor with `ask` doesn't begin as an answer
pub neither : (line : List ℕ) (read : Option Head) → ((other : Head) → ¬ BeginsAsQuestion line other) → IfNone read (HasNoHead line) → IfNone read (HasNoBeginning asked_spec line)
neither line (Some head) lacks none = tt
neither line None lacks none = λ head begins. elim begins [
  | inl ask ↦ none head ask
  | inr other ↦ lacks head other
]
