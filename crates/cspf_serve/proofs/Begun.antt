-- A text is written to an output, and after it other lines, in whole or in part.
use Rattle.std.proofs.Common.{◌≡◌, Option, List, [], ◌++◌, ℕ, inl, inr, sym, append-nil, rules}
use Rattle.std.specs.Io.KnownBytes.{Appends, Keeps}
use Rattle.cspf_judge.proofs.Fronts.{front_behind}
use Rattle.cspf_judge.specs.EarlyEnds.{HasBegun}

-- if a text is written, and then the output doesn't change, the output has grown by exactly this
-- text
kept_behind : (old mid new : Option (List ℕ)) (text : List ℕ) → Appends old mid text → Keeps mid new → Appends old new text
kept_behind old mid new text written kept = search rules

-- A text is written, and then a prefix of some lines. The whole output is a prefix of the text
-- followed by those lines.
pub begun_behind : (old mid new : Option (List ℕ)) (text : List ℕ) (P Q : List ℕ → Type 0) → Appends old mid text → Q text
    → ((lines : List ℕ) → P lines → Q (text ++ lines)) → HasBegun mid new P → HasBegun old new Q
begun_behind old mid new text P Q written here more (inl kept) =
    inr (text, here, record { front = text; rest = []; split = sym (append-nil text); written = kept_behind old mid new text written kept })
begun_behind old mid new text P Q written here more (inr (lines, is, begun)) =
    inr (text ++ lines, more lines is, front_behind old mid new text lines written begun)

-- Suppose that `P` implies `Q`. If the output is a prefix of lines of which `P` holds, it is a
-- prefix of lines of which `Q` holds. The same is true if nothing is written.
pub begun_weaker : (old new : Option (List ℕ)) (P Q : List ℕ → Type 0) → ((lines : List ℕ) → P lines → Q lines) → HasBegun old new P → HasBegun old new Q
begun_weaker old new P Q f h2 = search rules
