-- Bytes are a line and its line feed exactly if the bytes before their last one are the line.
use Rattle.std.proofs.Common.{◌≡◌, ℕ, ◌-◌, ◌↔◌, Bool, true, IsTrue, List, [], ◌∷◌, ◌++◌, length, take, drop, sym, ap, ◌∙◌, length-append, arith}
use Rattle.std.proofs.lemmas.List.{take-append-drop, take_at}
use Rattle.std.proofs.lemmas.Slice.Eq.{bytes_eq-Decides}
use Rattle.std.specs.Str.{bytes_eq}

-- The last of these bytes is a line feed. The bytes are a line and its line feed, exactly if the
-- bytes before that line feed are the line.
pub feed_behind : (bytes text line : List ℕ) (same : Bool) → bytes_eq (drop (length bytes - 1) bytes) (10 ∷ []) ≡ true → text ≡ take (length bytes - 1) bytes
    → same ≡ bytes_eq text line → IsTrue same ↔ (bytes ≡ line ++ 10 ∷ [])
feed_behind bytes text line same feed front test =
    let last : drop (length bytes - 1) bytes ≡ 10 ∷ [] = (bytes_eq-Decides (drop (length bytes - 1) bytes) (10 ∷ [])).0 feed in
    let whole : bytes ≡ text ++ 10 ∷ [] = sym (take-append-drop (length bytes - 1) bytes) ∙ ap (λ end. take (length bytes - 1) bytes ++ end) last ∙ ap (λ start. start ++ 10 ∷ []) (sym front) in
    let decides = bytes_eq-Decides text line in (
      λ holds. whole ∙ ap (λ start. start ++ 10 ∷ []) (decides.0 (sym test ∙ holds)),
      λ is_line. test ∙ decides.1 (front ∙ shorter bytes line is_line),
    )
  where
    shorter : (bytes line : List ℕ) → bytes ≡ line ++ 10 ∷ [] → take (length bytes - 1) bytes ≡ line
    shorter bytes line is = rw is (take_at line (10 ∷ []) (length (line ++ 10 ∷ []) - 1) (rw (length-append line (10 ∷ [])) (omega arith)))
