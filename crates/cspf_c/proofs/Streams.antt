-- What is true of a session once it has answered all rows of a call, and their lines are written to
-- an empty buffer.
use Rattle.std.proofs.Common.{◌≡◌, ℕ, List, [], ◌++◌, Option, Some, IfSome, option_map, subst}
use Rattle.cspf_rows.specs.Records.{rows_of}
use Rattle.cspf_stream.specs.RowAnswers.{AreAllAnswered}
use Rattle.cspf_c.specs.History.{HasAnswered, IsCounted, IsOneMore}
use Rattle.cspf_c.specs.declared.session.TakenRows.{TakenRows}
use Rattle.cspf_c.proofs.Steps.{all_counted, all_answered}

pub stream_counted : (old new : TakenRows) (all : Option (List (List (List ℕ)))) (before after : Option (List ℕ))
    → AreAllAnswered IsOneMore all old new before after → ∥ IsCounted old ∥₁ → ∥ IsCounted new ∥₁
stream_counted old new all before after a counted = all_counted 1 old new a.done a.lines a.answered counted

pub stream_answered : (old new : TakenRows) (all : Option (List (List (List ℕ)))) (bytes before after : List ℕ) (rows : List (List (List ℕ))) (lines : List ℕ)
    → all ≡ option_map rows_of (Some bytes) → before ≡ [] → AreAllAnswered IsOneMore all old new (Some before) (Some after)
    → HasAnswered old rows lines → HasAnswered new (rows ++ rows_of bytes) (lines ++ after)
stream_answered old new all bytes before after rows lines is none a has =
    let same : rows_of bytes ≡ a.done = subst (λ (o : Option (List (List (List ℕ)))). IfSome o (λ r. r ≡ a.done)) is a.whole in
    let all_lines : after ≡ a.lines = rw none at a.written in
    rw (same, all_lines) (all_answered 1 old new a.done a.lines rows lines a.answered has)
