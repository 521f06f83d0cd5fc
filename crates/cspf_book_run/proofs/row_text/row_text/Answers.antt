use Rattle.std.proofs.Common.{◌≡◌, ◌++◌, List, [], ℕ, refl, ◌∙◌}
use Rattle.std.proofs.lemmas.Result.{IfOk-weaker}
use Rattle.cspf_book_run.proofs.row_text.row_text.Goals as goal

-- If a row is written to an empty writer with an empty buffer, the writer has exactly the row's
-- text.
first_text : (inner buffer row all text : List ℕ) → inner ≡ [] → buffer ≡ [] → all ≡ (inner ++ buffer) ++ row → text ≡ all → text ≡ row
first_text inner buffer row all text no_bytes nothing whole is = is ∙ whole ∙ rw (no_bytes, nothing) refl

pub returns-in-Ok : goal.returns-in-Ok
returns-in-Ok c =
    IfOk-weaker c.written.result _ _
    (λ text is. first_text _ _ _ _ text.items (rw c.from_writer-rows.ensures.wtr c.new.ensures.items) c.from_writer-rows.ensures.empty
    (rw c.from_writer-rows.ensures.cfg at (c.in-Ok.ensures.bytes c.from_writer-rows.ensures.fields c.from_writer-rows.ensures.wrote (rw c.from_writer-rows.ensures.cfg (λ e. cc e)))) is)
    c.written.ensures
