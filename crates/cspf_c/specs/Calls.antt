-- What the calls from C return, and what they do to a session.
use Rattle.std.specs.Prelude.{◌≡◌, ℕ, List, [], ◌++◌, length, take, drop, min, Option, Result, Ok, Err}
use Rattle.std.specs.declared.alloc.AllocError.{AllocError}
use Rattle.std.specs.declared.option.Option.TheVariants.{None, Some}
use Rattle.cspf_rows.specs.Records.{rows_of}
use Rattle.cspf_solve.specs.Script.{IsSolveRun}
use Rattle.cspf_solve.specs.declared.summary.Summary.{Summary}
use Rattle.cspf_c.specs.History.{HasAnswered}
use Rattle.cspf_c.specs.declared.codes.TheConstants.{ANSWERED, MEMORY, CLOSED}
use Rattle.cspf_c.specs.declared.opened.Opened.{Opened}

-- Either a new session is open, or memory was refused and no session is open. A new session was
-- given no row yet, and holds no lines.
abbrev pub IsOpened : ℕ → Option Opened → Type 0
IsOpened code (Some new) = (code ≡ ANSWERED) × (HasAnswered new.session.taken [] [] × (new.lines.items ≡ []))
IsOpened code None = code ≡ MEMORY

-- The session is given the rows of these bytes. Afterwards the session holds the lines that answer
-- these rows. These lines have `size` bytes.
abbrev pub AreGiven : List ℕ → ℕ → Opened → Opened → Type 0
AreGiven bytes size old new =
    (size ≡ length new.lines.items)
    × ((rows : List (List (List ℕ))) (lines : List ℕ) → HasAnswered old.session.taken rows lines
    → HasAnswered new.session.taken (rows ++ rows_of bytes) (lines ++ new.lines.items))

-- Afterwards the session holds the last line of a run over all rows that the session was given.
-- This line has `size` bytes.
abbrev pub IsEnded : ℕ → Opened → Opened → Type 0
IsEnded size old new =
    (size ≡ length new.lines.items) × (new.session.taken ≡ old.session.taken)
    × ((rows : List (List (List ℕ))) (lines : List ℕ) → HasAnswered old.session.taken rows lines
    → (summary : Summary) × IsSolveRun rows (lines ++ new.lines.items) summary)

-- A call returns the code `code`. `old` and `new` are the sessions of its handle before and after
-- the call. If no session was open, no session is open afterwards. If a session was open, and
-- memory is refused, the session is closed. Otherwise the relation `does` holds between the two
-- sessions.
abbrev pub IsCalled : (Opened → Opened → Type 0) → ℕ → Option Opened → Option Opened → Type 0
IsCalled does code None new = (code ≡ CLOSED) × (new ≡ None)
IsCalled does code (Some old) None = code ≡ MEMORY
IsCalled does code (Some old) (Some new) = (code ≡ ANSWERED) × does old new

-- The lines that the session holds are copied to the start of a buffer, as many bytes as fit.
-- `size` is the number of copied bytes. If no session is open, no byte is copied.
abbrev pub AreCopied : Option Opened → List ℕ → List ℕ → ℕ → Type 0
AreCopied None old new size = (size ≡ 0) × (new ≡ old)
AreCopied (Some opened) old new size =
    (size ≡ min (length opened.lines.items) (length old)) × (new ≡ take size opened.lines.items ++ drop size old)

-- Private: either the handle holds the session that was made, or memory was refused and the handle
-- holds no session.
abbrev pub IsHeld : ℕ → Result Opened AllocError → Option Opened → Type 0
IsHeld code made None = code ≡ MEMORY
IsHeld code made (Some new) = (code ≡ ANSWERED) × (made ≡ Ok new)

-- Private: how many bytes the lines of the session have, or 0 if memory was refused.
abbrev pub size_of_lines : Result Opened AllocError → ℕ
size_of_lines (Ok opened) = length opened.lines.items
size_of_lines (Err refused) = 0
