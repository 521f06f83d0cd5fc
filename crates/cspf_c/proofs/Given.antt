-- What a call does to the session of a handle, if a session is open.
use Rattle.std.proofs.Common.{◌≡◌, ◌≢◌, ℕ, List, length, Result, Ok, Err, IfOk, subst}
use Rattle.std.specs.declared.option.Option.{Option}
use Rattle.std.specs.declared.option.Option.TheVariants.{None, Some}
use Rattle.std.specs.declared.alloc.AllocError.{AllocError}
use Rattle.cspf_c.specs.Calls.{AreGiven, IsCalled, IsHeld, size_of_lines}
use Rattle.cspf_c.specs.declared.codes.TheConstants.{ANSWERED}
use Rattle.cspf_c.specs.declared.opened.Opened.{Opened}

pub given_called : (bytes : List ℕ) (size code : ℕ) (held : Opened) (made : Result Opened AllocError) (old new : Option Opened) → old ≡ Some held
    → IfOk made (λ opened. AreGiven bytes (length opened.lines.items) held opened) → size ≡ size_of_lines made → IsHeld code made new
    → IsCalled (AreGiven bytes size) code old new
given_called bytes size code held made old None is given same kept = rw is kept
given_called bytes size code held (Ok opened) old (Some new) is given same kept =
    rw is (kept.0, subst (λ (m : Result Opened AllocError). IfOk m (λ o. AreGiven bytes size held o)) kept.1 (rw same given))
given_called bytes size code held (Err refused) old (Some new) is given same kept = let wrong : ⊥ = cc kept.1 in absurd wrong

-- If a session was open, and the code of a call isn't `ANSWERED`, memory was refused and the call
-- has closed the session.
pub not_called : (does : Opened → Opened → Type 0) (code : ℕ) (held : Opened) (made : Result Opened AllocError) (old new : Option Opened) → old ≡ Some held
    → code ≢ ANSWERED → IsHeld code made new → IsCalled does code old new
not_called does code held made old None is other kept = rw is kept
not_called does code held made old (Some new) is other kept = absurd (other kept.0)
