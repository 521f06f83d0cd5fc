-- The sessions of a client: a client has one session after the other, and each session has its own
-- streams.
use Rattle.std.specs.Prelude.{◌≡◌, ℕ, ◌+◌, ◌-◌, ◌<◌, ◌^◌, ◌⊎◌, All, List, [], ◌∷◌, min, Option, Some, Result, Ok, Err, MatchResult}
use Rattle.cspf_questions.specs.declared.kinds.QuestionKinds.{QuestionKinds}
use Rattle.cspf_client.specs.ClientRuns.{IsClientRun}
use Rattle.cspf_client.specs.ServingStates.{ServingState, IsReady}
use Rattle.cspf_client.specs.SessionStates.{HasGoneForward}
use Rattle.cspf_client.specs.declared.client.Client.{Client}
use Rattle.cspf_client.specs.declared.error.ClientError.TheVariants.{NoEntry}

-- A session of a client: its streams, and the client before the session's first row and after its
-- stream of requests has ended or stopped.
pub record ClientSession (Q V : Type 0) : Type 0 where
  pub streams : Client Q V
  pub before : ServingState Q V
  pub after : ServingState Q V

-- The client with this number was answered from the session's first row on. `few` says only that
-- the count of refused rows is a number of 64 bits.
pub record IsSession {Q V : Type 0} (kinds : QuestionKinds) (bytes : Q → Option (List ℕ)) (contents : V → Option (List ℕ)) (number : ℕ) (s : ClientSession Q V) : Type 0 where
  pub ready : IsReady s.before
  pub number_is : s.before.state.client ≡ number
  pub requests : s.before.requests ≡ Some s.streams.requests
  pub empty : s.before.replies ≡ s.streams.replies
  pub run : IsClientRun kinds bytes contents s.before s.after
  pub forward : HasGoneForward s.before.state s.after.state
  pub few : s.after.state.refused < 2 ^ 64

-- What `reopen` may return for a writer whose session has ended: the streams of the next session,
-- or the writer.
abbrev pub ReopensOf : Type 0 → Type 0 → Type 1
ReopensOf Q V = V → Result (Client Q V) V → Type 0

-- A session with these streams, in which the client is `before` its first row, follows the session
-- `s`. The streams are those that `reopen` returned for the writer of `s`. The client begins with
-- the batches that it knew and the steps that it had seen when `s` ended. No session follows one in
-- which the client couldn't enter the published replica, which is a copy of the table.
pub record Follows {Q V : Type 0} (reopens : ReopensOf Q V) (s : ClientSession Q V) (streams : Client Q V) (before : ServingState Q V) : Type 0 where
  pub going : ¬ (s.after.end ≡ Err NoEntry)
  pub opened : reopens s.after.replies (Ok streams)
  pub known : before.state.known ≡ s.after.state.known
  pub steps : before.state.steps ≡ s.after.state.steps

-- No session follows the session `s`: the client couldn't enter the published replica, or `reopen`
-- returned the writer, because there are no further streams.
abbrev pub IsLast : {Q V : Type 0} → ReopensOf Q V → ClientSession Q V → Type 0
IsLast reopens s = (s.after.end ≡ Err NoEntry) ⊎ reopens s.after.replies (Err s.after.replies)

-- The sessions `earlier`, the latest first, came before the session with these streams, in which
-- the client is `before` its first row. Each of them follows the one before it. In the first of
-- all sessions the client is `first` before its first row.
abbrev pub CameBefore : {Q V : Type 0} → ReopensOf Q V → ServingState Q V → Client Q V → ServingState Q V → List (ClientSession Q V) → Type 0
CameBefore reopens first streams before [] = before ≡ first
CameBefore reopens first streams before (s ∷ earlier) = Follows reopens s streams before × CameBefore reopens first s.streams s.before earlier

-- how many rows were refused in these sessions
abbrev pub refused_in : {Q V : Type 0} → List (ClientSession Q V) → ℕ
refused_in [] = 0
refused_in (s ∷ sessions) = s.after.state.refused + refused_in sessions

-- A client was answered in one session after the other, from the first row of its first session on.
-- `old` is the client before this row, and `new` is the client after its last session. `last` is
-- the last session, and `earlier` are the sessions before it, the latest first.
pub record HasSessions {Q V : Type 0} (kinds : QuestionKinds) (reopens : ReopensOf Q V) (bytes : Q → Option (List ℕ)) (contents : V → Option (List ℕ)) (old new : ServingState Q V) : Type 0 where
  pub last : ClientSession Q V
  pub earlier : List (ClientSession Q V)
  pub each : All (IsSession kinds bytes contents old.state.client) (last ∷ earlier)
  pub in_turn : CameBefore reopens old last.streams last.before earlier
  pub ends : IsLast reopens last
  pub after : new ≡ last.after
  pub refused : new.refused_before ≡ min (refused_in earlier) (2 ^ 64 - 1)

-- Private: the client `now` has read no row of its session yet. The sessions `earlier` came before.
pub record HasComeTo {Q V : Type 0} (kinds : QuestionKinds) (reopens : ReopensOf Q V) (bytes : Q → Option (List ℕ)) (contents : V → Option (List ℕ)) (first now : ServingState Q V) : Type 0 where
  pub streams : Client Q V
  pub earlier : List (ClientSession Q V)
  pub ready : IsReady now
  pub number : now.state.client ≡ first.state.client
  pub requests : now.requests ≡ Some streams.requests
  pub replies : now.replies ≡ streams.replies
  pub each : All (IsSession kinds bytes contents first.state.client) earlier
  pub in_turn : CameBefore reopens first streams now earlier
  pub forward : HasGoneForward first.state now.state
  pub refused : now.refused_before ≡ min (refused_in earlier) (2 ^ 64 - 1)

-- A client after a session, `s`, and before the next one, `t`, for which `reopen` returned these
-- streams.
pub record IsNextSession {Q V : Type 0} (streams : Client Q V) (s t : ServingState Q V) : Type 0 where
  pub requests : t.requests ≡ Some streams.requests
  pub replies : t.replies ≡ streams.replies
  pub state : t.state ≡ record s.state { refused = 0 }
  pub end : t.end ≡ Ok tt
  pub refused : t.refused_before ≡ min (s.refused_before + s.state.refused) (2 ^ 64 - 1)

-- A client begins another session, or it ends: `IsNextSession` and `IsLast` of its states before and after.
abbrev pub IsReopened : {Q V : Type 0} → ReopensOf Q V → ServingState Q V → Result (ServingState Q V) (ServingState Q V) → Type 0
IsReopened {Q} {V} reopens s result =
    MatchResult result
    (λ t. (streams : Client Q V) × (¬ (s.end ≡ Err NoEntry)) × reopens s.replies (Ok streams) × IsNextSession streams s t)
    (λ t. ((s.end ≡ Err NoEntry) ⊎ reopens s.replies (Err s.replies)) × (t ≡ s))
