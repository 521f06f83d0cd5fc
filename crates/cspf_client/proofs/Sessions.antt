-- The sessions of a client: one session is added to those before it, and the client ends.
use Rattle.std.proofs.Common.{◌≡◌, ℕ, ◌+◌, ◌-◌, ◌<◌, ◌^◌, ◌⊎◌, All, List, [], ◌∷◌, min, Option, Some, Ok, Err, refl, sym, ap, subst, ◌∙◌, arith}
use Rattle.std.proofs.lemmas.List.Elements.{All-nil, All-cons}
use Rattle.cspf_publish.specs.JournalSteps.{KnownSteps}
use Rattle.cspf_publish.specs.KnownBatches.{KnownBatches}
use Rattle.cspf_client.specs.declared.client.Client.{Client}
use Rattle.cspf_client.specs.declared.error.ClientError.TheVariants.{NoEntry}
use Rattle.cspf_questions.specs.declared.kinds.QuestionKinds.{QuestionKinds}
use Rattle.cspf_client.specs.ClientRuns.{IsClientRun}
use Rattle.cspf_client.specs.ServingStates.{ServingState, IsReady}
use Rattle.cspf_client.specs.SessionStates.{SessionState, HasGoneForward}
use Rattle.cspf_client.specs.Sessions.{ReopensOf, ClientSession, IsSession, Follows, IsLast, CameBefore, HasSessions, HasComeTo, IsNextSession, refused_in}
use Rattle.cspf_client.proofs.Prefixes.{HasGoneForward-self, HasGoneForward-trans}

-- a client whose state differs only in its count of refused rows has gone forward
forward_again : (s t u : SessionState) → HasGoneForward s t → u ≡ record t { refused = 0 } → HasGoneForward s u
forward_again s t u f is =
    HasGoneForward-trans s t u f (subst (λ (x : SessionState). HasGoneForward t x) (sym is) (let self = HasGoneForward-self t in record { client = self.client; known = self.known; steps = self.steps }))

-- the largest count that fits 64 bits is kept if more is added
capped : (a b c d : ℕ) → a ≡ min b (2 ^ 64 - 1) → d ≡ min (a + c) (2 ^ 64 - 1) → d ≡ min (c + b) (2 ^ 64 - 1)
capped a b c d is next = omega (arith, is, next)

module _ {Q V : Type 0} (kinds : QuestionKinds) (reopens : ReopensOf Q V) (bytes : Q → Option (List ℕ)) (contents : V → Option (List ℕ)) (first : ServingState Q V) where
  -- before its first session a client has come to its first session
  pub begun : IsReady first → first.refused_before ≡ 0 → HasComeTo kinds reopens bytes contents first first
  begun ready none =
      let streams : Client Q V = record { requests = ready.unread; replies = first.replies } in record {
        streams = streams;
        earlier = [];
        ready = ready;
        number = refl;
        requests = ready.held;
        replies = refl;
        each = All-nil (IsSession kinds bytes contents first.state.client);
        in_turn = refl;
        forward = HasGoneForward-self first.state;
        refused = none;
      }

  module _ (now ran : ServingState Q V) (come : HasComeTo kinds reopens bytes contents first now)
      (run : IsClientRun kinds bytes contents now ran) (forward : HasGoneForward now.state ran.state) (few : ran.state.refused < 2 ^ 64) (before : ran.refused_before ≡ now.refused_before) where
    -- the session that has just ended
    abbrev ended : ClientSession Q V
    ended = record { streams = come.streams; before = now; after = ran }

    is_session : IsSession kinds bytes contents first.state.client ended
    is_session = record {
      ready = come.ready;
      number_is = come.number;
      requests = come.requests;
      empty = come.replies;
      run = run;
      forward = forward;
      few = few;
    }

    -- the client ends after this session
    pub come_to_end : (last : ServingState Q V) → (ran.end ≡ Err NoEntry) ⊎ reopens ran.replies (Err ran.replies) → last ≡ ran → HasSessions kinds reopens bytes contents first last
    come_to_end last ends is = record {
      last = ended;
      earlier = come.earlier;
      each = All-cons (IsSession kinds bytes contents first.state.client) ended come.earlier is_session come.each;
      in_turn = come.in_turn;
      ends = ends;
      after = is;
      refused = ap (λ (c : ServingState Q V). c.refused_before) is ∙ (before ∙ come.refused);
    }

    -- the next session begins after this session
    pub come_to_next : (next : ServingState Q V) (streams : Client Q V) → ¬ (ran.end ≡ Err NoEntry) → reopens ran.replies (Ok streams) → IsNextSession streams ran next
        → HasComeTo kinds reopens bytes contents first next
    come_to_next next streams going opened is = record {
      streams = streams;
      earlier = ended ∷ come.earlier;
      ready = record {
        unread = streams.requests;
        held = is.requests;
        refused = ap (λ (s : SessionState). s.refused) is.state;
        end = is.end;
      };
      number = ap (λ (s : SessionState). s.client) is.state ∙ (forward.client ∙ come.number);
      requests = is.requests;
      replies = is.replies;
      each = All-cons (IsSession kinds bytes contents first.state.client) ended come.earlier is_session come.each;
      in_turn = (
        record {
          going = going;
          opened = opened;
          known = ap (λ (s : SessionState). s.known) is.state;
          steps = ap (λ (s : SessionState). s.steps) is.state;
        },
        come.in_turn,
      );
      forward = forward_again first.state ran.state next.state (HasGoneForward-trans first.state now.state ran.state come.forward forward) is.state;
      refused = capped ran.refused_before (refused_in come.earlier) ran.state.refused next.refused_before (before ∙ come.refused) is.refused;
    }
