-- The steps of a journal that the publisher of a run saw, and the steps that its clients saw, are
-- in one list of steps.
use Rattle.std.proofs.Common.{◌≡◌, ◌+◌, ◌<◌, ◌≤◌, ℕ, List, All, length, take, get_or, sym, subst, rules}
use Rattle.std.proofs.lemmas.List.Elements.{All-more, All-weaker}
use mathlib.Core.List.{IsPrefix}
use Rattle.logbook.specs.Pages.{Book}
use Rattle.cspf_publish.specs.Histories.{BeginsWith}
use Rattle.cspf_publish.specs.JournalSteps.{KnownSteps, batches_of, count_of}
use Rattle.cspf_publish.specs.PublisherStates.{PublisherState}
use Rattle.cspf_client.specs.ServingStates.{ServingState}
use Rattle.cspf_client.specs.SessionStates.{AreFirstSteps}
use Rattle.cspf_client.proofs.Prefixes.{BeginsWith-trans, IsPrefix-trans}
use Rattle.cspf_serve.specs.ServedSteps.{IsOfSource}
use Rattle.cspf_serve.specs.Publishing.{AreAllCounted}

-- Some steps count all batches of a publisher as published. They also count all batches of another
-- publisher with the same batches and the same journal (the source is its identity).
pub counted_again : {J : Type 0} (p q : PublisherState J) (steps : KnownSteps) → AreAllCounted p steps → q.batches ≡ p.batches → q.source ≡ p.source → AreAllCounted q steps
counted_again p q steps are same source = search rules

-- if some steps of a journal count all batches of the publisher as published, later steps of this
-- journal count them, too
pub counted_by : {J : Type 0} (p : PublisherState J) (its new : KnownSteps) → new.source ≡ p.source → count_of its.steps ≡ length p.batches → BeginsWith (batches_of its.steps) p.batches
    → BeginsWith (batches_of new.steps) (batches_of its.steps) → count_of its.steps ≤ count_of new.steps → AreAllCounted p new
counted_by p its new source count recorded begins later = search (rules, BeginsWith-trans)

-- if the steps `old` count all batches of the publisher as published, later steps of the same
-- journal count them, too
pub counted_later : {J : Type 0} (p : PublisherState J) (old new : KnownSteps) → AreAllCounted p old → new.source ≡ old.source → BeginsWith (batches_of new.steps) (batches_of old.steps)
    → count_of old.steps ≤ count_of new.steps → AreAllCounted p new
counted_later p old new are source begins later = search (rules, BeginsWith-trans)

pub first_later : (first old new : KnownSteps) → AreFirstSteps old first → new.source ≡ old.source → IsPrefix old.steps new.steps → AreFirstSteps new first
first_later first old new are source later = search (rules, IsPrefix-trans)

-- the steps that a client has seen are steps of the publisher's journal
pub seen_source : {Q V : Type 0} (clients : List (ServingState Q V)) (i : ℕ) (c : ServingState Q V) (source : Book) → i < length clients → c ≡ get_or clients i c
    → All (IsOfSource {Q = Q} {V = V} source) clients → c.state.steps.source ≡ source
seen_source {Q} {V} clients i c source lt is each = subst (λ (s : ServingState Q V). s.state.steps.source ≡ source) (sym is) (each i c lt).1

-- The steps seen by each of the first `i` clients are a prefix of the old list of steps. The old
-- list, and the steps seen by the next client, are prefixes of the new list. Then the steps seen by
-- each of the first `i + 1` clients are a prefix of the new list.
pub firsts_more : {Q V : Type 0} (clients : List (ServingState Q V)) (i : ℕ) (c : ServingState Q V) (old new : KnownSteps) → i < length clients → c ≡ get_or clients i c
    → All (λ (s : ServingState Q V). AreFirstSteps old s.state.steps) (take i clients) → new.source ≡ old.source → IsPrefix old.steps new.steps → AreFirstSteps new c.state.steps
    → All (λ (s : ServingState Q V). AreFirstSteps new s.state.steps) (take (i + 1) clients)
firsts_more {Q} {V} clients i c old new lt is firsts source later first =
    let Now : ServingState Q V → Type 0 = λ s. AreFirstSteps new s.state.steps in
    All-more Now clients i c lt
    (All-weaker (λ (s : ServingState Q V). AreFirstSteps old s.state.steps) Now (λ s are. first_later s.state.steps old new are source later) (take i clients) firsts)
    (subst Now is first)
