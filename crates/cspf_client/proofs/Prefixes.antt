-- The batches that a client knew are a prefix of the batches that it knows later. The journal's
-- steps that the client had seen are a prefix of the steps that it has seen later.
use Rattle.std.proofs.Common.{◌≡◌, ℕ, List, [], ◌∷◌, ◌++◌, refl, sym, ap, ◌∙◌, append_assoc}
use Rattle.std.proofs.lemmas.List.{append-nil}
use mathlib.Core.List.{IsPrefix}
use Rattle.cspf_model.specs.Numbered.{NumberedChanges}
use Rattle.cspf_publish.specs.Histories.{BeginsWith}
use Rattle.cspf_publish.specs.JournalSteps.{KnownSteps}
use Rattle.cspf_publish.specs.KnownBatches.{KnownBatches, AreFirstOf}
use Rattle.cspf_client.specs.ClientRows.{ReadsCount}
use Rattle.cspf_client.specs.SessionStates.{SessionState, AreFirstSteps, HasGoneForward}

pub BeginsWith-trans : (a b c : List NumberedChanges) → BeginsWith b a → BeginsWith c b → BeginsWith c a
BeginsWith-trans a b c p q =
    (p.0 ++ q.0, q.1 ∙ ap (λ (x : List NumberedChanges). x ++ q.0) p.1 ∙ append_assoc a p.0 q.0)

pub AreFirstOf-self : (k : KnownBatches) → AreFirstOf k k
AreFirstOf-self k = record { source = refl; begins = ([], sym (append-nil k.batches)) }

pub AreFirstOf-trans : (a b c : KnownBatches) → AreFirstOf b a → AreFirstOf c b → AreFirstOf c a
AreFirstOf-trans a b c p q = record {
  source = p.source ∙ q.source;
  begins = BeginsWith-trans a.batches b.batches c.batches p.begins q.begins;
}

pub IsPrefix-trans : {A : Type 0} (a b c : List A) → IsPrefix a b → IsPrefix b c → IsPrefix a c
IsPrefix-trans {A} a b c p q =
    (p.0 ++ q.0, sym (append_assoc a p.0 q.0) ∙ (ap (λ (x : List A). x ++ q.0) p.1 ∙ q.1))

-- if `all` is `first` followed by other elements and one last element, `first` is a prefix of `all`
IsPrefix-last : {A : Type 0} (first others all : List A) (last : A) → all ≡ (first ++ others) ++ last ∷ [] → IsPrefix first all
IsPrefix-last first others all last is = (others ++ last ∷ [], sym (append_assoc first others (last ∷ [])) ∙ sym is)

AreFirstSteps-self : (k : KnownSteps) → AreFirstSteps k k
AreFirstSteps-self k = record { source = refl; begins = ([], append-nil k.steps) }

pub AreFirstSteps-trans : (a b c : KnownSteps) → AreFirstSteps b a → AreFirstSteps c b → AreFirstSteps c a
AreFirstSteps-trans a b c p q = record {
  source = p.source ∙ q.source;
  begins = IsPrefix-trans a.steps b.steps c.steps p.begins q.begins;
}

pub HasGoneForward-self : (s : SessionState) → HasGoneForward s s
HasGoneForward-self s = record { client = refl; known = AreFirstOf-self s.known; steps = AreFirstSteps-self s.steps }

pub HasGoneForward-trans : (s t u : SessionState) → HasGoneForward s t → HasGoneForward t u → HasGoneForward s u
HasGoneForward-trans s t u p q = record {
  client = q.client ∙ p.client;
  known = AreFirstOf-trans s.known t.known u.known p.known q.known;
  steps = AreFirstSteps-trans s.steps t.steps u.steps p.steps q.steps;
}

-- a client goes forward when it reads the count of published batches (`HasGoneForward`)
pub HasGoneForward-count : (place : ℕ) (s t : SessionState) → ReadsCount place s t → HasGoneForward s t
HasGoneForward-count place s t reads =
    let up = reads.caught_up in record {
      client = reads.client;
      known = AreFirstOf-trans s.known reads.mid t.known (record { source = sym up.source; begins = up.later }) reads.later;
      steps = record {
        source = sym up.journal;
        begins = IsPrefix-last s.steps.steps up.read.0 t.steps.steps _ up.read.1;
      };
    }
