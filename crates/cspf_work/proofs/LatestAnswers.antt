-- All requests are answered at the last published version.
use Rattle.std.proofs.Common.{◌≡◌, ℕ, ◌≤◌, All, List, take, length, get_or, ap, ◌∙◌, subst, arith, Vec, rules}
use Rattle.std.proofs.lemmas.Bool.{cases_lt}
use Rattle.std.proofs.Math.Seq.{take-length}
use Rattle.std.proofs.lemmas.Option.{slice_get_within, slice_get-get_or, get_or_from_slice_get}
use Rattle.cspf_model.specs.declared.request.Request.{Request}
use Rattle.cspf_model.specs.Numbered.{NumberedChanges}
use Rattle.cspf_publish.specs.declared.answer.Answer.{Answer}
use Rattle.cspf_publish.specs.Answers.{IsAnswerAfter}
use Rattle.cspf_publish.specs.Histories.{BeginsWith}
use Rattle.cspf_publish.specs.AskerStates.{AskerState}
use Rattle.std.specs.Global.{Global}
use Rattle.cspf_work.specs.declared.serve_error.ServeError.{ServeError}
use Rattle.cspf_work.specs.Served.{AreAnsweredByWorkers, AreAnswersAfter, AreAnswersWithin, AreSameAskers, IsUnaccounted}
use Rattle.cspf_work.specs.Strays.{IsFirstStray}
use Rattle.cspf_work.proofs.Asked.{begins_through}
use Rattle.cspf_work.proofs.Running.{at_place}
use Rattle.cspf_work.proofs.Telling.{no_earlier, within_published}

-- if the version of each answer is the number of published batches, all answers are computed from
-- all published batches
answers_at_version : (published : List NumberedChanges) (requests : List Request) (list : List Answer) (version : ℕ) → version ≡ length published
    → length list ≡ length requests → All (λ (a : Answer). a.version ≡ version) list → AreAnswersWithin published requests list → AreAnswersAfter published requests list
answers_at_version published requests list version is count same within = record {
  count = count;
  each = λ index q a at there.
      let one : a.version ≡ version = subst (λ (b : Answer). b.version ≡ version) (get_or_from_slice_get list index a a there) (same index a (slice_get_within list index a there)) in
      let whole : take a.version published ≡ published = ap (λ n. take n published) (one ∙ is) ∙ take-length published in
      let right = within.each index q a at there in
      subst (λ (bs : List NumberedChanges). IsAnswerAfter bs q a) whole right.answer;
}

-- if the version of each answer is the number of published batches, no answer has a later version
no_later : (published : List NumberedChanges) (list : List Answer) (version : ℕ) → version ≡ length published
    → All (λ (a : Answer). a.version ≡ version) list → All (λ (a : Answer). a.version ≤ length published) list
no_later published list version is same i d less = let one = same i d less in omega arith

-- if askers (which compute the workers' answers) have learnt of the published batches, they still
-- know these batches later
pub told_later : (published : List NumberedChanges) (before after : List AskerState) → AreSameAskers before after
    → All (λ (k : AskerState). BeginsWith k.batches published) before → All (λ (k : AskerState). BeginsWith k.batches published) after
told_later published before after same told i d less =
    let count = same.count in
    let old = at_place before i (omega arith) in
    let knows = same.each i old.0 (get_or after i d) old.1 (slice_get-get_or after i d less) in
    let was : BeginsWith (old.0).batches published =
    subst (λ (k : AskerState). BeginsWith k.batches published) (get_or_from_slice_get before i old.0 old.0 old.1) (told i old.0 (omega arith)) in
    begins_through published (old.0).batches (get_or after i d).batches was knows.later

-- Before the workers began, all askers (which compute the workers' answers) had learnt of the
-- published batches. Also, the version of each answer is the last published version. Then all
-- answers are computed from all published batches.
pub latest_answers : (published : List NumberedChanges) (requests : List Request) (told after : List AskerState) (list : List Answer) (drawn : List (Vec ℕ Global)) (version : ℕ)
    → version ≡ length published → All (λ (k : AskerState). BeginsWith k.batches published) told → AreSameAskers told after
    → AreAnsweredByWorkers requests told after list drawn → All (λ (a : Answer). (version ≤ a.version) × (a.version ≤ version)) list → AreAnswersAfter published requests list
latest_answers published requests told after list drawn version is begins same answered between =
    let exact : All (λ (a : Answer). a.version ≡ version) list = λ i d less. (let both = between i d less in omega (arith, both.0, both.1)) in
    answers_at_version published requests list version is answered.count exact
    (within_published requests told after list drawn published same.count (told_later published told after same begins) (no_later published list version is exact) answered)

-- All askers (which compute the workers' answers) had learnt of the published batches. The error
-- names the first answer whose version isn't the last published one. The version of this answer is
-- above the published versions.
pub later_version : (published : List NumberedChanges) (requests : List Request) (told after : List AskerState) (list : List Answer) (drawn : List (Vec ℕ Global)) (version : ℕ) (e : ServeError)
    → version ≡ length published → All (λ (k : AskerState). BeginsWith k.batches published) told → AreSameAskers told after
    → AreAnsweredByWorkers requests told after list drawn → IsFirstStray list (λ v. (version ≤ v) × (v ≤ version)) e → IsUnaccounted (length requests) (length published) e
later_version published requests told after list drawn version e is begins same answered stray = search (rules, cases_lt, no_earlier, slice_get_within)
