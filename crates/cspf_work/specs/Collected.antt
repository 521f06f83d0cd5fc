-- Private: how the workers' answers are collected in the order of the requests.
use Rattle.std.specs.Prelude.{◌≡◌, ℕ, ◌<◌, ◌⊎◌, List, Option, Some, None, slice_get, All, sum_by, Vec}
use Rattle.std.specs.Global.{Global}
use Rattle.cspf_publish.specs.declared.answer.Answer.{Answer}
use Rattle.cspf_work.specs.declared.serve_error.ServeError.{ServeError}
use Rattle.cspf_work.specs.declared.serve_error.ServeError.TheVariants.{Memory, Missing, Twice}
use Rattle.cspf_work.specs.declared.worker.Reply.{Reply}
use Rattle.cspf_jobs.specs.EachOnce.{times}
use Rattle.cspf_work.specs.Working.{indexes}

-- The list `slots` has one slot for each request. The answer of each reply is in the slot at the
-- reply's index. No two replies have the same index, and all other slots are empty.
pub record AreFilled (slots : List (Option Answer)) (done : List Reply) : Type 0 where
  pub placed : All (λ r. slice_get slots r.index ≡ Some (Some r.answer)) done
  pub some : (x : ℕ) (a : Answer) → slice_get slots x ≡ Some (Some a) → times x (indexes done) ≡ 1
  pub none : (x : ℕ) → slice_get slots x ≡ Some None → times x (indexes done) ≡ 0
  pub past : (x : ℕ) → slice_get slots x ≡ None → times x (indexes done) ≡ 0

-- the list has the answer at the index of the reply
abbrev pub IsPlaced : List Answer → Reply → Type 0
IsPlaced list r = slice_get list r.index ≡ Some r.answer

-- the error `Twice` names an index, and at least two of these replies have this index
abbrev pub IsTwice : List Reply → ServeError → Type 0
IsTwice done e = (index : ℕ) × (e ≡ Twice index) × (1 < times index (indexes done))

-- the number of replies with this index in these lists
abbrev pub times_in : ℕ → List (Vec Reply Global) → ℕ
times_in x lists = sum_by (λ (list : Vec Reply Global). times x (indexes list.items)) lists

-- Why answers can't be collected: memory was refused, a request has no answer, or a request has
-- more than one.
abbrev pub IsCollectError : ℕ → List (Vec Reply Global) → ServeError → Type 0
IsCollectError count lists e =
    (e ≡ Memory)
    ⊎ (((index : ℕ) × (e ≡ Missing index) × (index < count) × (times_in index lists ≡ 0))
    ⊎ ((index : ℕ) × (e ≡ Twice index) × (1 < times_in index lists)))
