-- Private: the error that names the first answer whose version isn't allowed.
use Rattle.std.specs.Prelude.{◌≡◌, ℕ, List, take, Some, slice_get, All}
use Rattle.cspf_publish.specs.declared.answer.Answer.{Answer}
use Rattle.cspf_work.specs.declared.serve_error.ServeError.{ServeError}
use Rattle.cspf_work.specs.declared.serve_error.ServeError.TheVariants.{Unaccounted}

-- The error has the index and the version of the first answer in the list whose version isn't
-- allowed. `MayBe` says which versions are allowed.
pub record IsFirstStray (list : List Answer) (MayBe : ℕ → Type 0) (e : ServeError) : Type 0 where
  pub index : ℕ
  pub answer : Answer
  pub names : e ≡ Unaccounted index answer.version
  pub there : slice_get list index ≡ Some answer
  pub before : All (λ a. MayBe a.version) (take index list)
  pub stray : MayBe answer.version → ⊥
