-- The error names the first answer whose version isn't published.
use Rattle.std.proofs.Common.{◌≡◌, ℕ, ◌≤◌, List, length, rules}
use Rattle.std.proofs.lemmas.Bool.{cases_lt}
use Rattle.std.proofs.lemmas.Option.{slice_get_within}
use Rattle.cspf_publish.specs.declared.answer.Answer.{Answer}
use Rattle.cspf_work.specs.declared.serve_error.ServeError.{ServeError}
use Rattle.cspf_work.specs.Served.{IsUnaccounted}
use Rattle.cspf_work.specs.Strays.{IsFirstStray}

-- the error gives the index of a request, and a version above the published versions
pub unaccounted_of : (list : List Answer) (requests published : ℕ) (e : ServeError) → length list ≡ requests
    → IsFirstStray list (λ v. (0 ≤ v) × (v ≤ published)) e → IsUnaccounted requests published e
unaccounted_of list requests published e count is = search (rules, cases_lt, slice_get_within)
