-- Rows that only look: they leave the state of a run as it is, but for the count of refusals.
use Rattle.std.proofs.Common.{◌≡◌, ◌⊎◌, ℕ, List, Option, Some, None, inl, inr, sym, ap, ◌∙◌}
use Rattle.cspf_model.specs.Database.{Key}
use Rattle.cspf_book.specs.declared.link_figures.LinkFigures.{LinkFigures}
use Rattle.cspf_book.specs.declared.placement.Placement.{Placement}
use Rattle.cspf_book_run.specs.BookScript.{BookRunState, after_refusal, IsShown, IsLeftShown}

-- A row only looks: the state stays, or a refusal is counted.
abbrev pub Looks : BookRunState → BookRunState → Type 0
Looks s t = (t ≡ s) ⊎ (t ≡ after_refusal s)

pub shown_looks : (s t : BookRunState) (id : ℕ) (found : Option Placement) (line : List ℕ) → IsShown s id found line t → Looks s t
shown_looks s t id (Some p) line a = inl a.1
shown_looks s t id None line a = inr a.1

pub left_looks : (s t : BookRunState) (k : Key) (found : Option LinkFigures) (line : List ℕ) → IsLeftShown s k found line t → Looks s t
left_looks s t k (Some figures) line a = inl a.1
left_looks s t k None line a = inr a.1

-- A row that only looks changes nothing that a refusal leaves as it is.
pub look_same : {A : Type 0} (f : BookRunState → A) (s t : BookRunState) → f (after_refusal s) ≡ f s → Looks s t → f t ≡ f s
look_same f s t refused (inl same) = ap f same
look_same f s t refused (inr after) = ap f after ∙ refused

pub shown_once : (s : BookRunState) (id : ℕ) (found : Option Placement) (l m : List ℕ) (t u : BookRunState) → IsShown s id found l t → IsShown s id found m u → (l ≡ m) × (t ≡ u)
shown_once s id (Some p) l m t u a b = (a.0 ∙ sym b.0, a.1 ∙ sym b.1)
shown_once s id None l m t u a b = (a.0 ∙ sym b.0, a.1 ∙ sym b.1)

pub left_once : (s : BookRunState) (k : Key) (found : Option LinkFigures) (l m : List ℕ) (t u : BookRunState) → IsLeftShown s k found l t → IsLeftShown s k found m u → (l ≡ m) × (t ≡ u)
left_once s k (Some figures) l m t u a b = (a.0 ∙ sym b.0, a.1 ∙ sym b.1)
left_once s k None l m t u a b = (a.0 ∙ sym b.0, a.1 ∙ sym b.1)
