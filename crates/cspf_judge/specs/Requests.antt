-- Rows that ask, such as requests, and their ids.
use Rattle.std.specs.Prelude.{◌≡◌, ℕ, ◌+◌, List, ◌∷◌, ◌++◌, Contains, length, map, nat_eq}
use Rattle.std.specs.List.{IsDistinct}
use Rattle.cspf_model.specs.declared.request.Request.{Request}

-- `id_of` gives the id of a row
module _ {A : Type 0} (id_of : A → ℕ) where
  -- some row has this id
  abbrev pub IsAskedBy : List A → ℕ → Type 0
  IsAskedBy rows id = (q : A) × Contains rows q × (id_of q ≡ id)

  -- no two rows have the same id
  abbrev pub HaveOwnIdsBy : List A → Type 0
  HaveOwnIdsBy rows = IsDistinct nat_eq (map id_of rows)

  -- The row with this number, counted from 1, is the first row that has the id of an earlier row.
  pub record RepeatsIdBy (rows : List A) (place : ℕ) : Type 0 where
    pub before : List A
    pub q : A
    pub after : List A
    pub split : rows ≡ before ++ (q ∷ after)
    pub is_there : place ≡ length before + 1
    pub own : HaveOwnIdsBy before
    pub again : IsAskedBy before (id_of q)

-- some request has this id
abbrev pub IsAsked : List Request → ℕ → Type 0
IsAsked requests id = IsAskedBy (λ (q : Request). q.id) requests id

-- no two requests have the same id
abbrev pub HaveOwnIds : List Request → Type 0
HaveOwnIds requests = HaveOwnIdsBy (λ (q : Request). q.id) requests

-- The request with this number, counted from 1, is the first request that has the id of an earlier request.
abbrev pub RepeatsId : List Request → ℕ → Type 0
RepeatsId requests place = RepeatsIdBy (λ (q : Request). q.id) requests place
