-- The attributes of a link make this same link again, and the attributes of a request make this
-- same request again.
use Rattle.std.proofs.Common.{◌≡◌, suc, ◌<◌, length, Ok, Err, refl, subst}
use Rattle.std.proofs.Math.Decide.{ℕ_discrete, dec_le}
use Rattle.std.proofs.Math.Nat.{ℕ_set}
use Rattle.std.proofs.Math.Bridge.{le_prop}
use mathlib.Core.HLevel.{¬_prop}
use Rattle.cspf_model.specs.Fields.{LinkFields, RequestFields, HasLinkFields, HasRequestFields, AreFieldsOfLinks, AreFieldsOfRequests, fields_of_link, fields_of_request}
use Rattle.cspf_model.specs.declared.link.Link.{Link}
use Rattle.cspf_model.specs.declared.request.Request.{Request}
use Rattle.cspf_rows.specs.declared.row.Row.TheVariants as row
use Rattle.cspf_rows.specs.declared.row_error.RowError.TheVariants as error
use Rattle.cspf_rows.specs.Rows.{link_with, request_with, put_between, put, ask_between, ask}

-- From the attributes of a link, `put_between` makes a row that puts this link. This holds for each
-- proof `eight` that there are eight bandwidths. It also holds for each decision `ends` on whether
-- both endpoints are the same router.
pub put_between-link : (l : Link) (eight : length l.free ≡ 8) (ends : Dec (l.from ≡ l.to)) → put_between (fields_of_link l) eight ends ≡ Ok (row.Put l)
put_between-link l eight (yes same) = absurd (l.two_ends same)
put_between-link l eight (no apart) = λ i.
    Ok (row.Put (link_with (fields_of_link l) (ℕ_set (length l.free) 8 eight l.eight i) (¬_prop apart l.two_ends i)))

pub put-attributes : (l : Link) (eight : length l.free ≡ 8) → put (fields_of_link l) eight ≡ Ok (row.Put l)
unfolding put
put-attributes l eight = put_between-link l eight (ℕ_discrete l.from l.to)

-- from the attributes of a link, `put` makes a row that puts this link
pub put-link : AreFieldsOfLinks → (l : Link) (fields : LinkFields) (eight : length fields.free ≡ 8) → HasLinkFields l fields → put fields eight ≡ Ok (row.Put l)
put-link links l fields eight h =
    subst (λ (a : LinkFields). (e : length a.free ≡ 8) → put a e ≡ Ok (row.Put l)) ((links l fields).0 h) (put-attributes l) eight

pub put_between-self : (fields : LinkFields) (eight : length fields.free ≡ 8) (ends : Dec (fields.from ≡ fields.to)) → fields.from ≡ fields.to → put_between fields eight ends ≡ Err error.SelfLink
put_between-self fields eight (yes same) one = refl
put_between-self fields eight (no apart) one = absurd (apart one)

-- a link from a router to itself is refused
pub put-self : (fields : LinkFields) (eight : length fields.free ≡ 8) → fields.from ≡ fields.to → put fields eight ≡ Err error.SelfLink
unfolding put
put-self fields eight one = put_between-self fields eight (ℕ_discrete fields.from fields.to) one

-- From the fields of a request, `ask_between` makes a row that asks for this request. This holds
-- for each decision `low` on whether the setup priority is below 8. It also holds for each decision
-- `ends` on whether both endpoints are the same router.
pub ask_between-request : (q : Request) (low : Dec (q.setup < 8)) (ends : Dec (q.from ≡ q.to)) → ask_between (fields_of_request q) low ends ≡ Ok (row.Ask q)
ask_between-request q (no above) ends = absurd (above q.priority)
ask_between-request q (yes below) (yes same) = absurd (q.two_ends same)
ask_between-request q (yes below) (no apart) = λ i.
    Ok (row.Ask (request_with (fields_of_request q) (le_prop below q.priority i) (¬_prop apart q.two_ends i)))

pub ask-fields : (q : Request) → ask (fields_of_request q) ≡ Ok (row.Ask q)
unfolding ask
ask-fields q = ask_between-request q (dec_le (suc q.setup) 8) (ℕ_discrete q.from q.to)

-- from the fields of a request, `ask` makes a row that asks for this request
pub ask-request : AreFieldsOfRequests → (q : Request) (fields : RequestFields) → HasRequestFields q fields → ask fields ≡ Ok (row.Ask q)
ask-request requests q fields h = subst (λ (a : RequestFields). ask a ≡ Ok (row.Ask q)) ((requests q fields).0 h) (ask-fields q)

pub ask_between-same : (fields : RequestFields) (low : Dec (fields.setup < 8)) (ends : Dec (fields.from ≡ fields.to)) → fields.setup < 8 → fields.from ≡ fields.to
    → ask_between fields low ends ≡ Err error.SameEnds
ask_between-same fields (no above) ends below one = absurd (above below)
ask_between-same fields (yes low) (yes same) below one = refl
ask_between-same fields (yes low) (no apart) below one = absurd (apart one)

-- a request from a router to itself is refused
pub ask-same : (fields : RequestFields) → fields.setup < 8 → fields.from ≡ fields.to → ask fields ≡ Err error.SameEnds
unfolding ask
ask-same fields below one = ask_between-same fields (dec_le (suc fields.setup) 8) (ℕ_discrete fields.from fields.to) below one

pub ruleset refused_ends = (put-self, ask-same)
