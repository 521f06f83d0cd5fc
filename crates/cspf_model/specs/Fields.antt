-- The fields of links and requests, and the faults for which requests are refused.
use Rattle.std.specs.Prelude.{◌≡◌, ◌<◌, ◌≤◌, ◌↔◌, ℕ, List}
use Rattle.cspf_addr.specs.declared.hop.Hop.{Hop}
use Rattle.cspf_model.specs.declared.link.Link.{Link}
use Rattle.cspf_model.specs.declared.request.Request.{Request}
use Rattle.cspf_model.specs.declared.request.RequestError.{RequestError}
use Rattle.cspf_model.specs.declared.request.RequestError.TheVariants.{Priority, SameEnds}

-- The attributes of a link. The type `Link` contains, besides them, proofs that a link has eight
-- bandwidths and joins two different routers.
pub record LinkFields : Type 0 where
  pub from : ℕ
  pub local : ℕ
  pub to : ℕ
  pub remote : ℕ
  pub metric : ℕ
  pub group : ℕ
  pub free : List ℕ

-- The link has these attributes.
pub record HasLinkFields (link : Link) (fields : LinkFields) : Type 0 where
  pub from : link.from ≡ fields.from
  pub local : link.local ≡ fields.local
  pub to : link.to ≡ fields.to
  pub remote : link.remote ≡ fields.remote
  pub metric : link.metric ≡ fields.metric
  pub group : link.group ≡ fields.group
  pub free : link.free ≡ fields.free

-- The attributes of this link.
abbrev pub fields_of_link : Link → LinkFields
fields_of_link l = record {
  from = l.from;
  local = l.local;
  to = l.to;
  remote = l.remote;
  metric = l.metric;
  group = l.group;
  free = l.free;
}

-- Each link has exactly the attributes that `fields_of_link` gives.
abbrev pub AreFieldsOfLinks : Type 0
AreFieldsOfLinks =
    (l : Link) (fields : LinkFields) → HasLinkFields l fields ↔ (fields_of_link l ≡ fields)

-- The fields of a request. The type `Request` contains, besides them, proofs that the setup
-- priority is at most 7, and that head-end and tail-end are different routers.
pub record RequestFields : Type 0 where
  pub id : ℕ
  pub from : ℕ
  pub to : ℕ
  pub setup : ℕ
  pub bandwidth : ℕ
  pub exclude_any : ℕ
  pub include_any : ℕ
  pub include_all : ℕ
  pub hops : List Hop

-- The fields of a request, given in the order of the parameters of `Request::new`.
abbrev pub request_fields : ℕ → ℕ → ℕ → ℕ → ℕ → ℕ → ℕ → ℕ → List Hop → RequestFields
request_fields id from to setup bandwidth exclude_any include_any include_all hops = record {
  id = id;
  from = from;
  to = to;
  setup = setup;
  bandwidth = bandwidth;
  exclude_any = exclude_any;
  include_any = include_any;
  include_all = include_all;
  hops = hops;
}

-- The request has these fields.
pub record HasRequestFields (q : Request) (fields : RequestFields) : Type 0 where
  pub id : q.id ≡ fields.id
  pub from : q.from ≡ fields.from
  pub to : q.to ≡ fields.to
  pub setup : q.setup ≡ fields.setup
  pub bandwidth : q.bandwidth ≡ fields.bandwidth
  pub exclude_any : q.exclude_any ≡ fields.exclude_any
  pub include_any : q.include_any ≡ fields.include_any
  pub include_all : q.include_all ≡ fields.include_all
  pub hops : q.hops ≡ fields.hops

-- The fields of this request.
abbrev pub fields_of_request : Request → RequestFields
fields_of_request q =
    request_fields q.id q.from q.to q.setup q.bandwidth q.exclude_any q.include_any q.include_all q.hops

-- Each request has exactly the fields that `fields_of_request` gives.
abbrev pub AreFieldsOfRequests : Type 0
AreFieldsOfRequests =
    (q : Request) (fields : RequestFields) → HasRequestFields q fields ↔ (fields_of_request q ≡ fields)

-- The reason why no request can have these fields. Either the setup priority is above 7, or it is
-- at most 7 and the head-end is also the tail-end.
abbrev pub IsRequestFault : RequestFields → RequestError → Type 0
IsRequestFault fields Priority = 7 < fields.setup
IsRequestFault fields SameEnds = (fields.setup ≤ 7) × (fields.from ≡ fields.to)
