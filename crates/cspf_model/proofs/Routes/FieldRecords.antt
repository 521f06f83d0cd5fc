-- Which attributes a link has, and which fields a request has.
use Rattle.std.proofs.Common.{subst, rules}
use Rattle.cspf_model.specs.Fields.{HasLinkFields, HasRequestFields, AreFieldsOfLinks, AreFieldsOfRequests}

-- A link has exactly the attributes that `fields_of_link` gives for it.
pub links_said : AreFieldsOfLinks
links_said l fields = (λ has. search rules, λ same. subst (HasLinkFields l) same (search rules))

-- A request has exactly the fields that `fields_of_request` gives for it.
pub requests_said : AreFieldsOfRequests
requests_said q fields = (λ says. search rules, λ same. subst (HasRequestFields q) same (search rules))
