use Rattle.cspf_model.proofs.Routes.FieldRecords.{links_said, requests_said}
use Rattle.cspf_model.proofs.laws.fields_of_links_and_requests.Goals as goal

pub returns : goal.returns
returns c = record { links = links_said; requests = requests_said }
