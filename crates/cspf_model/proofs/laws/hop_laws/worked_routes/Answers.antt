use Rattle.cspf_model.proofs.Routes.ExampleRoutes.{six_links_found, three_links_found, may_stand_at_owners, may_not_stand_elsewhere, may_stand_anywhere, is_outside_before_inside, may_be_empty, may_be_met_by_any_link}
use Rattle.cspf_model.proofs.laws.hop_laws.worked_routes.Goals as goal

pub returns : goal.returns
returns c = assumption (six_links_found, three_links_found, may_stand_at_owners, may_not_stand_elsewhere, may_stand_anywhere, is_outside_before_inside, may_be_empty, may_be_met_by_any_link)
