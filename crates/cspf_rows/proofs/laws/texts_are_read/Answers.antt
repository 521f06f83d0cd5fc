use Rattle.cspf_rows.proofs.laws.texts_are_read.Goals as goal

pub returns : goal.returns
returns c = record {
  numbers = c.numbers_are_spelled_once.ensures;
  addresses = c.addresses_are_spelled_once.ensures.read;
  masks = c.masks_are_spelled.ensures.read;
  objects = c.objects_are_read.ensures.read;
  links = c.fields_of_links_and_requests.ensures.links;
}
