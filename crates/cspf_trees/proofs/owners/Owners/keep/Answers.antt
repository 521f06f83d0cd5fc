use Rattle.std.proofs.lemmas.List.Elements.{All-set}
use Rattle.cspf_trees.specs.OwnerRows.{HasOwnerOf}
use Rattle.cspf_trees.proofs.owners.Owners.keep.Goals as goal

pub returns-then-fill : goal.returns-then-fill
returns-then-fill c = λ d sole are. All-set (HasOwnerOf d c.fill.new.self.generation) _ _ _ (λ now. sole) (c.fill.ensures.owners d are)

pub returns-else-fill : goal.returns-else-fill
returns-else-fill c = λ d sole are. c.fill.ensures.owners d are
