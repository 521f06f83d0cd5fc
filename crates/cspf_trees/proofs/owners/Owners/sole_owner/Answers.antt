use Rattle.cspf_trees.proofs.owners.Owners.sole_owner.Goals as goal

pub returns-clause-owners : goal.returns-clause-owners
returns-clause-owners c = c.keep.ensures c.args.table.now (rw c.in-Some-2.is at c.in_ok-router.ensures) c.requires
