use Rattle.std.proofs.Common.{◌<◌, All, length, ap, subst, sym, arith, rules}
use Rattle.cspf_trees.specs.TreeRows.{HasTreeOf}
use Rattle.cspf_trees.specs.Trees.{AreTreesOf}
use Rattle.cspf_trees.proofs.trees.Trees.ask_row.Goals as goal

pub returns-then-not-fill-clause-trees : goal.returns-then-not-fill-clause-trees
returns-then-not-fill-clause-trees c = c.fill.ensures.trees c.args.table.now c.requires

pub ask-asked-requires-clause-row : goal.ask-asked-requires-clause-row
unfolding AreTreesOf
ask-asked-requires-clause-row c =
    let are : AreTreesOf c.args.table.now c.fill.new.self = c.fill.ensures.trees c.args.table.now c.requires in
    let rows : All (HasTreeOf c.args.table.now c.fill.new.self.generation) c.fill.new.self.rows.items = are.0 in
    let row = c.index_mut-row.result.now in
    let within : c.find-at.result < length c.fill.new.self.rows.items = omega (arith, c.find-at.ensures, ap length c.deref.ensures.value) in
    subst (HasTreeOf c.args.table.now c.fill.new.self.generation) (sym c.index_mut-row.ensures.value) (rows c.find-at.result row within)

pub returns-then-asked-clause-trees : goal.returns-then-asked-clause-trees
unfolding AreTreesOf
returns-then-asked-clause-trees c =
    let are : AreTreesOf c.args.table.now c.fill.new.self = c.fill.ensures.trees c.args.table.now c.requires in
    let rows : All (HasTreeOf c.args.table.now c.fill.new.self.generation) c.fill.new.self.rows.items = are.0 in
    (search rules, are.1)

pub returns-else-asked-clause-trees : goal.returns-else-asked-clause-trees
unfolding AreTreesOf
returns-else-asked-clause-trees c =
    let are : AreTreesOf c.args.table.now c.fill.new.self = c.fill.ensures.trees c.args.table.now c.requires in
    let rows : All (HasTreeOf c.args.table.now c.fill.new.self.generation) c.fill.new.self.rows.items = are.0 in
    (search rules, are.1)
