use Rattle.std.proofs.Common.{sym, subst, arith}
use Rattle.std.specs.List.Sorted.{IsNonDecreasing}
use Rattle.cspf_book.specs.ById.{IsIndexIn}
use Rattle.cspf_book.proofs.ById.{index_by_version, index_behind}
use Rattle.cspf_book.proofs.versions.Ids.index_of.Goals as goal

pub returns-in-Some : goal.returns-in-Some
returns-in-Some c = λ version placements are.
    index_by_version c.args.self.now version placements c.args.id c.in-Some.version.now c.index_in.result are (sym c.in-Some.ensures.value)
    (subst (λ vs. IsNonDecreasing vs → IsIndexIn vs c.in-Some.version.now c.index_in.result) c.deref.ensures.value c.index_in.ensures)

pub returns-in-None : goal.returns-in-None
returns-in-None c = λ version placements are.
    let behind = index_behind c.args.self.now version placements c.args.id are (sym c.in-None.ensures.value) in
    omega (arith, behind, c.args.self.now.versions.ok.0, c.len.ensures)
