use Rattle.std.proofs.Common.{◌≡◌, ℕ, true, not, eqb, sym, ap, ◌∙◌}
use Rattle.std.proofs.lemmas.Bool.{eqb-false, not-true}
use Rattle.cspf_model.specs.declared.link.Link.{Link}
use Rattle.cspf_columns.proofs.ReverseColumn.{not_back}
use Rattle.cspf_columns.proofs.reverses.index_back.Goals.{then-ne-via-then-ne, then-ne-via-else-ne+then-ne-2}
use Rattle.cspf_columns.proofs.reverses.index_back.Goals as goal

-- if the test `eqb` fails for two numbers, they aren't equal
differ : (m n : ℕ) → not (eqb m n) ≡ true → m ≡ n → ⊥
differ m n off same = eqb-false m n (not-true _ off) same

pub returns-then-ne : goal.returns-then-ne
returns-then-ne c =
    let rows = c.args.rows.now in
    let l = c.args.link.now in
    not_back rows c.requires.by_key l c.args.at c.index-rows-at.result c.requires.within (c.requires.key c.index-rows-at.result)
    (λ is. elim c.then-ne.branch [
      | then-ne-via-then-ne w ↦ differ _ _ (sym c.ne.ensures ∙ w.if-ne.true) (ap (λ (r : Link). r.to) c.index-rows-at.is ∙ is.to)
      | then-ne-via-else-ne+then-ne-2 w ↦ differ _ _ (sym w.ne-else-ne.ensures ∙ w.if-ne-2.true) (ap (λ (r : Link). r.remote) c.index-rows-at.is ∙ is.remote)
    ])
