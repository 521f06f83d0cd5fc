use Rattle.std.proofs.Common.{sym, ap, ◌∙◌, arith}
use Rattle.std.specs.Ordering.{is_eq}
use Rattle.std.proofs.lemmas.List.{get_or_read}
use Rattle.cspf_model.specs.declared.link.Link.{Link}
use Rattle.cspf_model.specs.Database.{key_of, key_cmp}
use Rattle.cspf_columns.proofs.MergedRows.{above_next}
use Rattle.cspf_columns.proofs.merging.is_at.Goals as goal
use Rattle.cspf_columns.proofs.merging.is_at.Goals.{else-next-rows-via-then-next-rows+else-is_eq, else-next-rows-via-else-next-rows}

pub returns-clause-above : goal.returns-clause-above
returns-clause-above c _ =
    let rows = c.args.rows.now in
    let next = c.args.next in
    above_next rows next (c.args.from, c.args.local) c.requires.by_key c.requires.stop (λ h d.
    elim c.else-next-rows.branch [
      | else-next-rows-via-then-next-rows+else-is_eq w ↦
          let read = get_or_read rows next w.index-rows-next.result h w.index-rows-next.is d in
          ap (λ (l : Link). is_eq (key_cmp (key_of l) (c.args.from, c.args.local))) (sym read) ∙ ap is_eq (sym w.compare.ensures) ∙ sym w.is_eq.ensures ∙ w.if-is_eq.false
      | else-next-rows-via-else-next-rows w ↦ absurd (omega (arith, h, w.if-next-rows.false))
    ])
