use Rattle.std.proofs.Common.{◌≡◌, ◌+◌, eqb, sym, ap, ◌∙◌, rules}
use Rattle.std.proofs.lemmas.List.Splits.{length-slice_split}
use Rattle.std.specs.List.{count_by}
use Rattle.cspf_addr.specs.HopLists.{parts_of}
use Rattle.cspf_questions.proofs.field.part_count.Goals as goal

pub returns : goal.returns
unfolding parts_of
returns c =
    let spaces : c.count.result ≡ count_by (λ byte. eqb byte 32) c.args.text.now = search rules in
    ap (λ n. n + 1) spaces ∙ sym (length-slice_split (λ byte. eqb byte 32) c.args.text.now)
