use Rattle.std.proofs.Common.{◌≡◌, ◌++◌, ◌∷◌, codes, sym, ap, ◌∙◌, rules}
use Rattle.std.specs.Fmt.{decimal}
use Rattle.cspf_ero.proofs.HeadReading.{starts_whole, head_whole}
use Rattle.cspf_ero.proofs.head.reply_head.Goals as goal

pub returns-clause-some : goal.returns-clause-some
returns-clause-some c =
    let ask = c.in_ok-strip_prefix.ensures.cases in
    let v = c.in_ok-strip_prefix-2.ensures.cases in
    let same : c.in_ok-version.version ≡ c.in_ok-version-2.version = search rules in record {
      id = c.in_ok-id.ensures.small;
      version = search rules;
      rest = c.in_ok-version._words.now;
      whole =
          head_whole c.args.line.now c.in_ok-strip_prefix.field-0.now c.in_ok-id.behind.now c.in_ok-version._words.now c.in_ok-id.id c.in_ok-version-2.version
          (starts_whole (codes "ask ") c.args.line.now ask.0 ∙ ap (λ rest. codes "ask " ++ rest) (sym ask.1)) c.in_ok-id.ensures.whole
          (starts_whole (codes "v") c.in_ok-id.behind.now v.0 ∙ ap (λ rest. codes "v" ++ rest) (sym v.1 ∙ c.in_ok-version.ensures.whole ∙ ap (λ n. decimal n ++ 32 ∷ c.in_ok-version._words.now) same));
    }
