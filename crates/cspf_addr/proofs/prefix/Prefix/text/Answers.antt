use Rattle.std.proofs.Common.{◌≡◌, IfOk, Ok, ap, ◌∙◌, subst, rules}
use Rattle.std.proofs.lemmas.Result.{IfOk-weaker}
use Rattle.std.specs.String.{string_bytes}
use Rattle.cspf_addr.specs.PrefixParts.{IsPrefix}
use Rattle.cspf_addr.specs.Prefixes.{prefix_of, prefix_text}
use Rattle.cspf_addr.proofs.PrefixLemmas.{prefix_of-prefix_text}
use Rattle.cspf_addr.proofs.prefix.Prefix.text.Goals as goal

pub returns-clause-read : goal.returns-clause-read
unfolding prefix_text
returns-clause-read c =
    let proper = subst IsPrefix c.self.view_is c.self.invariant in
    let written : IfOk c.format.result (λ text. string_bytes text ≡ prefix_text c.args.self) = search rules in
    IfOk-weaker c.format.result (λ text. string_bytes text ≡ prefix_text c.args.self)
    (λ text. prefix_of (string_bytes text) ≡ Ok c.args.self)
    (λ text same. ap prefix_of same ∙ prefix_of-prefix_text c.args.self proper) written
