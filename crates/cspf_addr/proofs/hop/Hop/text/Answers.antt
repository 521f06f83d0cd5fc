use Rattle.std.proofs.Common.{◌≡◌, ap, ◌∙◌, sym, rules}
use Rattle.std.specs.String.{string_bytes}
use Rattle.cspf_addr.specs.HopText.{hop_of, hop_text}
use Rattle.cspf_addr.specs.Prefixes.{prefix_of}
use Rattle.cspf_addr.proofs.HopLemmas.{hop_of-written}
use Rattle.cspf_addr.proofs.hop.Hop.text.Goals as goal

pub returns-clause-read : goal.returns-clause-read
unfolding hop_text
returns-clause-read c =
    let written : string_bytes c.push.new.self ≡ hop_text c.args.self = search rules in
    ap hop_of written
    ∙ hop_of-written c.args.self
    (ap prefix_of (sym c.in_ok-text.ensures.value) ∙ c.in_ok-text.ensures.read)
