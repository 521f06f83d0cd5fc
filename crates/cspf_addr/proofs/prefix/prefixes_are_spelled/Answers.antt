use Rattle.cspf_addr.proofs.PrefixLemmas.{prefix_texts_read, others_refused, prefix_of-prefix_text}
use Rattle.cspf_addr.proofs.prefix.prefixes_are_spelled.Goals as goal

pub returns : goal.returns
returns c =
    record { read = prefix_texts_read; refused = others_refused; back = prefix_of-prefix_text }
