use Rattle.std.proofs.Common.{◌++◌, ◌∙◌, ap, map}
use Rattle.std.proofs.lemmas.List.{map-append}
use Rattle.routed.proofs.client_list.client_words.Goals as goal

-- the given words come first, and the lines of the text follow them
pub returns : goal.returns
returns c =
    ap (map (λ word. word.now)) c.in_ok-extend_from_slice.ensures.items
    ∙ rw (c.in_ok-words.ensures.items, c.deref.ensures.value) (map-append (λ word. word.now) c.args.given.now c.in_ok-lines.lines.items)
    ∙ ap (λ found. map (λ word. word.now) c.args.given.now ++ found) c.in_ok-lines.ensures
