use Rattle.std.proofs.Common.{◌++◌, length, codes, refl, ◌∙◌}
use Rattle.std.specs.Fmt.{decimal}
use Rattle.hex.proofs.HexLemmas.{length-encode_with}
use Rattle.hex.specs.Hex.{encode_lower, lower_digits}
use Rattle.cspf_model.specs.Walks.{cost_of}
use Rattle.cspf_ero.specs.Objects.{object_of}
use Rattle.cspf_ero.specs.ReplyLine.{measures_text}
use Rattle.cspf_ero.proofs.Lines.{line_pieces, line_most}
use Rattle.cspf_ero.proofs.reply.route_line.Goals as goal

pub returns-clause-line : goal.returns-clause-line
returns-clause-line c =
    let links = c.args.route.now in
    let (again, twice, front) = c.in_ok-front.ensures.words in
    let words = measures_text (cost_of links) (length links) again in (
      words ++ encode_lower (object_of links),
      record { again = again; twice = twice; words = refl },
      c.in_ok-push.ensures.items
          ∙ rw (c.in_ok-write_digits.ensures, c.into_bytes-line.ensures.value, front, c.as_slice.ensures.value, c.in_ok-object.ensures.object)
          (line_pieces (c.args.word.now ++ codes " " ++ decimal c.args.id ++ codes " v" ++ decimal c.args.version ++ codes " ") words (encode_lower (object_of links)) (codes "\n")),
    )

pub returns-clause-most : goal.returns-clause-most
returns-clause-most c =
    rw (c.in_ok-push.ensures.items, c.in_ok-write_digits.ensures, c.into_bytes-line.ensures.value, c.as_slice.ensures.value)
    (line_most c.args.word.now _ _ c.in_ok-object.object.items c.in_ok-front.ensures.most c.in_ok-object.ensures.most (length-encode_with lower_digits c.in_ok-object.object.items))
