use Rattle.std.proofs.Common.{append_assoc}
use Rattle.std.specs.Fmt.{decimal}
use Rattle.cspf_ero.proofs.Lines.{short_most, id_digits, version_digits}
use Rattle.cspf_ero.proofs.reply.short_line.Goals as goal

pub returns-clause-line : goal.returns-clause-line
returns-clause-line c = rw (c.into_bytes.ensures.value, c.in_ok-format.ensures.ok) (simp append_assoc)

pub returns-clause-most : goal.returns-clause-most
returns-clause-most c =
    let written = c.in_ok-format.ensures.ok in
    rw (c.into_bytes.ensures.value, written)
    (short_most c.args.word.now (decimal c.args.id) (decimal c.args.version) c.args.words.now (id_digits c.args.id c.ranges.id.fits) (version_digits c.args.version c.ranges.version.fits) c.requires)
