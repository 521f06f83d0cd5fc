-- The words that name the reason for which a record is refused.
use Rattle.std.specs.Prelude.{ℕ, List, ◌++◌, codes}
use Rattle.std.specs.Fmt.{decimal}
use Rattle.cspf_addr.specs.declared.hop_reader.HopsError.TheVariants as hops
use Rattle.cspf_ero.specs.declared.ero_error.EroError.{EroError}
use Rattle.cspf_ero.specs.declared.ero_error.EroError.TheVariants as ero
use Rattle.cspf_rows.specs.declared.row_error.HopsFault.{HopsFault}
use Rattle.cspf_rows.specs.declared.row_error.HopsFault.TheVariants as fault
use Rattle.cspf_rows.specs.declared.row_error.RowError.{RowError}
use Rattle.cspf_rows.specs.declared.row_error.RowError.TheVariants as error

-- the words for an EXPLICIT_ROUTE object whose bytes spell no hops
abbrev pub ero_words : EroError → List ℕ
ero_words ero.Short = codes "short"
ero_words ero.Length = codes "length"
ero_words ero.Class = codes "class"
ero_words ero.Empty = codes "empty"
ero_words ero.TooManyHops = codes "count"
ero_words (ero.Unsupported at kind) = codes "unsupported"
ero_words (ero.Sublength at) = codes "sublength"
ero_words (ero.PrefixLength at) = codes "prefix-length"

-- The words for the reason why hops are refused. For a hop list they are the number of the first
-- bad hop, or `count` if there are too many hops. For an EXPLICIT_ROUTE object they say why the
-- object is refused.
abbrev pub hops_words : HopsFault → List ℕ
hops_words (fault.Text (hops.BadHop at)) = decimal at
hops_words (fault.Text hops.TooManyHops) = codes "count"
hops_words fault.Hex = codes "hex"
hops_words (fault.Ero why) = codes "ero " ++ ero_words why

-- the words for each reason why a record is no row
abbrev pub words : RowError → List ℕ
words error.Kind = codes "kind"
words error.Fields = codes "fields"
words (error.Number field) = codes "number " ++ decimal field
words (error.Address field) = codes "address " ++ decimal field
words (error.Mask field) = codes "mask " ++ decimal field
words error.Priority = codes "priority"
words (error.Hops fault) = codes "hops " ++ hops_words fault
words error.SelfLink = codes "self-link"
words error.SameEnds = codes "same-ends"
