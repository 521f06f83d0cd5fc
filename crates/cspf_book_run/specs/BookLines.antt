-- The lines that only a run of a book writes. Each line ends with one line feed.
use Rattle.std.specs.Prelude.{◌≡◌, ℕ, List, ◌++◌, codes}
use Rattle.std.specs.Fmt.{decimal}
use Rattle.cspf_addr.specs.AddressText.{address_text}
use Rattle.cspf_model.specs.Best.{Answer}
use Rattle.cspf_ero.specs.ReplyLine.{IsReply}
use Rattle.cspf_book.specs.declared.over.Over.{Over}
use Rattle.cspf_book_run.specs.WriteFaultWords.{write_fault_words}
use Rattle.cspf_book_run.specs.declared.refusals.PlaceRefusal.{PlaceRefusal}
use Rattle.cspf_book_run.specs.declared.refusals.PlaceRefusal.TheVariants as place
use Rattle.cspf_book_run.specs.declared.refusals.ReleaseRefusal.{ReleaseRefusal}
use Rattle.cspf_book_run.specs.declared.refusals.ReleaseRefusal.TheVariants as release

-- the line which reports that the placements count more bandwidth on this link at this priority
-- than the link has
abbrev pub over_line : Over → List ℕ
over_line o = codes "over " ++ address_text o.from ++ codes "," ++ address_text o.local ++ codes " " ++ decimal o.priority ++ codes "\n"

-- the line of the placement with this id, whose route the base no longer admits
abbrev pub lost_line : ℕ → List ℕ
lost_line id = codes "lost " ++ decimal id ++ codes "\n"

-- the line of an accepted base batch: its number, and the version that it makes
abbrev pub base_line : ℕ → ℕ → List ℕ
base_line number version = codes "base " ++ decimal number ++ codes " v" ++ decimal version ++ codes "\n"

-- The line that answers a `place` row is the reply line of the request, with the word `place`
-- instead of `ask`.
abbrev pub IsPlaceReply : ℕ → ℕ → Answer → List ℕ → Type 0
IsPlaceReply id version answer line = (rest : List ℕ) × IsReply id version answer (codes "ask" ++ rest) × (line ≡ codes "place" ++ rest)

-- the line of a released placement: its id, and the version that the release makes
abbrev pub released_line : ℕ → ℕ → List ℕ
released_line id version = codes "released " ++ decimal id ++ codes " v" ++ decimal version ++ codes "\n"

-- the words that say why a request isn't placed
abbrev pub place_words : PlaceRefusal → List ℕ
place_words place.Stopped = codes "stopped"
place_words place.Exhausted = codes "exhausted"
place_words place.Full = codes "full"
place_words place.Links = codes "links"
place_words place.Twice = codes "twice"
place_words place.Long = codes "long"
place_words place.Memory = codes "memory"
place_words (place.Failed fault) = write_fault_words fault

-- the line that says why the request with this id isn't placed
abbrev pub refused_place_line : ℕ → PlaceRefusal → List ℕ
refused_place_line id why = codes "place " ++ decimal id ++ codes " refused: " ++ place_words why ++ codes "\n"

-- the words that say why no placement is released
abbrev pub release_words : ReleaseRefusal → List ℕ
release_words release.Stopped = codes "stopped"
release_words release.Exhausted = codes "exhausted"
release_words release.Absent = codes "absent"
release_words release.Memory = codes "memory"
release_words (release.Failed fault) = write_fault_words fault

-- the line that says why no placement with this id is released
abbrev pub refused_release_line : ℕ → ReleaseRefusal → List ℕ
refused_release_line id why = codes "release " ++ decimal id ++ codes " refused: " ++ release_words why ++ codes "\n"
