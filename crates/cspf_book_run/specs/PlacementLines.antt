-- The lines about single placements: `held` and `offer` rows, and rows that only look. Each line ends
-- with one line feed.
use Rattle.std.specs.Prelude.{◌≡◌, ℕ, List, ◌++◌, codes, map, length}
use Rattle.std.specs.Fmt.{decimal}
use Rattle.std.specs.List.{flat_map, join_with_byte}
use Rattle.cspf_addr.specs.AddressText.{address_text}
use Rattle.cspf_model.specs.Best.{Answer}
use Rattle.cspf_ero.specs.ReplyLine.{IsReply}
use Rattle.cspf_book.specs.declared.link_figures.LinkFigures.{LinkFigures}
use Rattle.cspf_book.specs.declared.path.Passed.{Passed}
use Rattle.cspf_book.specs.declared.placement.Placement.{Placement}
use Rattle.cspf_book_run.specs.BookLines.{place_words}
use Rattle.cspf_book_run.specs.WriteFaultWords.{write_fault_words}
use Rattle.cspf_book_run.specs.declared.held_refusal.HeldRefusal.{HeldRefusal}
use Rattle.cspf_book_run.specs.declared.held_refusal.HeldRefusal.TheVariants as held
use Rattle.cspf_book_run.specs.declared.refusals.PlaceRefusal.{PlaceRefusal}

-- the line of a restored placement: its id, and the version that it makes
abbrev pub held_line : ℕ → ℕ → List ℕ
held_line id version = codes "held " ++ decimal id ++ codes " v" ++ decimal version ++ codes "\n"

-- the words that say why a placement isn't restored
abbrev pub held_words : HeldRefusal → List ℕ
held_words held.Stopped = codes "stopped"
held_words held.Exhausted = codes "exhausted"
held_words held.SameId = codes "same-id"
held_words held.Full = codes "full"
held_words held.Long = codes "long"
held_words held.Twice = codes "twice"
held_words held.Links = codes "links"
held_words held.Memory = codes "memory"
held_words (held.Failed fault) = write_fault_words fault

-- the line that says why the placement with this id isn't restored
abbrev pub refused_held_line : ℕ → HeldRefusal → List ℕ
refused_held_line id why = codes "held " ++ decimal id ++ codes " refused: " ++ held_words why ++ codes "\n"

-- The line that answers an `offer` row is the reply line of the request, with the word `offer`
-- instead of `ask`.
abbrev pub IsOfferReply : ℕ → ℕ → Answer → List ℕ → Type 0
IsOfferReply id version answer line = (rest : List ℕ) × IsReply id version answer (codes "ask" ++ rest) × (line ≡ codes "offer" ++ rest)

-- the line that says why the request with this id wouldn't be placed
abbrev pub refused_offer_line : ℕ → PlaceRefusal → List ℕ
refused_offer_line id why = codes "offer " ++ decimal id ++ codes " refused: " ++ place_words why ++ codes "\n"

-- a space and the key of a link: the router at which it begins, and its interface there
abbrev pub link_item : Passed → List ℕ
link_item l = codes " " ++ address_text l.from ++ codes "," ++ address_text l.local

-- The ends of a placement, its holding priority, its bandwidth in bytes per second, and the number
-- of its links.
abbrev pub shown_attributes : Placement → List ℕ
shown_attributes p =
    codes " from=" ++ address_text p.request.from ++ codes " to=" ++ address_text p.request.to ++ codes " hold=" ++ decimal p.hold
    ++ codes " bandwidth=" ++ decimal p.request.bandwidth ++ codes " links=" ++ decimal (length p.route)

-- the line that shows a placement of the book, which has this version; after the attributes come the
-- keys of the links in order
abbrev pub show_line : ℕ → Placement → List ℕ
show_line version p =
    codes "show " ++ decimal p.request.id ++ codes " v" ++ decimal version ++ shown_attributes p ++ flat_map link_item p.route ++ codes "\n"

-- the line which says that there is no placement with this id
abbrev pub refused_show_line : ℕ → List ℕ
refused_show_line id = codes "show " ++ decimal id ++ codes " refused: absent\n"

-- bandwidths, separated by commas
abbrev pub figures_text : List ℕ → List ℕ
figures_text figures = join_with_byte 44 (map decimal figures)

-- the front of the line that shows a link: the link's key, and the version of the book
abbrev pub left_front : ℕ → ℕ → ℕ → List ℕ
left_front from local version =
    codes "left " ++ address_text from ++ codes "," ++ address_text local ++ codes " v" ++ decimal version

-- the line that shows the figures of a link of the base, in bytes per second at the priorities 0 to 7
abbrev pub left_line : ℕ → ℕ → ℕ → LinkFigures → List ℕ
left_line from local version figures =
    left_front from local version ++ codes " base=" ++ figures_text figures.base ++ codes " counted=" ++ figures_text figures.counted
    ++ codes " left=" ++ figures_text figures.left ++ codes "\n"

-- the line which says that the base has no link with this key
abbrev pub refused_left_line : ℕ → ℕ → List ℕ
refused_left_line from local = codes "left " ++ address_text from ++ codes "," ++ address_text local ++ codes " refused: absent\n"
