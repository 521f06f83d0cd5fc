-- The bandwidths of a link of the base, the bandwidth that the placements count on it, and what they
-- leave.
use Rattle.std.specs.Prelude.{Option, List, map}
use Rattle.std.specs.Option.{option_map}
use Rattle.cspf_model.specs.declared.link.Link.{Link}
use Rattle.cspf_model.specs.Database.{Database, Key, key_of, link_at}
use Rattle.cspf_book.specs.declared.link_figures.LinkFigures.{LinkFigures}
use Rattle.cspf_book.specs.declared.placement.Placement.{Placement}
use Rattle.cspf_book.specs.Placements.{counted}
use Rattle.cspf_book.specs.Effective.{effective_link}
use Rattle.cspf_book.specs.OverLinks.{priorities}

-- the figures of a link at the priorities 0 to 7
abbrev pub figures_of : List Placement → Link → LinkFigures
figures_of placements l = record {
  base = l.free;
  counted = map (counted placements (key_of l)) priorities;
  left = (effective_link placements l).free;
}

-- the figures of the base's link with this key; nothing if the base has no such link
abbrev pub figures_at : Database → List Placement → Key → Option LinkFigures
figures_at base placements k = option_map (figures_of placements) (link_at base k)
