-- How an exclusion is written: a prefix, and then the letter of a kind.
use Rattle.std.specs.Prelude.{ℕ, ◌-◌, ◌==◌, if◌then◌else◌, List, length, take, slice_index, Option, Some, None}
use Rattle.std.specs.Result.{result_ok}
use Rattle.cspf_addr.specs.OptionSteps.{◌>>=◌}
use Rattle.cspf_addr.specs.Prefixes.{prefix_of}
use Rattle.cspf_exclusions.specs.declared.exclusion.Exclusion.{Exclusion}
use Rattle.cspf_exclusions.specs.declared.exclusion.ExclusionKind.{ExclusionKind}
use Rattle.cspf_exclusions.specs.declared.exclusion.ExclusionKind.TheVariants as exclusion_kind

-- the kind of exclusion that a letter names: `i` for interfaces, and `r` for routers
unfoldable pub kind_of : ℕ → Option ExclusionKind
kind_of letter =
    if letter == 105 then Some exclusion_kind.Interface
    else (if letter == 114 then Some exclusion_kind.Router else None)

-- the exclusion that a text spells: a prefix, and the letter of a kind
unfoldable pub exclusion_of : List ℕ → Option Exclusion
exclusion_of text = do
  prefix ← result_ok (prefix_of (take (length text - 1) text))
  kind ← kind_of (slice_index text (length text - 1))
  Some (record { prefix = prefix; kind = kind })
