-- The `over` lines for the links of a snapshot are those for all links of the database.
use Rattle.std.proofs.Common.{◌≡◌, ℕ, List, [], ◌∷◌, ◌++◌, Option, Some, None, IfSome, map, refl, ap, ◌∙◌}
use Rattle.std.specs.List.{flat_map}
use Rattle.cspf_db.specs.Index.{links_of}
use Rattle.cspf_model.specs.Changes.{changes_of}
use Rattle.cspf_model.specs.Numbered.{NumberedChanges}
use Rattle.cspf_model.specs.declared.batch.Change.{Change}
use Rattle.cspf_model.specs.declared.link.Link.{Link}
use Rattle.cspf_snapshot.specs.Snapshots.{IsSnapshot, changes_making, marking}
use Rattle.cspf_book.specs.BookState.{BookState}
use Rattle.cspf_book.specs.OverLinks.{over, over_on}
use Rattle.cspf_book.specs.declared.over.Over.{Over}
use Rattle.cspf_book.specs.declared.placement.Placement.{Placement}
use Rattle.cspf_book_run.specs.BookLines.{over_line}
use Rattle.cspf_book_run.specs.BookScript.{BookRunState}
use Rattle.cspf_book_run.specs.Compacts.{AreAllTaken}
use Rattle.cspf_rows.specs.Records.{rows_of}
use Rattle.std.specs.Option.{option_map}
use Rattle.cspf_book_serve.specs.ServedBooks.{IsBeginFault, IsBeginning, IsOtherFault, begin_lines}
use Rattle.cspf_book_serve.specs.declared.error.ServedBookError.{ServedBookError}
use Rattle.cspf_book_serve.specs.declared.error.ServedBookError.TheVariants as error

-- A change of a mark has no `over` line.
none_marked : (placements : List Placement) (marks : List ℕ) → over placements (map marking marks) ≡ []
none_marked placements [] = refl
none_marked placements (mark ∷ marks) = none_marked placements marks

over_making : (placements : List Placement) (links : List Link) (marks : List ℕ) → over placements (changes_making links marks) ≡ flat_map (over_on placements) links
over_making placements [] marks = none_marked placements marks
over_making placements (l ∷ links) marks = ap (λ (more : List Over). over_on placements l ++ more) (over_making placements links marks)

pub snapshot_lines : (s : BookState) (making : List NumberedChanges) → IsSnapshot s.base making → flat_map over_line (over s.placements (changes_of making)) ≡ begin_lines s
snapshot_lines s making is =
    ap (λ (all : List Over). flat_map over_line all) (ap (λ (changes : List Change). over s.placements changes) is.changes ∙ over_making s.placements (links_of s.base) is.marks)

-- The book that was read is that of the beginning.
pub beginning_of : (begin : Option (List ℕ)) (begun : BookRunState) → begun.changes ≡ [] → IfSome (option_map rows_of begin) (λ rows. AreAllTaken rows begun) → IsBeginning begin begun
beginning_of None begun ended taken = record { taken = tt; ended = ended }
beginning_of (Some bytes) begun ended taken = record { taken = taken; ended = ended }

-- The beginning isn't refused because of its rows, if no run begins for another reason.
pub other_fault : (begin : Option (List ℕ)) (why : ServedBookError) → IsOtherFault why → IsBeginFault begin why
other_fault begin (error.Begin why) is = absurd is
other_fault begin other is = tt
