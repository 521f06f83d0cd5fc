-- Four wrong runs of a book. Two weaker laws allow these runs, but the laws of covered links refuse
-- each of them. A covered link has at least the bandwidth that the placements count on it.
use Rattle.std.specs.Prelude.{◌≡◌, ◌<◌, ◌⊎◌, ℕ, List, [], ◌∷◌, ◌++◌, map, refl}
use Rattle.std.specs.List.{flat_map}
use Rattle.std.proofs.Common.{lit<}
use Rattle.std.proofs.lemmas.Bool.{eqb-false}
use Rattle.cspf_model.specs.declared.batch.Change.TheVariants.{Put}
use Rattle.cspf_model.specs.declared.link.Link.{Link}
use Rattle.cspf_model.specs.Changes.{after_changes, no_links}
use Rattle.cspf_model.specs.Database.{Database, IsLinkOf}
use Rattle.cspf_model.specs.Examples.{address, router, link, asked_fields}
use Rattle.cspf_rows.specs.Rows.{request_with}
use Rattle.cspf_book.specs.declared.placement.Placement.{Placement}
use Rattle.cspf_book.specs.Placements.{passed_of}
use Rattle.cspf_book.specs.OverLinks.{priorities, over_at}
use Rattle.cspf_book.specs.Laws.{IsCovered}
use Rattle.cspf_book_run.specs.BookLines.{over_line, base_line}
use Rattle.cspf_book_run.specs.BookScript.{BookRunState, changers}
use Rattle.cspf_book_run.specs.BookScriptLaws.{IsBookCovered, IsSaidOver, CoversSince, SaysOverExactly}

-- Two weaker laws of a state `s`, a later state `t` and the lines that are written between them.
-- Both suppose that each link is covered in `s`. The first law: if no base batch was accepted and no
-- placement restored in between, each link is covered in `t`. The second law: each link is covered in `t`, or its `over`
-- line, which reports too little bandwidth, is among the lines.
pub record ObeysWeakerLaws (s : BookRunState) (lines : List ℕ) (t : BookRunState) : Type 0 where
  pub keeps : changers t ≡ changers s → IsBookCovered s.book → IsBookCovered t.book
  pub says : IsBookCovered s.book → (l : Link) (priority : ℕ) → IsLinkOf t.book.base l → priority < 8
      → IsCovered t.book.placements l priority ⊎ IsSaidOver lines l priority

-- Both weaker laws follow from the law of covered links (`CoversSince`).
abbrev pub WeakerLawsFollow : Type 0
WeakerLawsFollow = (s t : BookRunState) (lines : List ℕ) → CoversSince s lines t → ObeysWeakerLaws s lines t

-- the lines of a row, and the state after it
abbrev pub RunStep : Type 0
RunStep = List ℕ × BookRunState

-- `P` holds for the state `s`, the state after each of these steps, and the lines that are written
-- between the two states. `lines` are the lines that are written after `s` and before these steps.
abbrev pub HoldsFrom : (BookRunState → List ℕ → BookRunState → Type 0) → BookRunState → List ℕ → List RunStep → Type 0
HoldsFrom P s lines [] = Unit {0}
HoldsFrom P s lines (step ∷ steps) = P s (lines ++ step.0) step.1 × HoldsFrom P s (lines ++ step.0) steps

-- `P` holds for each state of a run, each later state, and the lines that are written between the
-- two states.
abbrev pub HoldsThroughout : (BookRunState → List ℕ → BookRunState → Type 0) → BookRunState → List RunStep → Type 0
HoldsThroughout P s [] = Unit {0}
HoldsThroughout P s (step ∷ steps) = HoldsFrom P s [] (step ∷ steps) × HoldsThroughout P step.1 steps

-- the left link, from 1.1.1.1 to 2.2.2.2, and the right link, from 2.2.2.2 to 3.3.3.3, each with
-- this bandwidth at each priority
abbrev pub left_link : ℕ → Link
left_link bandwidth = link (router 1) (address 10 0 12 1) (router 2) (address 10 0 12 2) 10 bandwidth (eqb-false (router 1) (router 2) refl)

abbrev pub right_link : ℕ → Link
right_link bandwidth = link (router 2) (address 10 0 23 2) (router 3) (address 10 0 23 3) 10 bandwidth (eqb-false (router 2) (router 3) refl)

-- the base in which the two links have these bandwidths
abbrev pub base_with : ℕ → ℕ → Database
base_with left right = after_changes no_links (Put (left_link left) ∷ Put (right_link right) ∷ [])

-- the placement with this id, which holds 600 bytes per second on each of the two links, at each
-- priority
abbrev pub holding : ℕ → Placement
holding id = record {
  request = request_with (record (asked_fields (router 3) []) { id = id; setup = 7; bandwidth = 600 }) (lit< tt) (eqb-false (router 1) (router 3) refl);
  hold = 0;
  route = passed_of (left_link 1000) ∷ passed_of (right_link 1000) ∷ [];
  priority = lit< tt;
}

-- the state after this many base batches, with this version, these bandwidths of the two links, and
-- these placements
abbrev pub book_with : ℕ → ℕ → ℕ → ℕ → List Placement → BookRunState
book_with batches version left right placements = record {
  book = record { base = base_with left right; version = version; placements = placements };
  batches = batches;
  restored = 0;
  changes = [];
  answers = 1;
  refused = 0;
  skipped = 0;
}

-- the `over` lines of a link at these priorities, which report too little bandwidth
abbrev pub over_lines : Link → List ℕ → List ℕ
over_lines l at = flat_map over_line (map (over_at l) at)

-- The first state of the runs: both links have 1,000 bytes per second, and a placement holds 600
-- bytes per second on each of them.
abbrev pub both_covered : BookRunState
both_covered = book_with 1 2 1000 1000 (holding 1 ∷ [])

-- Step 1: a base batch lowers both links to 100 bytes per second. Its lines have an `over` line for
-- each link and priority, which reports too little bandwidth.
abbrev pub both_lowered : RunStep
both_lowered =
    let lines : List ℕ = over_lines (left_link 100) priorities ++ over_lines (right_link 100) priorities ++ base_line 2 3 in
    (lines, book_with 2 3 100 100 (holding 1 ∷ []))

-- Step 2: a base batch raises the right link to 1,000 bytes per second. The right link then has
-- enough bandwidth for the placements again, so it is covered. The left link isn't covered.
abbrev pub right_raised : RunStep
right_raised = (base_line 3 4, book_with 3 4 100 1000 (holding 1 ∷ []))

-- If this step follows steps 1 and 2, the run is wrong. The weaker laws hold throughout the run,
-- but the law of covered links (`CoversSince`) doesn't.
abbrev pub IsRefusedAfterwards : RunStep → Type 0
IsRefusedAfterwards wrong =
    HoldsThroughout ObeysWeakerLaws both_covered (both_lowered ∷ right_raised ∷ wrong ∷ [])
    × ¬ HoldsThroughout CoversSince both_covered (both_lowered ∷ right_raised ∷ wrong ∷ [])

-- Wrong: a row places 600 more bytes per second on the right link, whatever its lines are. The
-- `over` lines of the right link are older: they were written before the link had enough bandwidth
-- again.
abbrev pub ExcuseEndsWithCover : Type 0
ExcuseEndsWithCover = (lines : List ℕ) → IsRefusedAfterwards (lines, book_with 3 5 100 1000 (holding 1 ∷ holding 2 ∷ []))

-- Wrong: a base batch lowers the bandwidth of the right link again, but its `over` lines name only
-- the left link.
abbrev pub OtherLinkIsNoExcuse : Type 0
OtherLinkIsNoExcuse =
    IsRefusedAfterwards (over_lines (left_link 100) priorities ++ base_line 4 5, book_with 4 5 100 100 (holding 1 ∷ []))

-- Wrong: a base batch lowers the bandwidth of the right link again, but its one `over` line names
-- this link at priority 0 only.
abbrev pub OtherPriorityIsNoExcuse : Type 0
OtherPriorityIsNoExcuse =
    IsRefusedAfterwards (over_lines (right_link 100) (0 ∷ []) ++ base_line 4 5, book_with 4 5 100 100 (holding 1 ∷ []))

-- Wrong: a base batch gives the right link 1,000 bytes per second, of which 600 are held. Its
-- `over` line reports that this is too little at priority 3. The weaker laws allow these lines, but
-- the law of exact `over` lines (`SaysOverExactly`) doesn't.
abbrev pub UntrueOverIsRefused : Type 0
UntrueOverIsRefused =
    let before : BookRunState = record both_covered { changes = Put (right_link 1000) ∷ [] } in
    let lines : List ℕ = over_lines (right_link 1000) (3 ∷ []) ++ base_line 2 3 in
    HoldsThroughout ObeysWeakerLaws before ((lines, book_with 2 3 1000 1000 (holding 1 ∷ [])) ∷ []) × ¬ SaysOverExactly before lines
