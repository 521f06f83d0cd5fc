-- How `held` rows are written, and read back.
use Rattle.std.proofs.Common.{◌≡◌, ℕ, ◌^◌, ◌<◌, ◌≤◌, List, [], ◌∷◌, ◌++◌, length, drop, map, codes, Ok, refl, sym, ap, ◌∙◌, append-nil, arith}
use Rattle.std.specs.List.{flat_map, AllByRecursion}
use Rattle.csv.specs.Records.{field_at}
use Rattle.csv.specs.Writing.{default_writer, row_text}
use Rattle.cspf_addr.specs.HopLists.{hops_text}
use Rattle.cspf_addr.specs.HopText.{hop_text}
use Rattle.cspf_addr.specs.MaskText.{mask_text, AreMasksRead, AreMasksReadBack}
use Rattle.cspf_addr.specs.declared.hop.Hop.{Hop}
use Rattle.cspf_model.specs.Fields.{AreFieldsOfRequests}
use Rattle.cspf_model.specs.declared.request.Request.{Request}
use Rattle.cspf_rows.specs.FieldValues.{field, number_at, small_number_at, priority_at, address_at, mask_at, hops_at}
use Rattle.cspf_rows.specs.Records.{rows_of}
use Rattle.cspf_rows.specs.Rows.{ask_row_of, row_of}
use Rattle.cspf_rows.specs.declared.row.Row.TheVariants as row
use Rattle.cspf_rows.specs.Written.{ask_fields, AreAsksReadBack, IsRequestInRange}
use Rattle.cspf_book.specs.declared.path.Passed.{Passed}
use Rattle.cspf_book.specs.declared.placement.Placement.{Placement}
use Rattle.cspf_book.specs.PathsFrom.{path_from, passed_step, LeadFromTo}
use Rattle.cspf_book_run.specs.declared.book_row.BookRow.TheVariants as book_row
use Rattle.cspf_book_run.specs.BookRows.{book_row_of, held_placement, held_route_of, path_of_steps}
use Rattle.cspf_book_run.specs.RouteText.{route_text_of, AreRouteTextsReadBack}
use Rattle.cspf_book_run.specs.HeldRows.{held_fields, held_text, IsWritable, AreHeldRowsReadBack, AreHeldTextsCut}
use Rattle.cspf_book_run.proofs.RowRequests.{lowest_setup, path_read}
use Rattle.cspf_book_run.proofs.KeptTexts.{StartsPlain, kept_cut}

-- ---- the text of hops

-- The text of hops is the text of each hop with a space before it, without the first space.
pub hops_spaced : (hops : List Hop) → drop 1 (flat_map (λ hop. 32 ∷ hop_text hop) hops) ≡ hops_text hops
unfolding hops_text
hops_spaced [] = refl
hops_spaced (hop ∷ []) = append-nil (hop_text hop)
hops_spaced (hop ∷ next ∷ hops) = ap (λ text. hop_text hop ++ 32 ∷ text) (hops_spaced (next ∷ hops))

-- ---- the text of rows

held_plain : (p : Placement) → StartsPlain (held_fields p)
held_plain p = record { a = 104; b = 101; c = 108; word = 100 ∷ []; second = _; others = _; is = refl; no_mark = refl; plain = refl }

pub held_starts : (ps : List Placement) → AllByRecursion StartsPlain (map held_fields ps)
held_starts [] = tt
held_starts (p ∷ ps) = (held_plain p, held_starts ps)

pub texts_of_rows : (ps : List Placement) → flat_map held_text ps ≡ flat_map (row_text default_writer) (map held_fields ps)
texts_of_rows [] = refl
texts_of_rows (p ∷ ps) = ap (λ text. held_text p ++ text) (texts_of_rows ps)

pub held_cut : AreHeldTextsCut
held_cut ps = ap rows_of (texts_of_rows ps) ∙ kept_cut (map held_fields ps) (held_starts ps)

-- ---- reading back

-- The first field of a record isn't read as a field of a request, and neither are the fields after
-- the tenth.
other_word : (a b f2 f3 f4 f5 f6 f7 f8 f9 f10 : List ℕ) (more : List (List ℕ))
    → ask_row_of (a ∷ f2 ∷ f3 ∷ f4 ∷ f5 ∷ f6 ∷ f7 ∷ f8 ∷ f9 ∷ f10 ∷ more) ≡ ask_row_of (b ∷ f2 ∷ f3 ∷ f4 ∷ f5 ∷ f6 ∷ f7 ∷ f8 ∷ f9 ∷ f10 ∷ [])
unfolding ask_row_of number_at small_number_at priority_at address_at mask_at hops_at field_at
other_word a b f2 f3 f4 f5 f6 f7 f8 f9 f10 more = refl

-- the request of a placement with its holding priority as the setup priority
abbrev asked_for : Placement → Request
asked_for p = record {
  id = p.request.id;
  from = p.request.from;
  to = p.request.to;
  setup = p.hold;
  bandwidth = p.request.bandwidth;
  exclude_any = p.request.exclude_any;
  include_any = p.request.include_any;
  include_all = p.request.include_all;
  hops = p.request.hops;
  priority = p.priority;
  two_ends = p.request.two_ends;
}

asked_in_range : (p : Placement) → IsWritable p → IsRequestInRange (asked_for p)
asked_in_range p h = record {
  id = h.range.request.id;
  from = h.range.request.from;
  to = h.range.request.to;
  bandwidth = h.range.request.bandwidth;
  few = h.range.request.few;
  hops = h.range.request.hops;
}

-- the row of a request is read as this request
row_asked : (fields : List (List ℕ)) (q : Request) → field fields 1 ≡ codes "ask" → length fields ≡ 10 → row_of fields ≡ Ok (row.Ask q) → ask_row_of fields ≡ Ok (row.Ask q)
unfolding row_of
row_asked fields q word ten is = rw (word, ten) at is

same_path : (from to : ℕ) (links : List Passed) → LeadFromTo from to links → path_from from (map passed_step links) ≡ links
same_path from to [] leads = refl
same_path from to (l ∷ ls) leads =
    ap (λ f. record { from = f; local = l.local; to = l.to } ∷ path_from l.to (map passed_step ls)) (sym leads.0)
    ∙ ap (λ more. l ∷ more) (same_path l.to to ls leads.1)

some_links : (q : Request) (links : List Passed) → LeadFromTo q.from q.to links → 1 ≤ length links
some_links q [] leads = absurd (q.two_ends leads)
some_links q (l ∷ ls) leads = omega arith

route_field : (p : Placement) → field (held_fields p) 11 ≡ route_text_of p.route
unfolding field_at
route_field p = refl

-- If the fields of the row are read as those of a request, and the route is read as this path, the
-- row is read as a placement.
held_read : (p : Placement) (q : Request) (path : List Passed) → ask_row_of (held_fields p) ≡ Ok (row.Ask q) → held_route_of q (field (held_fields p) 11) ≡ Ok path
    → book_row_of (held_fields p) ≡ Ok (book_row.Held (held_placement q path))
unfolding book_row_of field_at
held_read p q path asked route = rw asked (rw route refl)

-- the placement with this request, and otherwise with the parts of `p`
abbrev with_request : Placement → Request → Placement
with_request p q = record { request = q; hold = p.hold; route = p.route; priority = p.priority }

pub held_back : AreMasksRead → AreMasksReadBack → AreFieldsOfRequests → AreAsksReadBack → AreRouteTextsReadBack → AreHeldRowsReadBack
unfolding field_at
held_back masks masks_back requests asks routes p h =
    let q = asked_for p in
    let spells = λ (bits : ℕ) (small : bits < 2 ^ 32). (masks (mask_text bits) bits).0 (masks_back bits small) in
    let fields = ask_fields q (mask_text q.exclude_any) (mask_text q.include_any) (mask_text q.include_all) in
    let read = asks q (mask_text q.exclude_any) (mask_text q.include_any) (mask_text q.include_all) (asked_in_range p h)
    (spells q.exclude_any h.range.masks.exclude_any) (spells q.include_any h.range.masks.include_any) (spells q.include_all h.range.masks.include_all) in
    let asked = other_word _ _ _ _ _ _ _ _ _ _ _ _ ∙ row_asked fields q refl refl read in
    let same = lowest_setup requests q p.request (record { id = refl; from = refl; to = refl; setup = h.setup; bandwidth = refl; exclude_any = refl; include_any = refl; include_all = refl; hops = refl }) in
    let steps = map passed_step p.route in
    let path = path_read q steps p.route (sym (same_path p.request.from p.request.to p.route h.ends)) h.ends in
    let route = ap (held_route_of q) (route_field p) ∙ ap (path_of_steps q) (routes p.route (some_links p.request p.route h.ends) h.range.route) ∙ sym path in
    held_read p q p.route asked route ∙ ap (λ r. Ok (book_row.Held (with_request p r))) (sym same)
