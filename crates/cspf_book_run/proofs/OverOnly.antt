-- Only the lines of a base batch and of a restored placement include `over` lines, which report too
-- little bandwidth.
use Rattle.std.proofs.Common.{◌≡◌, ℕ, zero, suc, ◌+◌, ◌/◌, ◌%◌, ◌≤◌, Bool, true, false, ◌==◌, List, [], ◌∷◌, ◌++◌, codes, slice_index, length, Option, Some, None, Result, Ok, Err, inl, inr, refl, sym, ap, subst, ◌∙◌, append_assoc, append-nil, arith}
use Rattle.std.specs.Fmt.{decimal}
use Rattle.std.specs.List.{flat_map}
use Rattle.hex.specs.Hex.{encode_with, encode_lower, lower_digits}
use Rattle.cspf_addr.specs.declared.hop_reader.HopsError.TheVariants as hops
use Rattle.cspf_model.specs.Best.{Answer, unknown_from, unknown_to, no_route, route}
use Rattle.cspf_model.specs.Walks.{cost_of}
use Rattle.cspf_model.specs.declared.link.Link.{Link}
use Rattle.cspf_model.specs.declared.refusal.Refusal.{Refusal}
use Rattle.cspf_model.specs.declared.refusal.Refusal.TheVariants as unfit
use Rattle.cspf_ero.specs.Objects.{object_of}
use Rattle.cspf_ero.specs.ReplyLine.{yes_or_no, measures_text, IsAnswerText, IsReply}
use Rattle.cspf_ero.specs.declared.ero_error.EroError.{EroError}
use Rattle.cspf_ero.specs.declared.ero_error.EroError.TheVariants as ero
use Rattle.cspf_rows.specs.Words.{ero_words, hops_words, words as row_words}
use Rattle.cspf_rows.specs.declared.row_error.HopsFault.{HopsFault}
use Rattle.cspf_rows.specs.declared.row_error.HopsFault.TheVariants as fault
use Rattle.cspf_rows.specs.declared.row_error.RowError.{RowError}
use Rattle.cspf_rows.specs.declared.row_error.RowError.TheVariants as error
use Rattle.cspf_stream.specs.BatchWords.{unfit_words, batch_words}
use Rattle.cspf_stream.specs.RowAnswers.{AreAnswered}
use Rattle.cspf_rows.specs.Steps.{step_of}
use Rattle.cspf_stream.specs.declared.batch_refusal.BatchRefusal.{BatchRefusal}
use Rattle.cspf_stream.specs.declared.batch_refusal.BatchRefusal.TheVariants as refusal
use Rattle.cspf_rows.specs.declared.step.Step.{Step}
use Rattle.cspf_rows.specs.declared.step.Step.TheVariants as step
use Rattle.cspf_addr.specs.AddressText.{address_text}
use Rattle.cspf_model.specs.Database.{Key}
use Rattle.cspf_book.specs.declared.link_figures.LinkFigures.{LinkFigures}
use Rattle.cspf_book.specs.declared.path.Passed.{Passed}
use Rattle.cspf_book.specs.declared.placement.Placement.{Placement}
use Rattle.cspf_book.specs.LinkFigures.{figures_at}
use Rattle.cspf_book.specs.Placements.{id_of, placement_of}
use Rattle.cspf_book.specs.OverLinks.{over_at}
use Rattle.cspf_book_run.specs.PlacementLines.{held_words, IsOfferReply, show_line, shown_attributes, link_item, left_line, left_front, figures_text}
use Rattle.cspf_book_run.proofs.Looks.{shown_looks, left_looks, look_same}
use Rattle.cspf_book_run.specs.BookLines.{over_line, IsPlaceReply, place_words, release_words}
use Rattle.cspf_book_run.specs.BookRows.{book_row_of}
use Rattle.cspf_book_run.specs.BookRowWords.{book_row_words}
use Rattle.cspf_book_run.specs.BookScript.{BookRunState, name_of, book_answers, changers, IsShown, IsLeftShown, IsBookStepAnswered, IsBookRowAnswered}
use Rattle.cspf_book_run.specs.BookScriptLaws.{IsSaidOver, OnlyChangersSayOver}
use Rattle.cspf_book_run.specs.declared.book_row.BookRow.{BookRow}
use Rattle.cspf_book_run.specs.declared.book_row.BookRow.TheVariants as book_row
use Rattle.cspf_book_run.specs.declared.book_row_error.BookRowError.{BookRowError}
use Rattle.cspf_book_run.specs.declared.book_row_error.BookRowError.TheVariants as refused
use Rattle.cspf_book_run.specs.declared.held_refusal.HeldRefusal.{HeldRefusal}
use Rattle.cspf_book_run.specs.declared.held_refusal.HeldRefusal.TheVariants as unheld
use Rattle.cspf_book_run.specs.declared.refusals.PlaceRefusal.{PlaceRefusal}
use Rattle.cspf_book_run.specs.declared.refusals.PlaceRefusal.TheVariants as unplaced
use Rattle.cspf_book_run.specs.declared.refusals.ReleaseRefusal.{ReleaseRefusal}
use Rattle.cspf_book_run.specs.declared.refusals.ReleaseRefusal.TheVariants as unreleased
use Rattle.cspf_book_run.proofs.OverTexts.{IsFree, each_false, words, Skips, letter_o, free_address, skips_none, skips_byte, skips_free, skips_append, is_plain, skips_plain, skips_number, named, word_after, versioned, none_left}
use Rattle.cspf_book_run.specs.WriteFaultWords.{write_fault_words}
use Rattle.cspf_book_run.specs.declared.write_fault.WriteFault.{WriteFault}
use Rattle.cspf_book_run.specs.declared.write_fault.WriteFault.TheVariants as write_fault

-- ---- the parts of lines

free_at : (digits : List ℕ) (n : ℕ) → IsFree 111 digits → (slice_index digits n == 111) ≡ false
free_at [] n free = refl
free_at (d ∷ digits) zero free = (each_false _ _ free).0
free_at (d ∷ digits) (suc n) free = free_at digits n (each_false _ _ free).1

skips_hex : (bytes : List ℕ) → Skips (encode_lower bytes)
unfolding encode_with
skips_hex [] = skips_none
skips_hex (byte ∷ bytes) =
    let high : ℕ = slice_index lower_digits (byte / 16) in
    let low : ℕ = slice_index lower_digits (byte % 16) in
    skips_byte high (low ∷ encode_lower bytes) (free_at lower_digits (byte / 16) refl)
    (skips_byte low (encode_lower bytes) (free_at lower_digits (byte % 16) refl) (skips_hex bytes))

-- ---- the words of refusals

skips_ero : (e : EroError) → Skips (ero_words e)
skips_ero ero.Short = skips_plain (codes "short") refl
skips_ero other = skips_plain (ero_words other) refl

skips_hops : (f : HopsFault) → Skips (hops_words f)
skips_hops (fault.Text (hops.BadHop at)) = skips_number at
skips_hops (fault.Ero why) = skips_append (codes "ero ") (ero_words why) (skips_plain (codes "ero ") refl) (skips_ero why)
skips_hops other = skips_plain (hops_words other) refl

skips_row : (e : RowError) → Skips (row_words e)
skips_row (error.Number field) = named (codes "number ") field refl
skips_row (error.Address field) = named (codes "address ") field refl
skips_row (error.Mask field) = named (codes "mask ") field refl
skips_row (error.Hops f) = skips_append (codes "hops ") (hops_words f) (skips_plain (codes "hops ") refl) (skips_hops f)
skips_row other = skips_plain (row_words other) refl

skips_book_row : (e : BookRowError) → Skips (book_row_words e)
skips_book_row (refused.Row e) = skips_row e
skips_book_row refused.Route = skips_plain (codes "route") refl
skips_book_row refused.Memory = skips_plain (codes "memory") refl

skips_unfit : (why : Refusal) → Skips (unfit_words why)
skips_unfit (unfit.Duplicate at) = named (codes "duplicate ") at refl
skips_unfit (unfit.Absent at) = named (codes "absent ") at refl
skips_unfit other = skips_plain (unfit_words other) refl

pub skips_batch : (why : BatchRefusal) → Skips (batch_words why)
skips_batch (refusal.WrongNumber expected) = named (codes "expected ") expected refl
skips_batch (refusal.WrongCount counted) = named (codes "counted ") counted refl
skips_batch (refusal.Unfit why) = skips_unfit why
skips_batch (refusal.Journal written) = named (codes "journal ") written refl
skips_batch (refusal.Keep written) = named (codes "keep ") written refl
skips_batch other = skips_plain (batch_words other) refl

skips_fault : (why : WriteFault) → Skips (write_fault_words why)
skips_fault (write_fault.Keep written) = named (codes "keep ") written refl
skips_fault (write_fault.Journal written) = named (codes "journal ") written refl

pub skips_unplaced : (why : PlaceRefusal) → Skips (place_words why)
skips_unplaced (unplaced.Failed why) = skips_fault why
skips_unplaced other = skips_plain (place_words other) refl

pub skips_unreleased : (why : ReleaseRefusal) → Skips (release_words why)
skips_unreleased (unreleased.Failed why) = skips_fault why
skips_unreleased other = skips_plain (release_words other) refl

pub skips_unheld : (why : HeldRefusal) → Skips (held_words why)
skips_unheld (unheld.Failed why) = skips_fault why
skips_unheld other = skips_plain (held_words other) refl

-- ---- the lines

-- A line of a refusal consists of a subject, a number, ` refused: ` and a reason. If `is_plain`
-- holds for the subject, and no `ov` starts within the reason (`Skips`), no `ov` starts within the
-- line.
pub skips_refused : (subject words : List ℕ) (n : ℕ) → is_plain subject ≡ true → Skips words → Skips (subject ++ decimal n ++ codes " refused: " ++ words ++ codes "\n")
skips_refused subject words n plain skips =
    word_after (subject ++ decimal n ++ codes " refused: " ++ words) (codes "\n")
    (skips_append (subject ++ decimal n ++ codes " refused: ") words (word_after (subject ++ decimal n) (codes " refused: ") (named subject n plain) refl) skips) refl

skips_again : (again : Bool) → Skips (yes_or_no again ++ codes " ero=")
skips_again true = skips_plain (codes "yes ero=") refl
skips_again false = skips_plain (codes "no ero=") refl

skips_measures : (cost hops : ℕ) (again : Bool) → Skips (measures_text cost hops again)
unfolding measures_text
skips_measures cost hops again =
    let front : List ℕ = codes "route cost=" ++ decimal cost ++ codes " hops=" ++ decimal hops ++ codes " again=" in
    subst Skips (sym (append_assoc front (yes_or_no again) (codes " ero=")))
    (skips_append front (yes_or_no again ++ codes " ero=")
    (word_after (codes "route cost=" ++ decimal cost ++ codes " hops=" ++ decimal hops) (codes " again=")
    (skips_append (codes "route cost=" ++ decimal cost ++ codes " hops=") (decimal hops)
    (word_after (codes "route cost=" ++ decimal cost) (codes " hops=") (named (codes "route cost=") cost refl) refl) (skips_number hops)) refl)
    (skips_again again))

-- No `ov` starts within the text of an answer and its line feed (`Skips`).
skips_answer : (answer : Answer) (text : List ℕ) → IsAnswerText answer text → Skips (text ++ codes "\n")
skips_answer unknown_from text is = subst (λ (x : List ℕ). Skips (x ++ codes "\n")) (sym is) (skips_plain (codes "unknown-from\n") refl)
skips_answer unknown_to text is = subst (λ (x : List ℕ). Skips (x ++ codes "\n")) (sym is) (skips_plain (codes "unknown-to\n") refl)
skips_answer no_route text is = subst (λ (x : List ℕ). Skips (x ++ codes "\n")) (sym is) (skips_plain (codes "none\n") refl)
skips_answer (route links) text is =
    let measures : List ℕ = measures_text (cost_of links) (length links) is.again in
    subst (λ (x : List ℕ). Skips (x ++ codes "\n")) (sym is.words)
    (word_after (measures ++ encode_lower (object_of links)) (codes "\n")
    (skips_append measures (encode_lower (object_of links)) (skips_measures (cost_of links) (length links) is.again) (skips_hex (object_of links))) refl)

skips_reply : (id version : ℕ) (answer : Answer) (line : List ℕ) → IsReply id version answer line → Skips line
skips_reply id version answer line (text, is, whole) =
    let front : List ℕ = codes "ask " ++ decimal id ++ codes " v" ++ decimal version ++ codes " " in
    subst Skips (sym (whole ∙ append_assoc front text (codes "\n")))
    (skips_append front (text ++ codes "\n")
    (word_after (codes "ask " ++ decimal id ++ codes " v" ++ decimal version) (codes " ") (versioned (codes "ask ") id version refl) refl)
    (skips_answer answer text is))

-- If no `ov` starts within a text (`Skips`), no `ov` starts within a suffix of this text.
without_front : (front text : List ℕ) → Skips (front ++ text) → Skips text
without_front front text skips rest before z same =
    skips rest (front ++ before) z
    (append_assoc front text rest ∙ ap (λ (w : List ℕ). front ++ w) same ∙ sym (append_assoc front before (111 ∷ 118 ∷ z)))

skips_placed : (id version : ℕ) (answer : Answer) (line : List ℕ) → IsPlaceReply id version answer line → Skips line
skips_placed id version answer line (rest, reply, is) =
    subst Skips (sym is)
    (skips_append (codes "place") rest (skips_plain (codes "place") refl)
    (without_front (codes "ask") rest (skips_reply id version answer (codes "ask" ++ rest) reply)))

skips_offered : (id version : ℕ) (answer : Answer) (line : List ℕ) → IsOfferReply id version answer line → Skips line
skips_offered id version answer line (rest, reply, is) =
    subst Skips (sym is)
    (skips_append (codes "offer") rest (skips_plain (codes "offer") refl)
    (without_front (codes "ask") rest (skips_reply id version answer (codes "ask" ++ rest) reply)))

skips_address : (n : ℕ) → Skips (address_text n)
skips_address n = skips_free (address_text n) (free_address 111 letter_o n)

-- A text, a plain word and an address.
address_after : (text word : List ℕ) (n : ℕ) → Skips text → is_plain word ≡ true → Skips (text ++ word ++ address_text n)
address_after text word n skips plain = skips_append (text ++ word) (address_text n) (word_after text word skips plain) (skips_address n)

-- A text, a plain word and a number.
number_after : (text word : List ℕ) (n : ℕ) → Skips text → is_plain word ≡ true → Skips (text ++ word ++ decimal n)
number_after text word n skips plain = skips_append (text ++ word) (decimal n) (word_after text word skips plain) (skips_number n)

skips_items : (ls : List Passed) → Skips (flat_map link_item ls)
skips_items [] = skips_none
skips_items (l ∷ ls) =
    skips_append (link_item l) (flat_map link_item ls)
    (address_after (codes " " ++ address_text l.from) (codes ",") l.local (address_after [] (codes " ") l.from skips_none refl) refl) (skips_items ls)

skips_attributes : (p : Placement) → Skips (shown_attributes p)
skips_attributes p =
    let ends : List ℕ = codes " from=" ++ address_text p.request.from ++ codes " to=" ++ address_text p.request.to in
    let held : List ℕ = ends ++ codes " hold=" ++ decimal p.hold in
    let most : List ℕ = held ++ codes " bandwidth=" ++ decimal p.request.bandwidth in
    let from = address_after [] (codes " from=") p.request.from skips_none refl in
    let to = address_after (codes " from=" ++ address_text p.request.from) (codes " to=") p.request.to from refl in
    number_after most (codes " links=") (length p.route)
    (number_after held (codes " bandwidth=") p.request.bandwidth (number_after ends (codes " hold=") p.hold to refl) refl) refl

skips_shown : (version : ℕ) (p : Placement) → Skips (show_line version p)
skips_shown version p =
    word_after (codes "show " ++ decimal p.request.id ++ codes " v" ++ decimal version ++ shown_attributes p ++ flat_map link_item p.route) (codes "\n")
    (skips_append (codes "show " ++ decimal p.request.id ++ codes " v" ++ decimal version ++ shown_attributes p) (flat_map link_item p.route)
    (skips_append (codes "show " ++ decimal p.request.id ++ codes " v" ++ decimal version) (shown_attributes p) (versioned (codes "show ") p.request.id version refl) (skips_attributes p))
    (skips_items p.route)) refl

skips_figures : (ns : List ℕ) → Skips (figures_text ns)
skips_figures [] = skips_none
skips_figures (n ∷ []) = skips_number n
skips_figures (n ∷ m ∷ ns) = skips_append (decimal n) (44 ∷ figures_text (m ∷ ns)) (skips_number n) (skips_byte 44 (figures_text (m ∷ ns)) refl (skips_figures (m ∷ ns)))

-- A text, a plain word and figures.
figures_after : (text word : List ℕ) (ns : List ℕ) → Skips text → is_plain word ≡ true → Skips (text ++ word ++ figures_text ns)
figures_after text word ns skips plain = skips_append (text ++ word) (figures_text ns) (word_after text word skips plain) (skips_figures ns)

skips_link : (from local : ℕ) → Skips (codes "left " ++ address_text from ++ codes "," ++ address_text local)
skips_link from local = address_after (codes "left " ++ address_text from) (codes ",") local (address_after [] (codes "left ") from skips_none refl) refl

skips_left : (from local version : ℕ) (figures : LinkFigures) → Skips (left_line from local version figures)
skips_left from local version figures =
    let front = number_after (codes "left " ++ address_text from ++ codes "," ++ address_text local) (codes " v") version (skips_link from local) refl in
    let base = figures_after (left_front from local version) (codes " base=") figures.base front refl in
    let counted = figures_after (left_front from local version ++ codes " base=" ++ figures_text figures.base) (codes " counted=") figures.counted base refl in
    let left = figures_after (left_front from local version ++ codes " base=" ++ figures_text figures.base ++ codes " counted=" ++ figures_text figures.counted) (codes " left=") figures.left counted refl in
    word_after (left_front from local version ++ codes " base=" ++ figures_text figures.base ++ codes " counted=" ++ figures_text figures.counted ++ codes " left=" ++ figures_text figures.left) (codes "\n") left refl

pub skips_look : (s t : BookRunState) (id : ℕ) (found : Option Placement) (line : List ℕ) → IsShown s id found line t → Skips line
skips_look s t id (Some p) line a = subst Skips (sym a.0) (skips_shown (name_of s s.book.version) p)
skips_look s t id None line a = subst Skips (sym a.0) (word_after (codes "show " ++ decimal id) (codes " refused: absent\n") (named (codes "show ") id refl) refl)

pub skips_room : (s t : BookRunState) (k : Key) (found : Option LinkFigures) (line : List ℕ) → IsLeftShown s k found line t → Skips line
skips_room s t k (Some figures) line a = subst Skips (sym a.0) (skips_left k.0 k.1 (name_of s s.book.version) figures)
skips_room s t k None line a = subst Skips (sym a.0) (word_after (codes "left " ++ address_text k.0 ++ codes "," ++ address_text k.1) (codes " refused: absent\n") (skips_link k.0 k.1) refl)

-- ---- rows

-- If the rows accept no base batch and restore no placement, their lines include no `over` line.
abbrev pub SaysNone : BookRunState → BookRunState → List ℕ → Type 0
SaysNone s t lines = (changers s ≤ changers t) × (changers t ≡ changers s → Skips lines)

quiet : (s t : BookRunState) (lines : List ℕ) → changers t ≡ changers s → Skips lines → SaysNone s t lines
quiet s t lines same skips = (omega (arith, same), λ _. skips)

pub step_says : (s t : BookRunState) (row : Step) (line : List ℕ) → IsBookStepAnswered s row line t → SaysNone s t line
step_says s t (step.Change c) line a = quiet s t line (ap changers a.1) (subst Skips (sym a.0) skips_none)
step_says s t (step.Ask q) line (answer, best, reply, after) =
    quiet s t line (ap changers after) (skips_reply q.id (name_of s s.book.version) answer line reply)
step_says s t (step.End number count) line (inl (accepted, lines, after)) =
    let more : changers t ≡ changers s + 1 = ap changers after ∙ omega arith in
    (omega (arith, more), λ same. absurd (omega (arith, more, same)))
step_says s t (step.End number count) line (inr (why, unaccepted, is, line_is, after)) =
    quiet s t line (ap changers after)
    (subst Skips (sym line_is) (skips_refused (codes "batch ") (batch_words why) number refl (skips_batch why)))

pub row_says : (place : ℕ) (s t : BookRunState) (r : Result BookRow BookRowError) (line : List ℕ) → IsBookRowAnswered place s r line t → SaysNone s t line
row_says place s t (Err e) line a =
    quiet s t line (ap changers a.1)
    (subst Skips (sym a.0) (skips_refused (codes "row ") (book_row_words e) place refl (skips_book_row e)))
row_says place s t (Ok (book_row.Base row)) line a = step_says s t (step_of row) line a
row_says place s t (Ok (book_row.Place q hold)) line (inl (x, after)) =
    quiet s t line (ap changers after) (skips_placed q.id (name_of s t.book.version) x.answer line x.reply)
row_says place s t (Ok (book_row.Place q hold)) line (inr (why, is, line_is, after)) =
    quiet s t line (ap changers after)
    (subst Skips (sym line_is) (skips_refused (codes "place ") (place_words why) q.id refl (skips_unplaced why)))
row_says place s t (Ok (book_row.Release id)) line (inl (room, has, line_is, after)) =
    quiet s t line (ap changers after)
    (subst Skips (sym line_is)
    (word_after (codes "released " ++ decimal id ++ codes " v" ++ decimal (name_of s (s.book.version + 1))) (codes "\n") (versioned (codes "released ") id (name_of s (s.book.version + 1)) refl) refl))
row_says place s t (Ok (book_row.Release id)) line (inr (why, is, line_is, after)) =
    quiet s t line (ap changers after)
    (subst Skips (sym line_is) (skips_refused (codes "release ") (release_words why) id refl (skips_unreleased why)))
row_says place s t (Ok (book_row.Held p)) line (inl (room, may, line_is, after)) =
    let more : changers t ≡ changers s + 1 = ap changers after ∙ omega arith in
    (omega (arith, more), λ same. absurd (omega (arith, more, same)))
row_says place s t (Ok (book_row.Held p)) line (inr (why, is, line_is, after)) =
    quiet s t line (ap changers after)
    (subst Skips (sym line_is) (skips_refused (codes "held ") (held_words why) (id_of p) refl (skips_unheld why)))
row_says place s t (Ok (book_row.Offer q hold)) line (inl (x, after)) =
    quiet s t line (ap changers after) (skips_offered q.id (name_of s s.book.version) x.answer line x.reply)
row_says place s t (Ok (book_row.Offer q hold)) line (inr (why, is, line_is, after)) =
    quiet s t line (ap changers after)
    (subst Skips (sym line_is) (skips_refused (codes "offer ") (place_words why) q.id refl (skips_unplaced why)))
row_says place s t (Ok (book_row.Show id)) line a =
    let found : Option Placement = placement_of id s.book.placements in
    quiet s t line (look_same changers s t refl (shown_looks s t id found line a)) (skips_look s t id found line a)
row_says place s t (Ok (book_row.Left from local)) line a =
    let found : Option LinkFigures = figures_at s.book.base s.book.placements (from, local) in
    quiet s t line (look_same changers s t refl (left_looks s t (from, local) found line a)) (skips_room s t (from, local) found line a)

rows_say : (place : ℕ) (s t : BookRunState) (rows : List (List (List ℕ))) (lines : List ℕ) → AreAnswered book_answers place s rows lines t → SaysNone s t lines
unfolding AreAnswered
rows_say place s t [] lines a = quiet s t lines (ap changers a.1) (subst Skips (sym a.0) skips_none)
rows_say place s t (fields ∷ rows) lines a =
    let first = row_says place s a.1 (book_row_of fields) a.0 a.3 in
    let rest = rows_say (suc place) a.1 t rows a.2 a.5 in (
      omega (arith, first.0, rest.0),
      λ same. subst Skips (sym a.4)
          (skips_append a.0 a.2 (first.1 (omega (arith, same, first.0, rest.0))) (rest.1 (omega (arith, same, first.0, rest.0)))),
    )

-- If no `ov` starts within the lines (`Skips`), they include no `over` line.
pub says_none_over : (lines : List ℕ) → Skips lines → (l : Link) (priority : ℕ) → ¬ IsSaidOver lines l priority
says_none_over lines skips l priority (before, after, is) =
    let left = skips [] before ((words (over_at l priority) ++ 10 ∷ []) ++ after)
    (append-nil lines ∙ is ∙ append_assoc before (over_line (over_at l priority)) after) in
    none_left left.0 _ left.1

pub only_changers_say : OnlyChangersSayOver
only_changers_say place s t rows lines a same l priority said = says_none_over lines ((rows_say place s t rows lines a).1 same) l priority said
