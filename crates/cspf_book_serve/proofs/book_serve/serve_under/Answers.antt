use Rattle.std.proofs.Common.{◌≡◌, ℕ, ◌<◌, [], false, List, Option, Some, None, IfSome, length, vec_len, refl, sym, ap, subst, ◌∙◌, arith}
use Rattle.std.specs.Io.KnownBytes.{Appends}
use Rattle.std.specs.Option.{option_map}
use Rattle.cspf_publish.specs.PublisherStates.{PublisherState}
use Rattle.cspf_serve.specs.ClientSeats.{AreSeats}
use Rattle.cspf_book.specs.BookState.{BookState}
use Rattle.cspf_book_run.specs.BookScript.{going_on}
use Rattle.cspf_book_run.specs.BookStates.{KeepsBook}
use Rattle.cspf_rows.specs.JournalLaws.{journal_text}
use Rattle.cspf_rows.specs.Records.{rows_of}
use Rattle.cspf_book_serve.specs.ServedBooks.{IsBegunBy, IsServerBegun, IsServedBook, begin_lines, first_served}
use Rattle.cspf_book_serve.specs.declared.book_updates.BookUpdates.{BookUpdates}
use Rattle.cspf_book_serve.specs.declared.shown.Shown.{Shown}
use Rattle.cspf_book_serve.proofs.BeginLines.{beginning_of}
use Rattle.cspf_book_serve.proofs.BookUpdatesRun.{first_shown, served_book}
use Rattle.cspf_book_serve.proofs.PublishedBooks.{first_shows, run_books}
use Rattle.cspf_book_serve.proofs.book_serve.serve_under.Goals as goal

pub serve_seats-requires-clause-seats : goal.serve_seats-requires-clause-seats
serve_seats-requires-clause-seats g c = λ κs bounds.
    let published = ap (λ (k : Shown g.row.J.Denot g.row.K.Denot). k.counted.publisher) c.going_on.ensures.keeping ∙ c.new.ensures in
    let source = ap (λ (p : PublisherState g.row.J.Denot). p.source) published ∙ c.begin_book.ensures.source in
    subst (λ book. AreSeats book (vec_len c.args.clients) c.in-Ok.opened.1) (sym source) (subst (λ (n : ℕ). AreSeats c.in-Ok.opened.0.source n c.in-Ok.opened.1) c.len.ensures c.in-Ok.ensures.seats)

pub serve_seats-requires-clause-state : goal.serve_seats-requires-clause-state
serve_seats-requires-clause-state g c = λ κs bounds.
    let read = c.requires.read.1 in
    let keeps = c.going_on.ensures.state read.0 read.1 in
    record {
      rows = omega (arith, c.going_on.ensures.none);
      count = omega (arith, keeps.changes.count);
      answers = omega (arith, keeps.answers);
      refused = omega (arith, keeps.refused);
    }

pub serve_seats-requires-clause-invariant : goal.serve_seats-requires-clause-invariant
serve_seats-requires-clause-invariant g c = λ κs bounds.
    let read = c.requires.read.1 in
    (going_on read.0 c.in-Ok-begin_book.skipped, c.going_on.ensures.state read.0 read.1)

pub returns-in-Ok-serve_seats-clause-served : goal.returns-in-Ok-serve_seats-clause-served
returns-in-Ok-serve_seats-clause-served g c = λ begin read.
    let recorded = g.J.Write.contents in
    let s = read.0 in
    let keeps = read.1 in
    let first = c.in-Ok.opened.0 in
    let making = c.begin_book.new.publisher.batches in
    let begun = subst (λ (b : BookState). IsServerBegun b c.in-Ok-begin_book.skipped making) keeps.book c.in-Ok-begin_book.ensures.begun in
    let begun_by : IsBegunBy s making = record { snapshot = begun.snapshot; few = begun.few } in
    let k = c.going_on.result.rows.sink.keeping in
    let same = c.going_on.ensures.keeping in
    let published = ap (λ (k : Shown g.row.J.Denot g.row.K.Denot). k.counted.publisher) same ∙ c.new.ensures in
    let before : BookUpdates g.row.J.Denot g.row.K.Denot = record { rows = c.going_on.result } in
    let shows = first_shown recorded g.K.Write.contents first c.args.keep k s making
    (ap (λ (p : PublisherState g.row.J.Denot). p.source) published ∙ c.begin_book.ensures.source)
    (ap (λ (p : PublisherState g.row.J.Denot). p.batches) published)
    (ap (λ (k : Shown g.row.J.Denot g.row.K.Denot). k.stopped) same)
    (subst (λ (p : PublisherState g.row.J.Denot). Appends (recorded first.journal) (recorded p.journal) (journal_text making)) (sym published) c.in-Ok-begin_book.ensures.recorded)
    (ap (λ (k : Shown g.row.J.Denot g.row.K.Denot). k.keep) same) in
    let kept = subst (λ (n : ℕ). KeepsBook c.going_on.result.rows (going_on s n)) begun.skips (c.going_on.ensures.state s keeps) in
    let over = subst (λ (b : BookState). Appends (g.W.Write.contents c.args.said) (g.W.Write.contents c.begin_book.new.said) (begin_lines b)) keeps.book c.in-Ok-begin_book.ensures.said in
    let all = option_map rows_of (g.R.Read.remaining c.args.updates) in
    subst (λ journal. IsServedBook g.A.Kinds.kinds begin (g.R.Read.remaining c.args.updates) g.W.Write.contents g.K.Write.contents g.J.Write.contents g.Q.Read.remaining g.V.Write.contents g.V.Reopens.reopens c.args.said c.args.keep journal c.args.clients.items c.in-Ok-serve_seats.ran.0 c.in-Ok-serve_seats.ran.1) c.in-Ok.ensures.publisher.2
    (served_book recorded g.K.Write.contents first c.args.keep g.A.Kinds.kinds begin (g.R.Read.remaining c.args.updates) g.W.Write.contents g.Q.Read.remaining g.V.Write.contents g.V.Reopens.reopens
    c.args.said c.begin_book.new.said before c.args.clients.items c.in-Ok-serve_seats.ran.0 c.in-Ok-serve_seats.ran.1 s making (record { keeps = kept; shows = shows })
    (beginning_of begin s read.2 read.3) begun_by over
    (λ after ran. run_books c.in-Ok-serve_seats.ran.0.updates all (first_served s making) after _ _ (first_shows s making begun_by) ran)
    c.in-Ok-serve_seats.ensures.served)
