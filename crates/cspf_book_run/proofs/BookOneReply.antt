-- Each row of a book has only one answer.
use Rattle.std.proofs.Common.{◌≡◌, ℕ, ◌+◌, ◌<◌, ◌++◌, List, length, drop, IsTrue, Result, Ok, Err, inl, inr, refl, sym, ap, subst, ◌∙◌, codes, arith}
use Rattle.std.proofs.Math.Bridge.{le_prop}
use Rattle.cspf_model.specs.Best.{Answer, route, IsBestAnswer}
use Rattle.cspf_model.specs.Database.{HaveOwnKeys}
use Rattle.cspf_model.specs.Laws.{OneBestAnswer, OneRefusal}
use Rattle.cspf_model.specs.declared.link.Link.{Link}
use Rattle.cspf_model.specs.declared.request.Request.{Request}
use Rattle.cspf_ero.specs.ReplyLine.{HasOneReplyLine}
use Rattle.cspf_rows.specs.Steps.{step_of}
use Rattle.cspf_rows.specs.declared.step.Step.{Step}
use Rattle.cspf_rows.specs.declared.step.Step.TheVariants as step
use Rattle.cspf_stream.proofs.BatchRefusals.{refusal_once}
use Rattle.cspf_book.specs.declared.path.Passed.{Passed}
use Rattle.cspf_book.specs.declared.placement.Placement.{Placement}
use Rattle.cspf_book.specs.LinkFigures.{figures_at}
use Rattle.cspf_book.specs.Placements.{has_id, placement_of}
use Rattle.cspf_book.specs.Restoring.{MayBeAdded}
use Rattle.cspf_book.specs.BookState.{BookState, effective_beside, HasRoomFor, IsAnswerPlaced, IsPlacedAlong, IsPlacementOf}
use Rattle.cspf_book_run.specs.declared.book_row.BookRow.{BookRow}
use Rattle.cspf_book_run.specs.declared.book_row.BookRow.TheVariants as book_row
use Rattle.cspf_book_run.specs.declared.book_row_error.BookRowError.{BookRowError}
use Rattle.cspf_book_run.specs.declared.held_refusal.HeldRefusal.{HeldRefusal}
use Rattle.cspf_book_run.specs.declared.held_refusal.HeldRefusal.TheVariants as unheld
use Rattle.cspf_book_run.specs.declared.refusals.PlaceRefusal.{PlaceRefusal}
use Rattle.cspf_book_run.specs.declared.refusals.PlaceRefusal.TheVariants as unplaced
use Rattle.cspf_book_run.specs.declared.refusals.ReleaseRefusal.{ReleaseRefusal}
use Rattle.cspf_book_run.specs.declared.refusals.ReleaseRefusal.TheVariants as unreleased
use Rattle.cspf_book_run.specs.BookLines.{IsPlaceReply}
use Rattle.cspf_book_run.specs.BookScript.{BookRunState, name_of, after_answer, IsBaseEndAnswered, IsAskAnswered, IsPlaceRefusal, IsPlaceAnswered, IsPlaceTaken, IsHeldRefusal, IsHeldTaken, IsOfferAnswered, IsOfferTaken, IsReleaseRefusal, IsReleaseTaken, IsBookStepAnswered, IsBookRowAnswered}
use Rattle.cspf_book_run.specs.PlacementLines.{IsOfferReply}
use Rattle.cspf_book_run.proofs.LostOnce.{lost_once}
use Rattle.cspf_book_run.proofs.Looks.{shown_once, left_once}

abbrev pub SameBookReply : List ℕ → BookRunState → List ℕ → BookRunState → Type 0
SameBookReply l s m t = (l ≡ m) × (s ≡ t)

end_once : OneRefusal → (s : BookRunState) (number count : ℕ) (l m : List ℕ) (t u : BookRunState)
    → IsBaseEndAnswered s number count l t → IsBaseEndAnswered s number count m u → SameBookReply l t m u
end_once one s number count l m t u (inl (a, (ids, lost, line), after)) (inl (b, (others, lost2, line2), after2)) =
    let same = lost_once _ _ s.book.placements ids others lost lost2 in
    (line ∙ rw same (sym line2), after ∙ sym after2)
end_once one s number count l m t u (inl a) (inr b) = absurd (b.1 a.0)
end_once one s number count l m t u (inr a) (inl b) = absurd (a.1 b.0)
end_once one s number count l m t u (inr a) (inr b) =
    (a.3 ∙ rw (refusal_once s.book.version (s.batches + 1) s.changes s.book.base number count one a.0 b.0 a.2 b.2) (sym b.3), a.4 ∙ sym b.4)

pub ask_once : OneBestAnswer → HasOneReplyLine → (s : BookRunState) (q : Request) (l m : List ℕ) (t u : BookRunState)
    → IsAskAnswered s q l t → IsAskAnswered s q m u → SameBookReply l t m u
ask_once best reply s q l m t u a b =
    let same : a.0 ≡ b.0 = best _ q a.0 b.0 a.1 b.1 in
    (reply q.id _ b.0 l m (rw same at a.2) b.2, a.3 ∙ sym b.3)

-- ---- `place` rows

-- the placement of this request along this path, with this holding priority
abbrev made : (q : Request) (hold : ℕ) (path : List Passed) → hold < 8 → Placement
made q hold path below = record { request = q; hold = hold; route = path; priority = below }

placement_once : (q : Request) (hold : ℕ) (walk : List Link) (p r : Placement) → IsPlacementOf q hold walk p → IsPlacementOf q hold walk r → p ≡ r
placement_once q hold walk p r a b =
    let holds : p.hold ≡ r.hold = a.hold ∙ sym b.hold in
    let same : (below : r.hold < 8) → made p.request p.hold p.route p.priority ≡ made p.request r.hold p.route below =
    subst (λ h. (below : h < 8) → made p.request p.hold p.route p.priority ≡ made p.request h p.route below) holds
    (λ below. ap (made p.request p.hold p.route) (le_prop p.priority below)) in
    same r.priority
    ∙ ap (λ (x : Request). made x r.hold p.route r.priority) (a.request ∙ sym b.request)
    ∙ ap (λ (w : List Passed). made r.request r.hold w r.priority) (a.route ∙ sym b.route)

same_book : (a b : BookState) → a.base ≡ b.base → a.version ≡ b.version → a.placements ≡ b.placements → a ≡ b
same_book a b base version placements = λ i. record { base = base i; version = version i; placements = placements i }

book_once : (old : BookState) (q : Request) (hold : ℕ) (answer : Answer) (a b : BookState) → IsAnswerPlaced old q hold answer a → IsAnswerPlaced old q hold answer b → a ≡ b
book_once old q hold (route walk) a b x y =
    let one = placement_once q hold walk x.placement y.placement x.is_its y.is_its in
    same_book a b (x.base ∙ sym y.base) (x.version ∙ sym y.version) (x.placements ∙ rw one (sym y.placements))
book_once old q hold other a b x y = x ∙ sym y

place_reply_once : HasOneReplyLine → (id version : ℕ) (answer : Answer) (l m : List ℕ) → IsPlaceReply id version answer l → IsPlaceReply id version answer m → l ≡ m
place_reply_once reply id version answer l m (rest, is, line) (rest2, is2, line2) =
    let same = reply id version answer (codes "ask" ++ rest) (codes "ask" ++ rest2) is is2 in
    let rests : rest ≡ rest2 = ap (drop 3) same in
    line ∙ rw rests (sym line2)

offer_reply_once : HasOneReplyLine → (id version : ℕ) (answer : Answer) (l m : List ℕ) → IsOfferReply id version answer l → IsOfferReply id version answer m → l ≡ m
offer_reply_once reply id version answer l m (rest, is, line) (rest2, is2, line2) =
    let same = reply id version answer (codes "ask" ++ rest) (codes "ask" ++ rest2) is is2 in
    let rests : rest ≡ rest2 = ap (drop 3) same in
    line ∙ rw rests (sym line2)

-- In this module, a `place` or `offer` row isn't both answered and refused.
module _ (best : OneBestAnswer) (s : BookRunState) (q : Request) (hold : ℕ) where
  -- What an answered `place` or `offer` row says of the answer. `book` is the book that a `place` row
  -- makes.
  record MayBePlaced (book : BookState) : Type 0 where
    room : s.book.version < 900000
    few : HasRoomFor s.book q.id
    answer : Answer
    is_best : IsBestAnswer (effective_beside s.book q.id) q answer
    placed : IsAnswerPlaced s.book q hold answer book

  of_place : (l : List ℕ) (book : BookState) → IsPlaceAnswered s q hold l book → MayBePlaced book
  of_place l book a = record { room = a.room; few = a.few; answer = a.answer; is_best = a.best; placed = a.placed }

  of_offer : (l : List ℕ) (a : IsOfferAnswered s q hold l) → MayBePlaced a.placed
  of_offer l a = record { room = a.room; few = a.few; answer = a.answer; is_best = a.best; placed = a.may }

  -- If the best answer is a route, the request may be placed along this route.
  other_answer : (book : BookState) (a : MayBePlaced book) (walk : List Link) → IsBestAnswer (effective_beside s.book q.id) q (route walk) → IsPlacedAlong s.book q hold walk book
  other_answer book a walk is = subst (λ (x : Answer). IsAnswerPlaced s.book q hold x book) (best _ q a.answer (route walk) a.is_best is) a.placed

  not_refused : (book : BookState) → MayBePlaced book → (why : PlaceRefusal) → IsPlaceRefusal s q why → ⊥
  not_refused book a unplaced.Exhausted r = omega (arith, a.room, r)
  not_refused book a unplaced.Full (room, full) = omega (arith, a.few, full)
  not_refused book a unplaced.Long (room, (few, walk, is, own, long)) = let placed = other_answer book a walk is in omega (arith, placed.short, long)
  not_refused book a unplaced.Links (room, (few, walk, is, own, short, many)) = let placed = other_answer book a walk is in omega (arith, placed.few_links, many)
  not_refused book a unplaced.Twice (room, (few, walk, is, twice)) = twice (other_answer book a walk is).own_keys
  not_refused book a other r = absurd r

  walk_once : (walk other : List Link) → IsBestAnswer (effective_beside s.book q.id) q (route walk) → IsBestAnswer (effective_beside s.book q.id) q (route other) → walk ≡ other
  walk_once walk other a b = let same : route walk ≡ route other = best _ q (route walk) (route other) a b in cc

  place_refusal_once : (why other : PlaceRefusal) → IsPlaceRefusal s q why → IsPlaceRefusal s q other → why ≡ other
  place_refusal_once unplaced.Stopped other a b = absurd a
  place_refusal_once unplaced.Memory other a b = absurd a
  place_refusal_once (unplaced.Failed fault) other a b = absurd a
  place_refusal_once why unplaced.Stopped a b = absurd b
  place_refusal_once why unplaced.Memory a b = absurd b
  place_refusal_once why (unplaced.Failed fault) a b = absurd b
  place_refusal_once unplaced.Exhausted unplaced.Exhausted a b = refl
  place_refusal_once unplaced.Exhausted other a b = absurd (omega (arith, a, b.0))
  place_refusal_once why unplaced.Exhausted a b = absurd (omega (arith, a.0, b))
  place_refusal_once unplaced.Full unplaced.Full a b = refl
  place_refusal_once unplaced.Full other (room, full) (room2, r) = absurd (omega (arith, full, r.0))
  place_refusal_once why unplaced.Full (room, r) (room2, full) = absurd (omega (arith, full, r.0))
  place_refusal_once unplaced.Links unplaced.Links a b = refl
  place_refusal_once unplaced.Long unplaced.Long a b = refl
  place_refusal_once unplaced.Links unplaced.Twice (room, (few, walk, is, own, short, many)) (room2, (few2, other, is2, twice)) = absurd (twice (subst HaveOwnKeys (walk_once walk other is is2) own))
  place_refusal_once unplaced.Twice unplaced.Links (room2, (few2, other, is2, twice)) (room, (few, walk, is, own, short, many)) = absurd (twice (subst HaveOwnKeys (walk_once walk other is is2) own))
  place_refusal_once unplaced.Long unplaced.Twice (room, (few, walk, is, own, long)) (room2, (few2, other, is2, twice)) = absurd (twice (subst HaveOwnKeys (walk_once walk other is is2) own))
  place_refusal_once unplaced.Twice unplaced.Long (room2, (few2, other, is2, twice)) (room, (few, walk, is, own, long)) = absurd (twice (subst HaveOwnKeys (walk_once walk other is is2) own))
  place_refusal_once unplaced.Links unplaced.Long (room, (few, walk, is, own, short, many)) (room2, (few2, other, is2, own2, long)) = absurd (omega (arith, ap length (walk_once walk other is is2), short, long))
  place_refusal_once unplaced.Long unplaced.Links (room2, (few2, other, is2, own2, long)) (room, (few, walk, is, own, short, many)) = absurd (omega (arith, ap length (walk_once walk other is is2), short, long))
  place_refusal_once unplaced.Twice unplaced.Twice a b = refl

  answer_once : HasOneReplyLine → (l m : List ℕ) (a b : BookState) → IsPlaceAnswered s q hold l a → IsPlaceAnswered s q hold m b → (l ≡ m) × (a ≡ b)
  answer_once reply l m a b x y =
      let same : x.answer ≡ y.answer = best _ q x.answer y.answer x.best y.best in
      let book : a ≡ b = book_once s.book q hold y.answer a b (subst (λ (z : Answer). IsAnswerPlaced s.book q hold z a) same x.placed) y.placed in
      let first : IsPlaceReply q.id (name_of s b.version) y.answer l =
      subst (λ (c : BookState). IsPlaceReply q.id (name_of s c.version) y.answer l) book (subst (λ (z : Answer). IsPlaceReply q.id (name_of s a.version) z l) same x.reply) in
      (place_reply_once reply q.id (name_of s b.version) y.answer l m first y.reply, book)

  place_once : HasOneReplyLine → (l m : List ℕ) (t u : BookRunState) → IsPlaceTaken s q hold l t → IsPlaceTaken s q hold m u → SameBookReply l t m u
  place_once reply l m t u (inl (x, after)) (inl (y, after2)) =
      let same = answer_once reply l m t.book u.book x y in
      (same.0, after ∙ ap (after_answer s) same.1 ∙ sym after2)
  place_once reply l m t u (inl (x, after)) (inr (why, r, line, after2)) = absurd (not_refused t.book (of_place l t.book x) why r)
  place_once reply l m t u (inr (why, r, line, after2)) (inl (x, after)) = absurd (not_refused u.book (of_place m u.book x) why r)
  place_once reply l m t u (inr (why, r, line, after)) (inr (why2, r2, line2, after2)) =
      (line ∙ rw (place_refusal_once why why2 r r2) (sym line2), after ∙ sym after2)

  offer_once : HasOneReplyLine → (l m : List ℕ) (t u : BookRunState) → IsOfferTaken s q hold l t → IsOfferTaken s q hold m u → SameBookReply l t m u
  offer_once reply l m t u (inl (x, after)) (inl (y, after2)) =
      let same : x.answer ≡ y.answer = best _ q x.answer y.answer x.best y.best in
      (offer_reply_once reply q.id (name_of s s.book.version) y.answer l m (subst (λ (z : Answer). IsOfferReply q.id (name_of s s.book.version) z l) same x.reply) y.reply, after ∙ sym after2)
  offer_once reply l m t u (inl (x, after)) (inr (why, r, line, after2)) = absurd (not_refused x.placed (of_offer l x) why r)
  offer_once reply l m t u (inr (why, r, line, after2)) (inl (x, after)) = absurd (not_refused x.placed (of_offer m x) why r)
  offer_once reply l m t u (inr (why, r, line, after)) (inr (why2, r2, line2, after2)) =
      (line ∙ rw (place_refusal_once why why2 r r2) (sym line2), after ∙ sym after2)

-- ---- `held` rows

held_refusal_once : (s : BookRunState) (p : Placement) (why other : HeldRefusal) → IsHeldRefusal s p why → IsHeldRefusal s p other → why ≡ other
held_refusal_once s p unheld.Stopped other a b = absurd a
held_refusal_once s p unheld.Memory other a b = absurd a
held_refusal_once s p (unheld.Failed fault) other a b = absurd a
held_refusal_once s p why unheld.Stopped a b = absurd b
held_refusal_once s p why unheld.Memory a b = absurd b
held_refusal_once s p why (unheld.Failed fault) a b = absurd b
held_refusal_once s p unheld.Exhausted unheld.Exhausted a b = refl
held_refusal_once s p unheld.Exhausted other a (room, b) = absurd (omega (arith, a, room))
held_refusal_once s p why unheld.Exhausted (room, a) b = absurd (omega (arith, room, b))
held_refusal_once s p unheld.SameId unheld.SameId a b = refl
held_refusal_once s p unheld.SameId unheld.Full (room, has) (room2, (none, full)) = absurd (none has)
held_refusal_once s p unheld.SameId other (room, has) (room2, r) = absurd (r.0.new_id has)
held_refusal_once s p unheld.Full unheld.SameId (room, (none, full)) (room2, has) = absurd (none has)
held_refusal_once s p why unheld.SameId (room, r) (room2, has) = absurd (r.0.new_id has)
held_refusal_once s p unheld.Full unheld.Full a b = refl
held_refusal_once s p unheld.Full other (room, (none, full)) (room2, r) = absurd (omega (arith, full, r.0.few))
held_refusal_once s p why unheld.Full (room2, r) (room, (none, full)) = absurd (omega (arith, full, r.0.few))
held_refusal_once s p unheld.Long unheld.Long a b = refl
held_refusal_once s p unheld.Long other (room, (place, long)) (room2, r) = absurd (omega (arith, long, r.1))
held_refusal_once s p why unheld.Long (room2, r) (room, (place, long)) = absurd (omega (arith, long, r.1))
held_refusal_once s p unheld.Twice unheld.Twice a b = refl
held_refusal_once s p unheld.Twice unheld.Links (room, (place, short, twice)) (room2, (place2, short2, once, many)) = absurd (twice once)
held_refusal_once s p unheld.Links unheld.Twice (room2, (place2, short2, once, many)) (room, (place, short, twice)) = absurd (twice once)
held_refusal_once s p unheld.Links unheld.Links a b = refl

not_held : (s : BookRunState) (p : Placement) (why : HeldRefusal) → s.book.version < 900000 → MayBeAdded s.book.placements p → IsHeldRefusal s p why → ⊥
not_held s p unheld.Exhausted room may r = omega (arith, room, r)
not_held s p unheld.SameId room may (room2, has) = may.place.new_id has
not_held s p unheld.Full room may (room2, (none, full)) = omega (arith, may.place.few, full)
not_held s p unheld.Long room may (room2, (place, long)) = omega (arith, may.short, long)
not_held s p unheld.Twice room may (room2, (place, short, twice)) = twice may.once
not_held s p unheld.Links room may (room2, (place, short, once, many)) = omega (arith, may.few_links, many)
not_held s p other room may r = absurd r

held_once : (s : BookRunState) (p : Placement) (l m : List ℕ) (t u : BookRunState) → IsHeldTaken s p l t → IsHeldTaken s p m u → SameBookReply l t m u
held_once s p l m t u (inl (room, may, line, after)) (inl (room2, may2, line2, after2)) = (line ∙ sym line2, after ∙ sym after2)
held_once s p l m t u (inl (room, may, line, after)) (inr (why, r, line2, after2)) = absurd (not_held s p why room may r)
held_once s p l m t u (inr (why, r, line2, after2)) (inl (room, may, line, after)) = absurd (not_held s p why room may r)
held_once s p l m t u (inr (why, r, line, after)) (inr (why2, r2, line2, after2)) =
    (line ∙ rw (held_refusal_once s p why why2 r r2) (sym line2), after ∙ sym after2)

-- ---- `release` rows

release_refusal_once : (s : BookRunState) (id : ℕ) (why other : ReleaseRefusal) → IsReleaseRefusal s id why → IsReleaseRefusal s id other → why ≡ other
release_refusal_once s id unreleased.Stopped other a b = absurd a
release_refusal_once s id unreleased.Memory other a b = absurd a
release_refusal_once s id (unreleased.Failed fault) other a b = absurd a
release_refusal_once s id why unreleased.Stopped a b = absurd b
release_refusal_once s id why unreleased.Memory a b = absurd b
release_refusal_once s id why (unreleased.Failed fault) a b = absurd b
release_refusal_once s id unreleased.Exhausted unreleased.Exhausted a b = refl
release_refusal_once s id unreleased.Exhausted unreleased.Absent a b = absurd (omega (arith, a, b.0))
release_refusal_once s id unreleased.Absent unreleased.Exhausted a b = absurd (omega (arith, a.0, b))
release_refusal_once s id unreleased.Absent unreleased.Absent a b = refl

not_released : (s : BookRunState) (id : ℕ) (why : ReleaseRefusal) → s.book.version < 900000 → IsTrue (has_id id s.book.placements) → IsReleaseRefusal s id why → ⊥
not_released s id unreleased.Exhausted room has r = omega (arith, room, r)
not_released s id unreleased.Absent room has r = r.1 has
not_released s id other room has r = absurd r

release_once : (s : BookRunState) (id : ℕ) (l m : List ℕ) (t u : BookRunState) → IsReleaseTaken s id l t → IsReleaseTaken s id m u → SameBookReply l t m u
release_once s id l m t u (inl (room, has, line, after)) (inl (room2, has2, line2, after2)) = (line ∙ sym line2, after ∙ sym after2)
release_once s id l m t u (inl (room, has, line, after)) (inr (why, r, line2, after2)) = absurd (not_released s id why room has r)
release_once s id l m t u (inr (why, r, line2, after2)) (inl (room, has, line, after)) = absurd (not_released s id why room has r)
release_once s id l m t u (inr (why, r, line, after)) (inr (why2, r2, line2, after2)) =
    (line ∙ rw (release_refusal_once s id why why2 r r2) (sym line2), after ∙ sym after2)

-- ---- each row

step_once : OneBestAnswer → HasOneReplyLine → OneRefusal → (s : BookRunState) (row : Step) (l m : List ℕ) (t u : BookRunState)
    → IsBookStepAnswered s row l t → IsBookStepAnswered s row m u → SameBookReply l t m u
step_once best reply one s (step.Change c) l m t u a b = (a.0 ∙ sym b.0, a.1 ∙ sym b.1)
step_once best reply one s (step.End number count) l m t u a b = end_once one s number count l m t u a b
step_once best reply one s (step.Ask q) l m t u a b = ask_once best reply s q l m t u a b

pub book_row_once : OneBestAnswer → HasOneReplyLine → OneRefusal → (place : ℕ) (s : BookRunState) (r : Result BookRow BookRowError) (l m : List ℕ) (t u : BookRunState)
    → IsBookRowAnswered place s r l t → IsBookRowAnswered place s r m u → SameBookReply l t m u
book_row_once best reply one place s (Err error) l m t u a b = (a.0 ∙ sym b.0, a.1 ∙ sym b.1)
book_row_once best reply one place s (Ok (book_row.Base row)) l m t u a b = step_once best reply one s (step_of row) l m t u a b
book_row_once best reply one place s (Ok (book_row.Place q hold)) l m t u a b = place_once best s q hold reply l m t u a b
book_row_once best reply one place s (Ok (book_row.Release id)) l m t u a b = release_once s id l m t u a b
book_row_once best reply one place s (Ok (book_row.Held p)) l m t u a b = held_once s p l m t u a b
book_row_once best reply one place s (Ok (book_row.Offer q hold)) l m t u a b = offer_once best s q hold reply l m t u a b
book_row_once best reply one place s (Ok (book_row.Show id)) l m t u a b = shown_once s id (placement_of id s.book.placements) l m t u a b
book_row_once best reply one place s (Ok (book_row.Left from local)) l m t u a b = left_once s (from, local) (figures_at s.book.base s.book.placements (from, local)) l m t u a b
