use Rattle.std.proofs.Common.{length, sym, ap, ◌∙◌, arith}
use Rattle.std.proofs.lemmas.Bool.{false≢true}
use Rattle.std.proofs.lemmas.List.{length-map}
use Rattle.cspf_book.specs.Placements.{passed_of, ArePassedOnce}
use Rattle.cspf_book.proofs.TwiceUsed.{once-path}
use Rattle.cspf_book.proofs.offer.placement_on.Goals as goal

pub returns-then-not-has_own_keys-clause-refused : goal.returns-then-not-has_own_keys-clause-refused
returns-then-not-has_own_keys-clause-refused c =
    λ own.
    let whole = c.links-links.ensures ∙ c.in_ok-path.ensures in
    let once = ap ArePassedOnce whole ∙ once-path c.args.route.now in
    false≢true (sym c.if-not-has_own_keys.true ∙ c.has_own_keys.ensures.1 (coe 1 0 (k. once k) own))

pub returns-then-links-gt-MOST_PLACED_LINKS-clause-refused : goal.returns-then-links-gt-MOST_PLACED_LINKS-clause-refused
returns-then-links-gt-MOST_PLACED_LINKS-clause-refused c =
    let whole = c.links-links.ensures ∙ c.in_ok-path.ensures in
    let once = ap ArePassedOnce whole ∙ once-path c.args.route.now in
    let long = ap length whole ∙ length-map c.args.route.now passed_of in
    (coe 0 1 (k. once k) (c.has_own_keys.ensures.0 c.if-not-has_own_keys.false), omega (arith, long, c.if-links-gt-MOST_PLACED_LINKS.true))

pub returns-then-links-room-clause-refused : goal.returns-then-links-room-clause-refused
returns-then-links-room-clause-refused c =
    let whole = c.links-links.ensures ∙ c.in_ok-path.ensures in
    let once = ap ArePassedOnce whole ∙ once-path c.args.route.now in
    let long = ap length whole ∙ length-map c.args.route.now passed_of in
    (coe 0 1 (k. once k) (c.has_own_keys.ensures.0 c.if-not-has_own_keys.false), omega (arith, long, c.if-links-gt-MOST_PLACED_LINKS.false), omega (arith, long, c.if-links-room.true))

pub returns-clause-own_keys : goal.returns-clause-own_keys
returns-clause-own_keys c =
    let whole = c.links-links.ensures ∙ c.in_ok-path.ensures in
    let once = ap ArePassedOnce whole ∙ once-path c.args.route.now in
    coe 0 1 (k. once k) (c.has_own_keys.ensures.0 c.if-not-has_own_keys.false)
