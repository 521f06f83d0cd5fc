use Rattle.std.proofs.Common.{false, length, sym, ap, ◌∙◌, arith}
use Rattle.std.proofs.lemmas.Bool.{false≢true}
use Rattle.cspf_book.specs.Restoring.{HasPlaceFor}
use Rattle.cspf_book.proofs.Ids.{index_of-le, none-behind, id_at-index_of}
use Rattle.cspf_book.proofs.moves.Held.test_adding.Goals as goal

pub returns-then-index_of-placements-clause-why : goal.returns-then-index_of-placements-clause-why
returns-then-index_of-placements-clause-why c =
    let ps = c.args.placements.now in
    let at = c.index_of.ensures c.requires.ids.0 ps c.requires.ids.1 in
    id_at-index_of c.args.placement.now.request.id ps (omega (arith, at, c.if-index_of-placements.true))

pub returns-then-placements-ge-MOST_PLACEMENTS-clause-why :
    goal.returns-then-placements-ge-MOST_PLACEMENTS-clause-why
returns-then-placements-ge-MOST_PLACEMENTS-clause-why c =
    let ps = c.args.placements.now in
    let id = c.args.placement.now.request.id in
    let at = c.index_of.ensures c.requires.ids.0 ps c.requires.ids.1 in
    let none = none-behind id ps (omega (arith, at, index_of-le id ps, c.if-index_of-placements.false)) in
    (λ has. false≢true (sym none ∙ has), c.if-placements-ge-MOST_PLACEMENTS.true)

pub returns-then-links-gt-MOST_PLACED_LINKS-clause-why :
    goal.returns-then-links-gt-MOST_PLACED_LINKS-clause-why
returns-then-links-gt-MOST_PLACED_LINKS-clause-why c =
    let ps = c.args.placements.now in
    let id = c.args.placement.now.request.id in
    let at = c.index_of.ensures c.requires.ids.0 ps c.requires.ids.1 in
    let none = none-behind id ps (omega (arith, at, index_of-le id ps, c.if-index_of-placements.false)) in
    let place : HasPlaceFor ps c.args.placement.now = record { new_id = λ has. false≢true (sym none ∙ has); few = omega (arith, c.if-placements-ge-MOST_PLACEMENTS.false) } in
    (place, omega (arith, ap length c.links-links.ensures, c.if-links-gt-MOST_PLACED_LINKS.true))

pub returns-then-not-has_own_keys-clause-why : goal.returns-then-not-has_own_keys-clause-why
returns-then-not-has_own_keys-clause-why c =
    let ps = c.args.placements.now in
    let id = c.args.placement.now.request.id in
    let at = c.index_of.ensures c.requires.ids.0 ps c.requires.ids.1 in
    let none = none-behind id ps (omega (arith, at, index_of-le id ps, c.if-index_of-placements.false)) in
    let place : HasPlaceFor ps c.args.placement.now = record { new_id = λ has. false≢true (sym none ∙ has); few = omega (arith, c.if-placements-ge-MOST_PLACEMENTS.false) } in
    let own = rw c.links-links.ensures at c.has_own_keys.ensures in
    (place, omega (arith, ap length c.links-links.ensures, c.if-links-gt-MOST_PLACED_LINKS.false), λ once. false≢true (sym c.if-not-has_own_keys.true ∙ own.1 once))

pub returns-then-links-self-clause-why : goal.returns-then-links-self-clause-why
returns-then-links-self-clause-why c =
    let ps = c.args.placements.now in
    let id = c.args.placement.now.request.id in
    let at = c.index_of.ensures c.requires.ids.0 ps c.requires.ids.1 in
    let none = none-behind id ps (omega (arith, at, index_of-le id ps, c.if-index_of-placements.false)) in
    let place : HasPlaceFor ps c.args.placement.now = record { new_id = λ has. false≢true (sym none ∙ has); few = omega (arith, c.if-placements-ge-MOST_PLACEMENTS.false) } in
    let own = rw c.links-links.ensures at c.has_own_keys.ensures in
    let long = ap length c.links-links.ensures in
    (place, omega (arith, long, c.if-links-gt-MOST_PLACED_LINKS.false), own.0 c.if-not-has_own_keys.false, omega (arith, long, c.requires.links, c.requires.few, c.if-links-self.true))

pub returns-clause-ok : goal.returns-clause-ok
returns-clause-ok c =
    let ps = c.args.placements.now in
    let id = c.args.placement.now.request.id in
    let at = c.index_of.ensures c.requires.ids.0 ps c.requires.ids.1 in
    let none = none-behind id ps (omega (arith, at, index_of-le id ps, c.if-index_of-placements.false)) in
    let own = rw c.links-links.ensures at c.has_own_keys.ensures in
    let long = ap length c.links-links.ensures in
    record {
      place = record { new_id = λ has. false≢true (sym none ∙ has); few = omega (arith, c.if-placements-ge-MOST_PLACEMENTS.false) };
      short = omega (arith, long, c.if-links-gt-MOST_PLACED_LINKS.false);
      once = own.0 c.if-not-has_own_keys.false;
      few_links = omega (arith, long, c.requires.links, c.requires.few, c.if-links-self.false);
    }
