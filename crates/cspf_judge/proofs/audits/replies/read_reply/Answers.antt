use Rattle.std.proofs.Common.{rules, ◌≡◌, ◌∙◌, Some, true, false, get_or, ap, refl}
use Rattle.std.proofs.lemmas.Option.{slice_get-get_or}
use Rattle.std.specs.BTreeMap.{get}
use Rattle.std.specs.Ordering.{nat_cmp}
use Rattle.cspf_judge.proofs.audits.replies.read_reply.Goals as goal

pub returns-then-named-request-clause-says : goal.returns-then-named-request-clause-says
returns-then-named-request-clause-says g c =
    let at = c.in-Some-copied.request in
    let found : get nat_cmp c.args.ids.now c.in-Some.head.id ≡ Some at = search rules in
    let was : get_or c.args.named.now at false ≡ true = search rules in (
      c.in-Some.head,
      rw c.in-Some.is at c.in_ok-head.ensures.some,
      (at, found, slice_get-get_or c.args.named.now at false (c.requires.within c.in-Some.head.id at found) ∙ ap Some was),
      refl,
    )

pub returns-then-head-last-clause-says : goal.returns-then-head-last-clause-says
returns-then-head-last-clause-says g c =
    let at = c.in-Some-copied.request in
    let found : get nat_cmp c.args.ids.now c.in-Some.head.id ≡ Some at = search rules in
    let was : get_or c.args.named.now at false ≡ false = search rules in (
      c.in-Some.head,
      rw c.in-Some.is at c.in_ok-head.ensures.some,
      search rules,
      (at, found, slice_get-get_or c.args.named.now at false (c.requires.within c.in-Some.head.id at found) ∙ ap Some was, refl),
    )

pub returns-clause-says : goal.returns-clause-says
returns-clause-says g c =
    let at = c.in-Some-copied.request in
    let found : get nat_cmp c.args.ids.now c.in-Some.head.id ≡ Some at = search rules in
    let was : get_or c.args.named.now at false ≡ false = search rules in (
      c.in-Some.head.id,
      rw c.in-Some.is at c.in_ok-head.ensures.some,
      search rules,
      found,
      slice_get-get_or c.args.named.now at false (c.requires.within c.in-Some.head.id at found) ∙ ap Some was,
      refl,
    )
