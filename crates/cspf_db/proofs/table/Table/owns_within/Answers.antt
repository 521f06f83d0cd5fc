use Rattle.std.proofs.Common.{◌≡◌, false, slice_index, slice_range, refl}
use Rattle.cspf_columns.specs.Index.{router_list}
use Rattle.cspf_db.proofs.Tables.CoveredRanges.{none_in_range}
use Rattle.cspf_columns.proofs.InterfaceRange.{router_at, known_at, owned_by_links}
use Rattle.cspf_columns.proofs.OwnedPrefixes.{owned_itself}
use Rattle.cspf_columns.proofs.RouterLists.{span_at, span_read}
use Rattle.cspf_db.proofs.table.Table.owns_within.Goals as goal

pub returns-then-contains : goal.returns-then-contains
returns-then-contains c =
    let is : c.index.result.now ≡ slice_index (router_list c.args.self.now) c.args.at =
    router_at c.args.self.now c.self.inside.columns.rows.items c.self.inside.marks.items c.self.inside.columns.routers.items c.args.at c.index.result.now c.self.view_is c.self.invariant.columns.parts.all c.requires.bound c.index.ensures in
    let known = known_at c.args.self.now c.self.inside.columns.rows.items c.self.inside.marks.items c.args.at c.self.view_is c.requires.bound in
    owned_itself _ _ _ _ refl known (rw is at ((c.requires.range _).1 (c.contains.ensures.0 c.if-contains.true)))

pub returns-then-misses : goal.returns-then-misses
returns-then-misses c =
    let rows = c.self.inside.columns.rows.items in
    let marks = c.self.inside.marks.items in
    let routers = c.self.inside.columns.routers.items in
    let spans = c.self.inside.columns.spans.items in
    let by_key = c.self.invariant.columns.parts.by_key in
    let all = c.self.invariant.columns.parts.all in
    let span = c.index-span.result.now in
    let is : c.index.result.now ≡ slice_index (router_list c.args.self.now) c.args.at =
    router_at c.args.self.now rows marks routers c.args.at c.index.result.now c.self.view_is all c.requires.bound c.index.ensures in
    let known = known_at c.args.self.now rows marks c.args.at c.self.view_is c.requires.bound in
    let part = span_at c.args.self.now rows marks routers spans c.args.at span c.self.view_is by_key all c.self.invariant.columns.spans c.requires.bound c.index-span.ensures in
    let read = span_read c.args.self.now rows marks routers spans c.args.at span c.self.view_is all c.self.invariant.columns.spans c.requires.bound c.index-span.ensures in
    owned_by_links _ rows marks (slice_range rows span.first span.end) c.args.prefix _ false c.self.view_is by_key known part
    (λ covered. let on = c.contains.ensures.1 ((c.requires.range _).0 (rw is covered)) in cc)
    (λ no. absurd (cc))
    (λ _. none_in_range c.args.prefix c.args.range.now span.lowest span.highest (slice_range rows span.first span.end) c.requires.range read.lowest read.highest (c.misses.ensures c.if-misses.true))

pub returns : goal.returns
returns c =
    let rows = c.self.inside.columns.rows.items in
    let marks = c.self.inside.marks.items in
    let is : c.index.result.now ≡ slice_index (router_list c.args.self.now) c.args.at =
    router_at c.args.self.now rows marks c.self.inside.columns.routers.items c.args.at c.index.result.now c.self.view_is c.self.invariant.columns.parts.all c.requires.bound c.index.ensures in
    let known = known_at c.args.self.now rows marks c.args.at c.self.view_is c.requires.bound in
    owned_by_links _ rows marks c.out_at.result.now c.args.prefix _ _ c.self.view_is c.self.invariant.columns.parts.by_key known c.out_at.ensures
    (λ covered. let on = c.contains.ensures.1 ((c.requires.range _).0 (rw is covered)) in cc)
    c.any_within.ensures.yes c.any_within.ensures.no
