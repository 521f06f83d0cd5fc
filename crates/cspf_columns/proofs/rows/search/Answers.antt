use Rattle.std.proofs.Common.{rules}
use Rattle.std.proofs.lemmas.Fn.{always_returns_same}
use Rattle.cspf_model.specs.declared.link.Link.{Link}
use Rattle.cspf_model.specs.Database.{key_of, key_cmp}
use Rattle.cspf_columns.proofs.RowOrder.{found_key, key_gap}
use Rattle.cspf_columns.proofs.rows.search.Goals as goal

pub returns-clause-found : goal.returns-clause-found
returns-clause-found c =
    found_key c.args.rows.now (c.args.from, c.args.local) _ (c.binary_search_by.ensures.position (λ (l : Link). key_cmp (key_of l) (c.args.from, c.args.local)) (always_returns_same _ _ _ (λ a r q k. search rules)))

pub returns-clause-gap : goal.returns-clause-gap
returns-clause-gap c =
    key_gap c.args.rows.now (c.args.from, c.args.local) _ c.requires (c.binary_search_by.ensures.position (λ (l : Link). key_cmp (key_of l) (c.args.from, c.args.local)) (always_returns_same _ _ _ (λ a r q k. search rules)))
