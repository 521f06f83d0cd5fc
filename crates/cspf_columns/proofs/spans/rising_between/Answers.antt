use Rattle.cspf_columns.proofs.InterfaceRange.{lowest_first, highest_last}
use Rattle.cspf_columns.proofs.spans.rising_between.Goals as goal

pub returns-then-first-end-clause-lowest : goal.returns-then-first-end-clause-lowest
returns-then-first-end-clause-lowest c = lowest_first c.args.rows.now c.args.first c.args.end c.if-first-end.true c.requires.bound c.requires.rising c.index-rows-first.result

pub returns-then-first-end-clause-highest : goal.returns-then-first-end-clause-highest
returns-then-first-end-clause-highest c = highest_last c.args.rows.now c.args.first c.args.end c.if-first-end.true c.requires.bound c.requires.rising c.index-rows-end.result
