use Rattle.cspf_search.proofs.rounds.keep.Goals as goal

pub compare-requires-clause-first : goal.compare-requires-clause-first
compare-requires-clause-first c = c.requires.first c.in-Some.kept c.in-Some.is
