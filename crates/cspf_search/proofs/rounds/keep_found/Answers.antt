use Rattle.cspf_search.proofs.rounds.keep_found.Goals as goal

pub keep-requires-clause-second : goal.keep-requires-clause-second
keep-requires-clause-second c = c.requires.second c.in-Some.node c.in-Some.is
