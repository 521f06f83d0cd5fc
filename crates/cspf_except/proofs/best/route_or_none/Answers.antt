use Rattle.cspf_except.proofs.best.route_or_none.Goals as goal

pub returns : goal.returns
returns c = c.none_if_unknown.ensures c.args.table.now c.args.request.now c.in_ok-found.ensures
