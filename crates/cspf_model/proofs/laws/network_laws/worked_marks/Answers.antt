use Rattle.cspf_model.proofs.Networks.Marks.{may_be_asked, unmarked, middle, head_end, tail_end, to_head_end, again, again_unmarked, marked, mark_taken}
use Rattle.cspf_model.proofs.Networks.GrownWalks.{walks_grow}
use Rattle.cspf_model.proofs.laws.network_laws.worked_marks.Goals as goal

pub returns : goal.returns
returns c = assumption (may_be_asked, unmarked, middle, head_end, tail_end, to_head_end, again, again_unmarked, walks_grow, marked, mark_taken)
