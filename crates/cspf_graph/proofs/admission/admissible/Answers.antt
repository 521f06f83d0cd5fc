use Rattle.cspf_graph.proofs.admission.admissible.Goals as goal

pub returns-then-accepts : goal.returns-then-accepts
returns-then-accepts c = (
  λ there. record { admitted = c.accepts.ensures.0 c.if-accepts.true; reverse = c.has_reverse.ensures.0 there },
  λ usable. c.has_reverse.ensures.1 usable.reverse,
)
