-- The fault of the first worker in a list that has a fault.
use Rattle.std.proofs.Common.{◌≡◌, List, [], ◌∷◌, ◌++◌, Option, None, IfSome, IsNone, ap, ◌∙◌, rules}
use Rattle.core.specs.Option.{option_or}
use Rattle.cspf_work.specs.declared.serve_error.ServeError.{ServeError}
use Rattle.cspf_work.specs.declared.worker.Worker.{Worker}
use Rattle.cspf_work.specs.Served.{IsFaultOfWorker}
use Rattle.cspf_work.specs.Working.{first_fault}

option_or-none : (o : Option ServeError) → option_or o None ≡ o
option_or-none o = search rules

option_or-assoc : (a b c : Option ServeError) → option_or a (option_or b c) ≡ option_or (option_or a b) c
option_or-assoc a b c = search rules

-- A worker is added at the end of a list. If an earlier worker has a fault, the first fault is
-- still the fault of an earlier worker. Otherwise it is the fault of the new worker.
pub first_fault-push : (ws : List Worker) (w : Worker) → first_fault (ws ++ w ∷ []) ≡ option_or (first_fault ws) w.fault
first_fault-push [] w = option_or-none w.fault
first_fault-push (v ∷ ws) w = ap (option_or v.fault) (first_fault-push ws w) ∙ option_or-assoc v.fault (first_fault ws) w.fault

-- if each of two optional faults is one that a worker can have, the same is true of their
-- `option_or`
pub fault_of_either : (found next : Option ServeError) → IfSome found IsFaultOfWorker → IfSome next IsFaultOfWorker → IfSome (option_or found next) IsFaultOfWorker
fault_of_either found next a b = search rules

-- if `option_or` of two optional faults is `None`, both of them are `None`
pub none_of_either : (found next : Option ServeError) → IsNone (option_or found next) → IsNone found × IsNone next
none_of_either found next none = search rules
