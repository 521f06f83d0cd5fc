-- The words for the reason why a batch is refused.
use Rattle.std.specs.Prelude.{ℕ, List, ◌++◌, codes}
use Rattle.std.specs.Fmt.{decimal}
use Rattle.cspf_model.specs.declared.refusal.Refusal.{Refusal}
use Rattle.cspf_model.specs.declared.refusal.Refusal.TheVariants as unfit
use Rattle.cspf_stream.specs.declared.batch_refusal.BatchRefusal.{BatchRefusal}
use Rattle.cspf_stream.specs.declared.batch_refusal.BatchRefusal.TheVariants as refusal

-- the words for the reason why a batch doesn't fit the database
abbrev pub unfit_words : Refusal → List ℕ
unfit_words unfit.TooLong = codes "long"
unfit_words (unfit.Duplicate at) = codes "duplicate " ++ decimal at
unfit_words (unfit.Absent at) = codes "absent " ++ decimal at
unfit_words unfit.Full = codes "full"
unfit_words unfit.TooManyRouters = codes "routers"
unfit_words unfit.TooManyMarks = codes "marks"

-- the words for each reason why a batch is refused
abbrev pub batch_words : BatchRefusal → List ℕ
batch_words refusal.Stopped = codes "stopped"
batch_words refusal.Exhausted = codes "exhausted"
batch_words (refusal.WrongNumber expected) = codes "expected " ++ decimal expected
batch_words (refusal.WrongCount counted) = codes "counted " ++ decimal counted
batch_words (refusal.Unfit why) = unfit_words why
batch_words refusal.Memory = codes "memory"
batch_words (refusal.Journal written) = codes "journal " ++ decimal written
batch_words (refusal.Keep written) = codes "keep " ++ decimal written
