use Rattle.std.proofs.Common.{rules}
use Rattle.cspf_work.proofs.Filling.{put_twice, put_free}
use Rattle.cspf_work.proofs.collecting.put.Goals as goal

pub returns-then-is_some-clause-error : goal.returns-then-is_some-clause-error
returns-then-is_some-clause-error c = λ done is.
    put_twice c.args.slots.now.items done c.args.reply c.index.result.now (search rules) (search rules) (search rules) is

pub returns-clause-ok : goal.returns-clause-ok
returns-clause-ok c = λ done is.
    put_free c.args.slots.now.items done c.args.reply c.index.result.now (search rules) (search rules) (search rules) is
