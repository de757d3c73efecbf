-- `value_run` meets its contract: the run lies between the value's place and the next one's.
use Rattle.comparing.proofs.Cut.{run-dots}
use Rattle.comparing.proofs.value_run.Goals as goal

pub returns : goal.returns
returns c = λ n l h r. let q = r.each c.args.j h in (run-dots q, rw (run-dots q) q.lawful)
