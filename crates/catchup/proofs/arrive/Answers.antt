-- `arrive` meets its contract: the run of the operations on a copy of our map, and its end held against theirs.
use Rattle.catchup.proofs.Words.{copied}
use Rattle.catchup.proofs.Judged.{run-refused, run-there, run-elsewhere}
use Rattle.catchup.proofs.arrive.Goals as goal

pub returns-then-ran-ne0 : goal.returns-then-ran-ne0
returns-then-ran-ne0 c =
    let z = c.before.before.before.before in
    run-refused _ _ _ (rw (copied z.copy_run-n.ensures) at z.run-ran.ensures) c.if-ran-ne0.true

pub returns-then-same_bytes : goal.returns-then-same_bytes
returns-then-same_bytes c =
    let y = c.before.before.before.before in
    let z = y.before.before.before.before in
    run-there _ _ _ (rw (copied z.copy_run-n.ensures) at z.run-ran.ensures) y.if-ran-ne0.false
    c.same_bytes.ensures c.if-same_bytes.true

pub returns : goal.returns
returns c =
    let y = c.before.before.before.before.before in
    let z = y.before.before.before.before in
    run-elsewhere _ _ _ (rw (copied z.copy_run-n.ensures) at z.run-ran.ensures) y.if-ran-ne0.false
    c.same_bytes.ensures c.if-same_bytes.false c.told.ensures
