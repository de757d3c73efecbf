-- `held_keys` meets its contract: the records behind the clock's, or none.
use mathlib.Core.Path.{refl, sym, ◌∙◌}
use native.Mathlib.Omega.{arith}
use Rattle.queued.proofs.Starts.{keyed-none, keyed-removal}
use Rattle.drafting.proofs.Results.{removal-keys}
use Rattle.drafting.proofs.held.held_keys.Goals as goal

pub returns-then-waiting : goal.returns-then-waiting
returns-then-waiting f = λ r seen h e.
    let a = f.args in
    let k = removal-keys a.op.now r _ _ h.records h.count refl in
    rw (sym e ∙ f.if-waiting.true) (keyed-removal r k.0 (omega arith) h.within.valid.keys k.1)

pub returns : goal.returns
returns f = λ r seen h e. rw (sym e ∙ f.if-waiting.false) (keyed-none _ 0 (omega arith))

pub overflow_add-result : goal.overflow_add-result
overflow_add-result c = let h = c.requires.1 in omega (arith, h.count, h.within.dots)
