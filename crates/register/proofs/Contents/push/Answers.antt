-- `Contents::push` meets its contract: a store behind the last.
use mathlib.Core.Path.{ap}
use Rattle.listlaws.proofs.Pads.{push-pad, length-snoc}
use Rattle.limits.specs.Limits.{value_limit}
use Rattle.register.specs.Values.{no_content}
use native.Mathlib.Omega.{arith}
use Rattle.register.proofs.Contents.push.Goals as goal

pub returns : goal.returns
returns c = λ l e. rw (e, push-pad no_content value_limit l _ (omega (arith, ap (λ k. k.len) e)), length-snoc l _)
