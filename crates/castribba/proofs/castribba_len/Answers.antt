-- `castribba_len` meets its contract.
use mathlib.Core.Path.{refl, ap, ◌∙◌}
use Prim.Native.Nat.{◌*◌, ◌^◌}
use Rattle.answers.proofs.Answers.{bare}
use Rattle.verdicts.proofs.Carrying.{number-alone}
use Rattle.castribba.proofs.castribba_len.Goals as goal

pub returns : goal.returns
returns c = c.word.ensures ∙ ap (λ n. n * 2 ^ 32) c.lay_out-l.ensures.0 ∙ bare _ _ (number-alone _) refl
