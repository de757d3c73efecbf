-- `castribba_ready` meets its contract.
use mathlib.Core.Path.{refl, ap, ◌∙◌}
use Prim.Native.Nat.{◌*◌, ◌^◌}
use Rattle.verdicts.specs.declared.ReadyVerdict.{ReadyVerdict}
use Rattle.answers.proofs.Answers.{bare}
use Rattle.castribba.proofs.castribba_ready.Goals as goal

pub returns : goal.returns
returns c = c.word.ensures ∙ ap (λ (v : ReadyVerdict). v.number * 2 ^ 32) c.ready-v.ensures ∙ bare _ _ refl refl
