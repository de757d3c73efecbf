-- `Sketched::new` meets its contract.
use mathlib.Core.Path.{refl, ◌∙◌}
use mathlib.Core.List.Memᴰ
use Rattle.sketch.proofs.Sketched.new.Goals as goal

pub returns : goal.returns
returns c = (
  refl,
  λ s t d e. record {
    named = refl;
    clock = c.of-own.ensures ∙ e;
    many = refl;
    values = λ n.
        (refl, record { each = λ x i. absurd (Memᴰ.not-nil i) });
  },
)
