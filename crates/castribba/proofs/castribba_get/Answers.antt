-- `castribba_get` meets its contract: each way out is a law of `Ways`.
use mathlib.Core.Path.{refl, sym, ◌∙◌}
use Rattle.answers.proofs.Answers.{passes}
use Rattle.promises.proofs.Ways.{first_out}
use Rattle.castribba.proofs.castribba_get.Goals as goal

pub returns-then-l-ne0 : goal.returns-then-l-ne0
returns-then-l-ne0 c = first_out _ _ c.lay_out-l.ensures.0 c.if-l-ne0.true c.word.ensures

pub give_key-requires : goal.give_key-requires
give_key-requires c = (c.lay_out-l.ensures.1 c.if-l-ne0.false).lies

pub returns : goal.returns
returns c =
    let l = c.lay_out-l.ensures in
    passes _ (sym l.0 ∙ c.if-l-ne0.false) refl c.give_key.ensures
