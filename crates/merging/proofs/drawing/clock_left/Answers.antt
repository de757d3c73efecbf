-- `clock_left` meets its contract: two cuts, one after the other.
use Rattle.merging.proofs.drawing.clock_left.Goals as goal

pub returns : goal.returns
returns c = λ v w key d q r m n e. c.cut_listed.ensures w key _ r n (c.cut_listed-half.ensures v key d q m e)
