-- `content_at` meets its contract: a value's record says its number and its origin.
use mathlib.Core.Path.{ap, ◌∙◌}
use native.Mathlib.Omega.{arith}
use Rattle.clockimage.specs.Image.{content_of}
use Rattle.entrywalk.proofs.Lying.{value-content, value-inside}
use Rattle.differing.proofs.pairing.content_at.Goals as goal

pub read_record-r-requires : goal.read_record-r-requires
read_record-r-requires c = let p = c.requires in omega (arith, value-inside p.1 _ p.2)

pub returns : goal.returns
returns c = λ e h k. ap content_of c.read_record-r.ensures ∙ value-content h _ k
