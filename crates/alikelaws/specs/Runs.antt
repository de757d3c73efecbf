-- The operations that images hold, and whose put clocks name their own dots.
use Rattle.std.specs.Prelude.{List, map, ℕ}
use Rattle.entries.specs.declared.Update.{Update}
use Rattle.map.specs.declared.Op.{Op}
use Rattle.opimage.specs.OpImage.{read_op}
use Rattle.alikelaws.specs.Among.{UpdateIn}
use Rattle.readiness.specs.Ready.{put_of}
use Rattle.alikelaws.specs.Honest.{Names}

-- the operations that images hold
abbrev pub op_of : List ℕ → Op
op_of o = (read_op o).op

abbrev pub ops_of : List (List ℕ) → List Op
ops_of ops = map op_of ops

-- "every update .. [has] a put clock that names its own dot", or a later one of its actor
abbrev pub OwnDots : List Op → Type 0
OwnDots ops = (u : Update) → UpdateIn ops u → Names (put_of u) u
